-- `step_effect::saying::insert_table_answer` meets its contract: two checks, in their order. Assumes nothing.
use Rattle.step_effect.proofs.JudgeLaws.{append-said}
use Rattle.step_effect.proofs.saying.insert_table_answer.Goals as goal

pub returns : goal.returns
returns c held tables =
    append-said c.args.node c.args.content c.args.source c.args.vars c.requires.2
    (rw (c.column_kinds.ensures, c.column_kinds-2.ensures) at c.same_columns-same.ensures)
    c.checked.result c.checked-2.result c.checked.ensures c.checked-2.ensures held tables
