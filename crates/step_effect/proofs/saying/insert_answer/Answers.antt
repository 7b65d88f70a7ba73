-- `step_effect::saying::insert_answer` meets its contract: two checks, in their order. Assumes nothing.
use Rattle.step_effect.proofs.JudgeLaws.{insert-said}
use Rattle.step_effect.proofs.saying.insert_answer.Goals as goal

pub returns : goal.returns
returns c q held tables =
    insert-said c.args.node c.args.content q c.args.vars c.draft_of-draft.result c.draft_of-draft.ensures.0 c.requires.2
    (rw (c.column_kinds.ensures, c.given.ensures) at c.fits_columns-fits.ensures)
    c.checked.result c.checked-2.result c.checked.ensures c.checked-2.ensures held tables
