-- Each kind is that of its component, and past the components in use there is none.
use Rattle.std.proofs.Common.{length, rules, tests}
use Rattle.values.specs.Operands.{bind}
use Rattle.rows.specs.View.{no_field, columns_of}
use Rattle.rows.proofs.Maps.{firsts_mapped}
use Rattle.row_change.specs.Changes.{column_for, kinds_of, selected_columns}
use Rattle.row_columns.proofs.selected_kinds.Goals as goal

pub returns : goal.returns
unfolding selected_columns
returns c =
    let a = c.args in
    let t = a.template.now in
    λ short.
    firsts_mapped c.map.ensures.items (search rules) no_field a.t.count (column_for (bind t (columns_of (length t) a.kinds.now) (kinds_of a.vars)))
    (λ x y q k. search (rules, tests, short))
