-- A variable's kind is its source's.
use Rattle.std.proofs.Common.{refl, sym, ap, ◌∙◌, length, rules}
use Rattle.values.specs.Operands.{bind}
use Rattle.rows.specs.declared.Origin.{Origin}
use Rattle.rows.specs.View.{columns_of}
use Rattle.rows.specs.Plans.{origin_kind}
use Rattle.row_change.specs.Changes.{column_for, kinds_of}
use Rattle.row_change.proofs.Prepared.{origin_kind_lem}
use Rattle.row_columns.proofs.column_kind.Goals as goal

pub returns-in-Var : goal.returns-in-Var
returns-in-Var c =
    let a = c.args in
    let t = a.template.now in
    λ short.
    c.origin_kind.ensures
    ∙ ap (λ (x : Origin). origin_kind x a.kinds.now) c.variable_origin.ensures
    ∙ origin_kind_lem a.vars t (length t) (search rules) short refl a.kinds.now c.in-Var.i
    ∙ sym (ap (column_for (bind t (columns_of (length t) a.kinds.now) (kinds_of a.vars))) c.in-Var.is)
