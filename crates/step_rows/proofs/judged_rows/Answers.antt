-- `step_rows::judged_rows` meets its contract: a pass over the source, and what each kind wants of it. Assumes nothing.
use mathlib.Core.Path.{◌≡◌, ap, subst, ◌∙◌}
use native.Mathlib.Omega.{arith}
use lib.ListN.{length}
use borrow.Author.Rules.{rules}
use Rattle.values.proofs.Arrays.{long}
use Rattle.values.proofs.Firsts.{take_firsts}
use Rattle.row_change.specs.ChangeContracts.{SweptIs}
use Rattle.rows.specs.View.{columns_of, operands_of}
use Rattle.step_rows.proofs.SweptLaws.{ShapeIs, shape-select, shape-own, used-short, kinds-made, terms-made, judged-is}
use Rattle.step_rows.proofs.judged_rows.Goals as goal
use Rattle.step_rows.proofs.judged_rows.Goals.{then-is_select, else-is_select}

pub returns : goal.returns
returns c =
    let a = c.args in
    let columns = c.if-is_select.columns in
    let kinds = c.if-is_select.kinds in
    let shape : ShapeIs a.node a.source a.vars columns kinds =
    elim c.if-is_select.branch [
      | then-is_select w ↦
          shape-select a.node a.source a.vars c.is_select.ensures w.if-is_select.true c.requires.0.tuple.count w.columns-is
          (ap (columns_of a.node.tuple.count) w.kinds-is ∙ kinds-made a.node.selector.template w.used.ensures a.vars (operands_of a.node.tuple) a.source.kinds (w.selected_kinds-made.ensures (used-short a.node.selector.template w.used.ensures c.requires.0.template.count)))
      | else-is_select w ↦ shape-own a.node a.source a.vars c.is_select.ensures w.if-is_select.false c.requires.0.source.columns w.columns-is w.kinds-is
    ] in
    let four : length kinds ≡ 4 = search (long, rules) in
    judged-is a.node a.source a.vars (search (long, rules)) c.requires.0 c.well_formed.1.0 shape c.plan_of-plan.result c.plan_of-plan.ensures c.terms_of-terms.result
    (terms-made a.node.selector.template c.used-2.ensures a.vars (operands_of a.node.tuple) c.terms_of-terms.ensures.0) c.terms_of-terms.ensures.1 c.pass_of.ensures
    c.swept.result (subst (λ l. SweptIs c.plan_of-plan.result c.pass_of.result c.terms_of-terms.result l a.source.count a.source.rows c.swept.result)
    (take_firsts 0 columns kinds (omega (arith, shape.short))) c.swept.ensures)
    c.result_of.result c.result_of.ensures
