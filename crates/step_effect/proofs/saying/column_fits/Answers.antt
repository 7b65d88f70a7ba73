-- `step_effect::saying::column_fits` meets its contract, function by function. Assumes nothing.
use mathlib.Core.Path.{ap, sym, ◌∙◌}
use Rattle.rows.specs.declared.Function.{Function}
use Rattle.rows.specs.View.{relation_of}
use Rattle.row_change.specs.Aggregates.{column_fits}
use Rattle.step_effect.proofs.saying.column_fits.Goals as goal

pub returns-in-Sum : goal.returns-in-Sum
returns-in-Sum c =
    let a = c.args in
    c.is_int_column.ensures ∙ sym (ap (λ (f : Function). column_fits f a.at (relation_of a.r).columns) c.in-Sum.is)

pub returns-in-Least : goal.returns-in-Least
returns-in-Least c =
    let a = c.args in
    c.is_int_column-in-Least.ensures ∙ sym (ap (λ (f : Function). column_fits f a.at (relation_of a.r).columns) c.in-Least.is)

pub returns-in-Largest : goal.returns-in-Largest
returns-in-Largest c =
    let a = c.args in
    c.is_int_column-in-Largest.ensures ∙ sym (ap (λ (f : Function). column_fits f a.at (relation_of a.r).columns) c.in-Largest.is)
