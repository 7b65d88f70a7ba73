-- Each arm gives what the definition gives at its variant.
use Rattle.std.proofs.Common.{◌≡◌, ℕ, ◌≤◌, List, T, pos, length, Some, sym, ap, subst, ◌∙◌, to_z, w32, w64, arith, rules}
use Rattle.std.proofs.lemmas.Int.{ints}
use Rattle.std.proofs.lemmas.List.{length-map}
use Rattle.values.specs.declared.Value.TheVariants.{Int}
use Rattle.values.proofs.Ints.{back}
use Rattle.values.specs.Values.{in32}
use Rattle.values.specs.Operands.{Got, fitting}
use Rattle.rows.specs.declared.Function.{Function}
use Rattle.rows.specs.Relations.{Row, Columns}
use Rattle.row_change.specs.Aggregates.{aggregated, column_fits}
use Rattle.row_aggregate.proofs.Columns.{column-there}
use Rattle.row_aggregate.proofs.aggregate.Goals as goal

-- the function is known
module _ (i : ℕ) {f g : Function} (e : f ≡ g) where
  wants : (cs : Columns) → T (column_fits f i cs) → T (column_fits g i cs)
  wants cs = subst (λ (h : Function). T (column_fits h i cs)) e

  gives : (rs : List Row) {o : Got} → o ≡ aggregated g i rs → o ≡ aggregated f i rs
  gives rs p = p ∙ sym (ap (λ (h : Function). aggregated h i rs) e)

few : (n : ℕ) → n ≤ 16 → to_z w32 n ≡ pos n
few n h = grind (arith, ints)

pub returns-in-Count : goal.returns-in-Count
unfolding aggregated
returns-in-Count c = λ w kinds fits. gives _ c.in-Count.is _ (ap (λ z. Some (Int z)) (few (length c.args.rows.now) c.requires ∙ ap pos (sym (length-map c.args.rows.now _))))

pub returns-in-Sum : goal.returns-in-Sum
unfolding aggregated
returns-in-Sum c = λ w kinds fits. gives _ c.in-Sum.is _ (c.int_within.ensures ∙ ap (λ z. fitting (in32 z) z) (back w64 c.total_of.result (search rules) ∙ c.total_of.ensures w (column-there _ w kinds (wants _ c.in-Sum.is _ fits))))

pub returns-in-Least : goal.returns-in-Least
unfolding aggregated
returns-in-Least c = λ w kinds fits. gives _ c.in-Least.is _ (c.least.ensures w (column-there _ w kinds (wants _ c.in-Least.is _ fits)))

pub returns-in-Largest : goal.returns-in-Largest
unfolding aggregated
returns-in-Largest c = λ w kinds fits. gives _ c.in-Largest.is _ (c.largest.ensures w (column-there _ w kinds (wants _ c.in-Largest.is _ fits)))
