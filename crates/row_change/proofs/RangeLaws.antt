-- The rows that updates and selects make are in range, as the variables, the constants of t and the rows were. Assumes nothing.
use mathlib.Core.Bool.{Bool}
use mathlib.Core.List.{List, [], map}
use lib.Dec.{T}
use Rattle.values.specs.Operands.{Got}
use Rattle.std.specs.Prelude.{Some}
use Rattle.values.specs.declared.Operand.{Operand}
use Rattle.std.specs.List.{list_all}
use Rattle.values.specs.Operands.{Vars, values_in, eval}
use Rattle.values.proofs.ListLaws.{all-map_of, all_filter}
use Rattle.values.proofs.BindLaws.{all-bind}
use Rattle.values.proofs.RangeLaws.{Ranged, eval-ok, values-ok, cond-ok}
use Rattle.rows.specs.Relations.{Row, Columns, Selector}
use Rattle.rows.specs.Matching.{row_vars, hits, selected}
use Rattle.rows.specs.Fit.{draft}
use Rattle.row_change.specs.Changes.{changes, tuple_for, renewed, updated}

-- each value of a row passes
abbrev pub row_ok : (Got → Bool) → Row → Bool
row_ok p r = list_all (λ v. p (Some v)) r

module _ (p : Got → Bool) (ranged : Ranged p) where
  row-vars-ok : (e : Vars) (t : List Operand) (r : Row) → T (list_all p e) → T (row_ok p r) → T (list_all p (row_vars e t r))
  row-vars-ok e t r h k = all-bind p t (map Some r) e h (all-map_of (λ v. p (Some v)) p Some r (λ v i. i) k)

  -- the row that t gives, where its constants pass
  pub tuple-ok : (e : Vars) (u : List Operand) → T (list_all p e) → T (list_all (λ o. p (eval [] o)) u) → T (row_ok p (values_in (draft e u)))
  unfolding draft
  tuple-ok e u h k = values-ok p (map (eval e) u) (all-map_of (λ o. p (eval [] o)) p (eval e) u (λ o. eval-ok p ranged e o h) k)

  module _ (e : Vars) (vars : T (list_all p e)) (s : Selector) (u : List Operand) (constants : T (list_all (λ o. p (eval [] o)) u)) where
    made_ok : (r : Row) → T (row_ok p r) → T (row_ok p (tuple_for e s.template u r))
    unfolding tuple_for
    made_ok r h = tuple-ok (row_vars e s.template r) u (row-vars-ok e s.template r vars h) constants

    pub updated-ok : (cs : Columns) (rs : List Row) → T (list_all (row_ok p) rs) → T (list_all (row_ok p) (updated e s u cs rs))
    updated-ok cs rs h =
        all-map_of (row_ok p) (row_ok p) (renewed e s u cs) rs
        (λ r k. cond-ok (row_ok p) (changes e s u cs r) (tuple_for e s.template u r) r (made_ok r k) k) h

    pub selected-ok : (rs : List Row) → T (list_all (row_ok p) rs) → T (list_all (row_ok p) (map (tuple_for e s.template u) (selected e s rs)))
    selected-ok rs h =
        all-map_of (row_ok p) (row_ok p) (tuple_for e s.template u) (selected e s rs) made_ok (all_filter (row_ok p) (hits e s) rs h)
