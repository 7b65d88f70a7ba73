-- An aggregate's result is in range, as the rows' values were. Assumes nothing.
use Prim.Native.Nat.{ℕ, ◌≤◌}
use mathlib.Core.Bool.{Bool}
use mathlib.Core.List.{List, [], ◌∷◌, foldl}
use native.Mathlib.Omega.{arith}
use lib.Dec.{T, le→leb}
use lib.IntN.{ℤ, pos}
use lib.ListN.{get_or, length}
use lib.Signed.{lt_z}
use Rattle.values.specs.declared.Value.{Value}
use Rattle.values.specs.declared.Value.TheVariants.{Int, Text, Loc}
use Rattle.values.specs.Operands.{Got}
use Rattle.std.specs.Prelude.{Some}
use Rattle.std.specs.List.{list_all}
use Rattle.values.proofs.Bools.{and_l, and_r}
use Rattle.values.proofs.ListLaws.{all-map_of, all_get_d}
use Rattle.values.proofs.RangeLaws.{Ranged, fitting-ok, cond-ok}
use Rattle.rows.specs.declared.Function.{Function}
use Rattle.rows.specs.declared.Function.TheVariants.{Unused, Count, Sum, Least, Largest}
use Rattle.rows.specs.Relations.{Row}
use Rattle.row_change.specs.Aggregates.{int_of, int_at, column, total, smaller, larger, best, aggregated}
use Rattle.row_change.proofs.RangeLaws.{row_ok}

-- a fold by what keeps a test: of two that pass, the chosen one passes
foldl_ok : {A : Type 0} (q : A → Bool) (f : A → A → A) → ((j k : A) → T (q j) → T (q k) → T (q (f j k))) → (k : A) (l : List A) → T (q k) → T (list_all q l) → T (q (foldl f k l))
foldl_ok q f keeps k [] h g = h
foldl_ok q f keeps k (j ∷ l) h g = foldl_ok q f keeps (f k j) l (keeps k j h (and_l (q j) (list_all q l) g)) (and_r (q j) (list_all q l) g)

module _ (p : Got → Bool) (ranged : Ranged p) where
  abbrev int_ok : ℤ → Bool
  int_ok z = p (Some (Int z))

  int_ok_lem : (v : Value) → T (p (Some v)) → T (int_ok (int_of v))
  int_ok_lem (Int i) h = h
  int_ok_lem (Text t) h = ranged.ints (pos 0) tt
  int_ok_lem (Loc l) h = ranged.ints (pos 0) tt

  column-ok : (i : ℕ) (rs : List Row) → T (list_all (row_ok p) rs) → T (list_all int_ok (column i rs))
  column-ok i rs h =
      all-map_of (row_ok p) int_ok (int_at i) rs
      (λ r k. int_ok_lem (get_or r i (Int (pos 0))) (all_get_d (λ v. p (Some v)) r i (Int (pos 0)) k (ranged.ints (pos 0) tt))) h

  best-ok : (f : ℤ → ℤ → ℤ) → ((j k : ℤ) → T (int_ok j) → T (int_ok k) → T (int_ok (f j k))) → (l : List ℤ) → T (list_all int_ok l) → T (p (best f l))
  best-ok f keeps [] h = ranged.nothing
  best-ok f keeps (k ∷ l) h = foldl_ok int_ok f keeps k l (and_l (int_ok k) (list_all int_ok l) h) (and_r (int_ok k) (list_all int_ok l) h)

  pub aggregated-ok : (f : Function) (i : ℕ) (rs : List Row) → length rs ≤ 16 → T (list_all (row_ok p) rs) → T (p (aggregated f i rs))
  unfolding aggregated
  aggregated-ok Unused i rs few h = ranged.nothing
  aggregated-ok Count i rs few h = ranged.ints (pos (length rs)) (le→leb (length rs) 2147483647 (omega arith))
  aggregated-ok Sum i rs few h = fitting-ok p ranged (total (column i rs))
  aggregated-ok Least i rs few h = best-ok smaller (λ j k a b. cond-ok int_ok (lt_z k j) k j b a) (column i rs) (column-ok i rs h)
  aggregated-ok Largest i rs few h = best-ok larger (λ j k a b. cond-ok int_ok (lt_z j k) k j b a) (column i rs) (column-ok i rs h)
