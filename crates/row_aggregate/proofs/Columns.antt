-- A column of rows: its Ints read off the cells, their sum, and the best of them.
use Prim.Native.Nat.{ℕ, ◌≤◌, ◌<◌}
use native.Mathlib.Omega.{arith}
use mathlib.Core.Path.{◌≡◌, refl, sym, ap, ap₂, ◌∙◌, subst}
use mathlib.Core.Bool.{Bool, true, false, cond}
use mathlib.Core.List.{List, [], ◌∷◌, map, foldl}
use lib.Dec.{T, eqb, ltb}
use lib.ListN.{length, get_or, get_or-eq_default}
use lib.IntN.{ℤ, pos, ◌+ℤ◌}
use borrow.Author.Tests.{ltb-true, ltb-false}
use Rattle.std.specs.Prelude.{Option, Some}
use Rattle.std.specs.List.{fold, reduce}
use Rattle.std.specs.Option.{option_map}
use Rattle.std.specs.Ordering.{int_cmp, max_by_ordering, min_by_ordering}
use Rattle.std.specs.declared.cmp.Ordering.TheVariants.{Less, Equal, Greater}
use Rattle.std.specs.Int.Signed.{lt_z}
use Rattle.std.proofs.lemmas.Int.{ints}
use Rattle.values.specs.Operands.{Got}
use Rattle.values.specs.declared.Value.{Value}
use Rattle.values.specs.declared.Value.TheVariants.{Int}
use Rattle.values.proofs.Firsts.{length-firsts, firsts_at}
use Rattle.rows.specs.declared.Row.{Row}
use Rattle.rows.specs.View.{values_of, columns_of}
use Rattle.row_change.specs.Aggregates.{int_of, int_at, column, total, larger, smaller, best}

-- the Int at a place of a row's cells
abbrev pub int_in : ℕ → Row → ℤ
int_in at row = int_at at row.cells

-- ── places ──

module _ (at w : ℕ) (low : at < w) where
  -- a column of a row that has it, read off the row's cells
  column_of : (rows : List Row) → map (int_in at) rows ≡ column at (map (values_of w) rows)
  column_of [] = refl
  column_of (row ∷ rows) = ap₂ ◌∷◌ (ap int_of (sym (firsts_at (λ (v : Value). v) (Int (pos 0)) w row.cells at (Int (pos 0)) low))) (column_of rows)

  sum_from : (rows : List Row) (a : ℤ) → fold (λ b row. b +ℤ int_in at row) a rows ≡ foldl ◌+ℤ◌ a (map (int_in at) rows)
  sum_from [] a = refl
  sum_from (row ∷ rows) a = sum_from rows (a +ℤ int_in at row)

  pub sum_is : (rows : List Row) → fold (λ b row. b +ℤ int_in at row) (pos 0) rows ≡ total (column at (map (values_of w) rows))
  sum_is rows = sum_from rows (pos 0) ∙ ap total (column_of rows)

-- ── the best ──

fold_by : (f g : ℤ → ℤ → ℤ) → ((j k : ℤ) → f j k ≡ g j k) → (j : ℤ) (l : List ℤ) → fold f j l ≡ foldl g j l
fold_by f g same j [] = refl
fold_by f g same j (k ∷ l) = fold_by f g same (f j k) l ∙ ap (λ z. foldl g z l) (same j k)

best_by : (f g : ℤ → ℤ → ℤ) → ((j k : ℤ) → f j k ≡ g j k) → (l : List ℤ) → option_map (λ z. Int z) (reduce f l) ≡ best g l
best_by f g same [] = refl
best_by f g same (k ∷ l) = ap (λ z. Some (Int z)) (fold_by f g same k l)

max_is : (j k : ℤ) → max_by_ordering (int_cmp j k) j k ≡ larger j k
max_is j k = go (lt_z j k) refl (lt_z k j) refl
  where
    go : (a : Bool) → lt_z j k ≡ a → (b : Bool) → lt_z k j ≡ b → max_by_ordering (cond a Less (cond b Greater Equal)) j k ≡ cond a k j
    go true p b q = refl
    go false p true q = refl
    go false p false q = omega (arith, ints)

min_is : (j k : ℤ) → min_by_ordering (int_cmp j k) j k ≡ smaller j k
min_is j k = go (lt_z j k) refl (lt_z k j) refl
  where
    go : (a : Bool) → lt_z j k ≡ a → (b : Bool) → lt_z k j ≡ b → min_by_ordering (cond a Less (cond b Greater Equal)) j k ≡ cond b k j
    go true p true q = omega (arith, ints)
    go true p false q = refl
    go false p true q = refl
    go false p false q = refl

module _ (at w : ℕ) (low : at < w) (rows : List Row) {o : Option ℤ} {g : Got} (given : g ≡ option_map (λ z. Int z) o) where
  pub largest_is : o ≡ reduce (λ j k. max_by_ordering (int_cmp j k) j k) (map (int_in at) rows) → g ≡ best larger (column at (map (values_of w) rows))
  largest_is e = given ∙ ap (option_map (λ z. Int z)) e ∙ best_by _ larger max_is (map (int_in at) rows) ∙ ap (best larger) (column_of at w low rows)

  pub least_is : o ≡ reduce (λ j k. min_by_ordering (int_cmp j k) j k) (map (int_in at) rows) → g ≡ best smaller (column at (map (values_of w) rows))
  least_is e = given ∙ ap (option_map (λ z. Int z)) e ∙ best_by _ smaller min_is (map (int_in at) rows) ∙ ap (best smaller) (column_of at w low rows)

-- a column of kind Int is there
pub column-there : (k n : ℕ) (kinds : List ℕ) → T (eqb (get_or (columns_of n kinds) k 0) 1) → k < n
column-there k n kinds h = go (ltb k n) refl
  where
    go : (t : Bool) → ltb k n ≡ t → k < n
    go true e = ltb-true k n e
    go false e =
        let l : length (columns_of n kinds) ≤ k = omega (arith, length-firsts (λ (j : ℕ). j) 0 n kinds, ltb-false k n e) in
        absurd (subst (λ (j : ℕ). T (eqb j 1)) (get_or-eq_default (columns_of n kinds) 0 l) h)
