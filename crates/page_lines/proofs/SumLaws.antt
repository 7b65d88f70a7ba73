-- Sums of a column: never past eleven digits, so that a cell has room for them and a blank before them.
use Prim.Native.Nat.{ℕ, zero, suc, ◌+◌, ◌*◌, ◌≤◌}
use mathlib.Core.Path.{◌≡◌, refl, ap}
use mathlib.Core.Bool.{Bool, true, false, cond}
use mathlib.Core.List.{List, [], ◌∷◌, foldl}
use native.Mathlib.Omega.{arith}
use lib.Dec.{T, eqb, leb, leb→le}
use lib.IntN.{ℤ, pos, ◌+ℤ◌}
use lib.ListN.{length, get_or}
use lib.Signed.{mag}
use borrow.Author.Tests.{eq-eqb, ne_eqb}
use Rattle.values.specs.declared.Value.{Value}
use Rattle.values.specs.declared.Value.TheVariants.{Int, Text, Loc}
use Rattle.std.specs.List.{list_all}
use Rattle.values.specs.Values.{in_range}
use Rattle.values.proofs.Bools.{and_l, and_r}
use Rattle.values.proofs.Ints.{in32_mag, mag_add, size}
use Rattle.value_decimal.specs.Decimals.{signed, blanks}
use Rattle.value_decimal.proofs.DecimalLaws.{few-places}
use Rattle.rows.specs.Relations.{Row, Relation}
use Rattle.row_change.specs.Aggregates.{int_of, int_at, column, total}
use Rattle.nets.specs.Sound.{rows_ok}
use Rattle.page_rules.specs.Pages.{right_aligned, sum_cell}
use Rattle.page_lines.proofs.CellLaws.{right-length}

-- ── the Ints of a column are within 32 bits ──

int_small : (v : Value) → T (in_range v) → mag (int_of v) ≤ 2147483647
int_small (Int i) h = in32_mag i h
int_small (Text t) h = omega arith
int_small (Loc l) h = omega arith

int-at-small : (r : Row) (i : ℕ) → T (list_all in_range r) → mag (int_at i r) ≤ 2147483647
int-at-small [] i h = omega arith
int-at-small (v ∷ r) zero h = int_small v (and_l (in_range v) (list_all in_range r) h)
int-at-small (v ∷ r) (suc i) h = int-at-small r i (and_r (in_range v) (list_all in_range r) h)

-- ── the sum of n of them is within n times as much ──

sum-small : (i : ℕ) (rs : List Row) (z : ℤ) → T (list_all (λ r. list_all in_range r) rs) → mag (foldl ◌+ℤ◌ z (column i rs)) ≤ mag z + length rs * 2147483648
sum-small i [] z h = omega arith
sum-small i (r ∷ rs) z h =
    let a = int-at-small r i (and_l (list_all in_range r) (list_all (λ r. list_all in_range r) rs) h) in
    let b = sum-small i rs (z +ℤ int_at i r) (and_r (list_all in_range r) (list_all (λ r. list_all in_range r) rs) h) in
    omega (arith, mag_add z (int_at i r))

pub few_in_sum : (i : ℕ) (rs : List Row) → T (rows_ok rs) → length (signed (total (column i rs))) ≤ 12
few_in_sum i rs h =
    let l = leb→le (length rs) 16 (and_l (leb (length rs) 16) (list_all (λ r. list_all in_range r) rs) h) in
    let s = sum-small i rs (pos 0) (and_r (leb (length rs) 16) (list_all (λ r. list_all in_range r) rs) h) in
    few-places 10 (total (column i rs)) (omega (arith, size (total (column i rs))))

pub sum-cell-length : (r : Relation) → T (rows_ok r.rows) → (i : ℕ) → length (sum_cell r i) ≡ 13
unfolding sum_cell
sum-cell-length r h i = go (eqb (get_or r.columns i 0) 1)
  where
    go : (t : Bool) → length (cond t (right_aligned (signed (total (column i r.rows)))) (blanks 13)) ≡ 13
    go true = right-length (signed (total (column i r.rows))) (omega (arith, few_in_sum i r.rows h))
    go false = refl

-- ── by the kind of the column ──

module _ (r : Relation) (i : ℕ) where
  pub sum-there : get_or r.columns i 0 ≡ 1 → sum_cell r i ≡ right_aligned (signed (total (column i r.rows)))
  unfolding sum_cell
  sum-there e = ap (λ (t : Bool). cond t (right_aligned (signed (total (column i r.rows)))) (blanks 13)) (eq-eqb (get_or r.columns i 0) 1 e)

  pub sum-missing : (get_or r.columns i 0 ≡ 1 → ⊥) → sum_cell r i ≡ blanks 13
  unfolding sum_cell
  sum-missing e = ap (λ (t : Bool). cond t (right_aligned (signed (total (column i r.rows)))) (blanks 13)) (ne_eqb (get_or r.columns i 0) 1 e)
