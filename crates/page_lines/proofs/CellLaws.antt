-- Cells: what fits into one fills 13 bytes, and a number leaves its first byte blank.
use Prim.Native.Nat.{ℕ, zero, suc, ◌+◌, ◌-◌, ◌≤◌, ◌<◌}
use mathlib.Core.Path.{◌≡◌, refl, ap, ◌∙◌}
use mathlib.Core.List.{List, [], ◌∷◌, ◌++◌}
use native.Mathlib.Omega.{arith}
use lib.Dec.{T}
use lib.IntN.{ℤ}
use lib.ListN.{length, get_or, length-append, length-replicate}
use Rattle.values.specs.declared.Value.{Value}
use Rattle.values.specs.declared.Value.TheVariants.{Int, Text, Loc}
use Rattle.values.specs.Lists.{firsts}
use Rattle.std.specs.List.{list_all}
use Rattle.values.specs.Values.{in32, in_range}
use Rattle.values.proofs.Bools.{and_l, and_r}
use Rattle.values.proofs.Ints.{in32_mag}
use Rattle.value_decimal.specs.Decimals.{signed, blanks}
use Rattle.value_decimal.proofs.DecimalLaws.{few-int}
use Rattle.rows.specs.Relations.{Row}
use Rattle.page_rules.specs.Pages.{right_aligned, cell, row_cell}

-- ── alignment ──

pub right-length : (bs : List ℕ) → length bs ≤ 13 → length (right_aligned bs) ≡ 13
right-length bs h = rw (length-append, length-replicate) (omega arith)

-- blanks and a number that fill 13 bytes
pub right_filled : (out bs o : List ℕ) (r : ℕ) → length o ≡ 13 → out ≡ blanks r ++ bs → r + length bs ≡ length o → out ≡ right_aligned bs
right_filled out bs o r l e h =
    let q : r ≡ 13 - length bs = omega arith in
    e ∙ ap (λ (n : ℕ). blanks n ++ bs) q

-- ── values ──

-- a number of 32 bits takes eleven places at most
pub few-in32 : (z : ℤ) → T (in32 z) → length (signed z) ≤ 11
few-in32 z h = few-int z (record { sfits = omega (arith, in32_mag z h) })

pub cell-length : (v : Value) → T (in_range v) → length (cell v) ≡ 13
unfolding cell
cell-length (Int i) h = right-length (signed i) (omega (arith, few-in32 i h))
cell-length (Text t) h = refl
cell-length (Loc l) h = refl

pub row-cell-length : (r : Row) → T (list_all in_range r) → (i : ℕ) → length (row_cell r i) ≡ 13
row-cell-length [] h i = refl
row-cell-length (v ∷ r) h zero = cell-length v (and_l (in_range v) (list_all in_range r) h)
row-cell-length (v ∷ r) h (suc i) = row-cell-length r (and_r (in_range v) (list_all in_range r) h) i

-- ── the cells of an array in use ──

module _ (f : Value → Value) (z : Value) where
  pub cell-there : (n : ℕ) (l : List Value) (i : ℕ) → i < n → row_cell (firsts f z n l) i ≡ cell (f (get_or l i z))
  cell-there zero l i h = absurd (omega arith)
  cell-there (suc n) [] zero h = refl
  cell-there (suc n) (a ∷ l) zero h = refl
  cell-there (suc n) [] (suc i) h = cell-there n [] i (omega arith)
  cell-there (suc n) (a ∷ l) (suc i) h = cell-there n l i (omega arith)

  pub cell-missing : (n : ℕ) (l : List Value) (i : ℕ) → n ≤ i → row_cell (firsts f z n l) i ≡ blanks 13
  cell-missing zero l i h = refl
  cell-missing (suc n) l zero h = absurd (omega arith)
  cell-missing (suc n) [] (suc i) h = cell-missing n [] i (omega arith)
  cell-missing (suc n) (a ∷ l) (suc i) h = cell-missing n l i (omega arith)
