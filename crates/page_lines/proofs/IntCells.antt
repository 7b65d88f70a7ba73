-- The cells of Ints: of an Int in a row, and of an Int column in a row that fits.
use Prim.Native.Nat.{ℕ, zero, suc, ◌-◌, ◌<◌}
use mathlib.Core.Path.{◌≡◌, refl, ap}
use mathlib.Core.List.{[], ◌∷◌}
use Rattle.std.specs.Prelude.{Some}
use native.Mathlib.Omega.{arith}
use lib.Dec.{T, eqb→eq}
use lib.IntN.{ℤ}
use lib.ListN.{length, get_or}
use Rattle.values.specs.declared.Value.{Value}
use Rattle.values.specs.declared.Value.TheVariants.{Int, Text, Loc}
use Rattle.std.specs.List.{list_all}
use Rattle.values.specs.Values.{kind_of, in_range}
use Rattle.values.proofs.Bools.{and_l, and_r}
use Rattle.value_decimal.specs.Decimals.{signed}
use Rattle.value_decimal.specs.Reading.{read_number}
use Rattle.value_decimal.proofs.ReadingLaws.{number_read}
use Rattle.rows.specs.Relations.{Row, Columns}
use Rattle.rows.specs.Fit.{of_kind, fits_row}
use Rattle.page_rules.specs.Pages.{right_aligned, cell, row_cell}
use Rattle.page_lines.proofs.BlankLaws.{right-apart}
use Rattle.page_lines.proofs.CellLaws.{few-in32}

pub aligned_read : (z : ℤ) → read_number (right_aligned (signed z)) ≡ Some z
aligned_read z = number_read (13 - length (signed z)) z

-- ── an Int in a row ──

no_text : {A : Type 0} (t : ℕ) (z : ℤ) → Text t ≡ Int z → A
no_text t z e =
    let k : kind_of (Text t) ≡ kind_of (Int z) = ap kind_of e in
    absurd (omega arith)

pub int_shown : (r : Row) (i : ℕ) (z : ℤ) → get_or r i (Text 0) ≡ Int z → row_cell r i ≡ right_aligned (signed z)
unfolding cell
int_shown [] i z e = no_text 0 z e
int_shown (v ∷ r) zero z e = ap cell e
int_shown (v ∷ r) (suc i) z e = int_shown r i z e

pub int-below : (r : Row) (i : ℕ) (z : ℤ) → get_or r i (Text 0) ≡ Int z → i < length r
int-below [] i z e = no_text 0 z e
int-below (v ∷ r) zero z e = omega arith
int-below (v ∷ r) (suc i) z e = omega (arith, int-below r i z e)

-- ── an Int column ──

pub fits-length : (cs : Columns) (r : Row) → T (fits_row cs r) → length r ≡ length cs
fits-length [] [] f = refl
fits-length [] (v ∷ r) f = absurd f
fits-length (c ∷ cs) [] f = absurd f
fits-length (c ∷ cs) (v ∷ r) f = ap suc (fits-length cs r (and_r (of_kind c (Some v)) (fits_row cs r) f))

pub column-below : (cs : Columns) (i : ℕ) → get_or cs i 0 ≡ 1 → i < length cs
column-below [] i e = absurd (omega arith)
column-below (c ∷ cs) zero e = omega arith
column-below (c ∷ cs) (suc i) e = omega (arith, column-below cs i e)

value-apart : (v : Value) (c : ℕ) → c ≡ 1 → T (of_kind c (Some v)) → T (in_range v) → get_or (cell v) 0 0 ≡ 0x20
unfolding cell
value-apart (Int z) c e k h = right-apart (signed z) (omega (arith, few-in32 z h))
value-apart (Text t) c e k h = absurd (omega (arith, eqb→eq c 2 k))
value-apart (Loc l) c e k h = absurd (omega (arith, eqb→eq c 3 k))

pub column_apart : (cs : Columns) (r : Row) (i : ℕ) → T (fits_row cs r) → get_or cs i 0 ≡ 1 → T (list_all in_range r) → get_or (row_cell r i) 0 0 ≡ 0x20
column_apart [] [] i f e h = absurd (omega arith)
column_apart [] (v ∷ r) i f e h = absurd f
column_apart (c ∷ cs) [] i f e h = absurd f
column_apart (c ∷ cs) (v ∷ r) zero f e h = value-apart v c e (and_l (of_kind c (Some v)) (fits_row cs r) f) (and_l (in_range v) (list_all in_range r) h)
column_apart (c ∷ cs) (v ∷ r) (suc i) f e h = column_apart cs r i (and_r (of_kind c (Some v)) (fits_row cs r) f) e (and_r (in_range v) (list_all in_range r) h)
