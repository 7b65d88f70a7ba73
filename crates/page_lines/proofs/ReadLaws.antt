-- **The numbers on a page are the relation's**, whatever follows the page.
use Prim.Native.Nat.{ℕ, ◌≤◌, ◌<◌}
use mathlib.Core.Path.{◌≡◌, refl, sym, ap, ◌∙◌, subst}
use mathlib.Core.Bool.{Bool, true, false}
use mathlib.Core.List.{List, [], ◌++◌}
use Rattle.std.specs.Prelude.{Some}
use native.Mathlib.Omega.{arith}
use lib.Dec.{T, ltb}
use lib.IntN.{ℤ}
use lib.ListN.{length, get_or}
use borrow.Author.Tests.{ltb-true, ltb-false}
use Rattle.values.specs.declared.Value.TheVariants.{Int, Text}
use Rattle.values.proofs.ListLaws.{all-at}
use Rattle.value_decimal.specs.Decimals.{signed}
use Rattle.value_decimal.specs.Reading.{read_number}
use Rattle.rows.specs.Relations.{Row, Relation}
use Rattle.rows.specs.Fit.{fits_row, relation_fits}
use Rattle.row_change.specs.Aggregates.{column, total}
use Rattle.nets.specs.Sound.{rows_ok}
use Rattle.page_rules.specs.Pages.{right_aligned, page_of}
use Rattle.page_rules.specs.Readable.{cell_at, ReadsAs}
use Rattle.page_lines.proofs.BlankLaws.{HasBlank, right-apart, row_blank, sum_blank}
use Rattle.page_lines.proofs.IntCells.{aligned_read, int_shown, int-below, fits-length, column-below, column_apart}
use Rattle.page_lines.proofs.PlaceLaws.{row_in_range, row-cell-at, sum-cell-at}
use Rattle.page_lines.proofs.SumLaws.{few_in_sum, sum-there}

module _ (r : Relation) (xs : List ℕ) (ok : T (rows_ok r.rows)) (fit : T (relation_fits r)) (few : length r.columns ≤ 4) where
  abbrev buffer : List ℕ
  buffer = page_of r ++ xs

  abbrev row_at : ℕ → Row
  row_at j = get_or r.rows j []

  fit_at : (j : ℕ) → j < length r.rows → T (fits_row r.columns (row_at j))
  fit_at j h = all-at (fits_row r.columns) r.rows j [] fit h

  -- ── the cells of rows ──

  value_read : (j i : ℕ) (z : ℤ) → j < length r.rows → get_or (row_at j) i (Text 0) ≡ Int z → read_number (cell_at buffer j i) ≡ Some z
  value_read j i z h e =
      let q : i < 4 = omega (arith, int-below (row_at j) i z e, fits-length r.columns (row_at j) (fit_at j h)) in
      ap read_number (row-cell-at r ok xs j i h q ∙ int_shown (row_at j) i z e) ∙ aligned_read z

  value-apart : (j i : ℕ) → get_or r.columns i 0 ≡ 1 → j < length r.rows → get_or (cell_at buffer j i) 0 0 ≡ 0x20
  value-apart j i e h =
      let q : i < 4 = omega (arith, column-below r.columns i e) in
      ap (λ (l : List ℕ). get_or l 0 0) (row-cell-at r ok xs j i h q) ∙ column_apart r.columns (row_at j) i (fit_at j h) e (row_in_range r ok xs j h)

  -- ── the cells of the last line ──

  module _ (i : ℕ) (e : get_or r.columns i 0 ≡ 1) where
    sum_shown : cell_at buffer (length r.rows) i ≡ right_aligned (signed (total (column i r.rows)))
    sum_shown = sum-cell-at r ok xs i (omega (arith, column-below r.columns i e)) ∙ sum-there r i e

    sum-read : read_number (cell_at buffer (length r.rows) i) ≡ Some (total (column i r.rows))
    sum-read = ap read_number sum_shown ∙ aligned_read (total (column i r.rows))

    sum-apart : get_or (cell_at buffer (length r.rows) i) 0 0 ≡ 0x20
    sum-apart = ap (λ (l : List ℕ). get_or l 0 0) sum_shown ∙ right-apart (signed (total (column i r.rows))) (few_in_sum i r.rows ok)

  -- ── every line: that of a row, or the last one ──

  by_line : (P : ℕ → Type 0) → ((j : ℕ) → j < length r.rows → P j) → P (length r.rows) → (j : ℕ) → j ≤ length r.rows → P j
  by_line P row last j h = go (ltb j (length r.rows)) refl
    where
      go : (t : Bool) → ltb j (length r.rows) ≡ t → P j
      go true e = row j (ltb-true j (length r.rows) e)
      go false e =
          let q : length r.rows ≡ j = omega (arith, ltb-false j (length r.rows) e) in
          subst P q last

  cell_blank : (i : ℕ) → i < 4 → (j : ℕ) → j ≤ length r.rows → HasBlank (cell_at buffer j i)
  cell_blank i q =
      by_line (λ j. HasBlank (cell_at buffer j i))
      (λ j h. subst HasBlank (sym (row-cell-at r ok xs j i h q)) (row_blank (row_at j) (row_in_range r ok xs j h) i))
      (subst HasBlank (sym (sum-cell-at r ok xs i q)) (sum_blank r ok i))

  pub reads : ReadsAs buffer r
  reads =
      record {
        values = value_read;
        sums = sum-read;
        apart = λ j i h e. by_line (λ j. get_or (cell_at buffer j i) 0 0 ≡ 0x20) (λ j h. value-apart j i e h) (sum-apart i e) j h;
        not_full = λ j i h q. cell_blank i q j h;
      }
