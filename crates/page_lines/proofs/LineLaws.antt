-- Lines and pages: how long they are, and a line ended by its line feed.
use Prim.Native.Nat.{ℕ, ◌+◌, ◌*◌, ◌<◌}
use mathlib.Core.Path.{◌≡◌, refl, ap, ◌∙◌}
use mathlib.Core.List.{List, [], ◌∷◌, ◌++◌, map}
use native.Mathlib.Omega.{arith}
use lib.Dec.{T, leb}
use lib.ListN.{length, get_or, drop, set, length-append, length-map, drop_of_length-le}
use lib.Seq.{set_at, drop-cons}
use Rattle.std.specs.List.{list_all}
use Rattle.values.specs.Values.{in_range}
use Rattle.values.proofs.Bools.{and_l, and_r}
use Rattle.value_bytes.specs.Bytes.{end_to_end}
use Rattle.value_bytes.proofs.Stores.{ends_next}
use Rattle.value_bytes.proofs.Parts.{along, along-length, Sized, sized-length, sized-append}
use Rattle.rows.specs.Relations.{Row, Relation}
use Rattle.nets.specs.Sound.{rows_ok}
use Rattle.page_rules.specs.Pages.{line_of, row_cell, sum_cell, page_of}
use Rattle.page_lines.proofs.CellLaws.{row-cell-length}
use Rattle.page_lines.proofs.SumLaws.{sum-cell-length}

module _ (g : ℕ → List ℕ) (sized : (i : ℕ) → length (g i) ≡ 13) where
  cells-length : length (along g 4) ≡ 52
  cells-length = along-length g 13 sized 4

  pub line-length : length (line_of g) ≡ 53
  unfolding line_of along
  line-length = rw (length-append, cells-length) refl

  -- the line feed behind four cells
  pub line-ended : (o out : List ℕ) → length o ≡ 53 → out ≡ along g 4 ++ drop 52 o → set out 52 0x0a ≡ line_of g
  unfolding line_of along
  line-ended o out l e =
      let h : 52 < length o = omega arith in
      ap (λ (bs : List ℕ). set bs 52 0x0a) (e ∙ ap (λ (bs : List ℕ). along g 4 ++ bs) (drop-cons o 52 0 h))
      ∙ set_at (along g 4) (get_or o 52 0) (drop 53 o) 0x0a 52 cells-length
      ∙ ap (λ (bs : List ℕ). along g 4 ++ 0x0a ∷ bs) (drop_of_length-le o {i = 53} (omega arith))

-- ── pages ──

abbrev pub row_line : Row → List ℕ
row_line row = line_of (row_cell row)

rows-sized : (rs : List Row) → T (list_all (λ r. list_all in_range r) rs) → Sized 53 (map row_line rs)
rows-sized [] h = tt
rows-sized (r ∷ rs) h =
    (line-length (row_cell r) (row-cell-length r (and_l (list_all in_range r) (list_all (λ r. list_all in_range r) rs) h)), rows-sized rs (and_r (list_all in_range r) (list_all (λ r. list_all in_range r) rs) h))

module _ (r : Relation) (ok : T (rows_ok r.rows)) where
  sums-length : length (line_of (sum_cell r)) ≡ 53
  sums-length = line-length (sum_cell r) (sum-cell-length r ok)

  pub lines-sized : Sized 53 (map row_line r.rows ++ (line_of (sum_cell r) ∷ []))
  lines-sized = sized-append 53 (map row_line r.rows) (line_of (sum_cell r) ∷ []) (rows-sized r.rows (and_r (leb (length r.rows) 16) (list_all (λ r. list_all in_range r) r.rows) ok)) (sums-length, tt)

  pub rows-length : length (end_to_end (map row_line r.rows)) ≡ length r.rows * 53
  rows-length =
      sized-length 53 (map row_line r.rows) (rows-sized r.rows (and_r (leb (length r.rows) 16) (list_all (λ r. list_all in_range r) r.rows) ok))
      ∙ ap (λ (n : ℕ). n * 53) (length-map r.rows row_line)

  pub page-parts : page_of r ≡ end_to_end (map row_line r.rows) ++ line_of (sum_cell r)
  unfolding page_of
  page-parts = ends_next (map row_line r.rows) (line_of (sum_cell r))

  pub page-length : length (page_of r) ≡ (length r.rows + 1) * 53
  page-length = ap length page-parts ∙ rw (length-append, rows-length, sums-length) (omega arith)
