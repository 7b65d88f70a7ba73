-- The cells of a page by line and column.
use Prim.Native.Nat.{ℕ, zero, suc, ◌+◌, ◌*◌, ◌<◌}
use mathlib.Core.Path.{◌≡◌, refl, sym, ap, ◌∙◌}
use mathlib.Core.List.{List, [], ◌∷◌, ◌++◌, map, append_assoc}
use native.Mathlib.Omega.{arith}
use lib.Dec.{T, leb}
use lib.ListN.{length, get_or, take, drop, length-append, length-map, get_or-append}
use lib.Seq.{take_at, drop-drop, get_or_at}
use Rattle.values.specs.Lists.{places}
use Rattle.std.specs.List.{list_all}
use Rattle.values.specs.Values.{in_range}
use Rattle.values.proofs.Bools.{and_r}
use Rattle.values.proofs.ListLaws.{all-at}
use Rattle.value_bytes.specs.Bytes.{end_to_end}
use Rattle.value_bytes.proofs.Parts.{sized-from, sized-map}
use Rattle.rows.specs.Relations.{Row, Relation}
use Rattle.nets.specs.Sound.{rows_ok}
use Rattle.page_rules.specs.Pages.{line_of, row_cell, sum_cell, page_of}
use Rattle.page_lines.proofs.CellLaws.{row-cell-length}
use Rattle.page_lines.proofs.LineLaws.{row_line, lines-sized}
use Rattle.page_lines.proofs.SumLaws.{sum-cell-length}

-- ── in a line ──

module _ (g : ℕ → List ℕ) (sized : (i : ℕ) → length (g i) ≡ 13) where
  fourth : (i : ℕ) → i < 4 → get_or (map g (places 0 4)) i [] ≡ g i
  fourth zero h = refl
  fourth (suc zero) h = refl
  fourth (suc (suc zero)) h = refl
  fourth (suc (suc (suc zero))) h = refl
  fourth (suc (suc (suc (suc i)))) h = absurd (omega arith)

  in_line : (xs : List ℕ) (i : ℕ) → i < 4 → take 13 (drop (i * 13) (line_of g ++ xs)) ≡ g i
  unfolding line_of
  in_line xs i h =
      let f = sized-from 13 (map g (places 0 4)) ((0x0a ∷ []) ++ xs) i [] (sized-map 13 g sized (places 0 4)) h in
      ap (λ (l : List ℕ). take 13 (drop (i * 13) l)) (append_assoc (end_to_end (map g (places 0 4))) (0x0a ∷ []) xs)
      ∙ ap (take 13) f.whole
      ∙ ap (λ (l : List ℕ). take 13 (l ++ f.rest)) (fourth i h)
      ∙ take_at (g i) f.rest 13 (sized i)

-- ── in a page, whatever follows it ──

map_at : (rs : List Row) (j : ℕ) → j < length rs → get_or (map row_line rs) j [] ≡ row_line (get_or rs j [])
map_at [] j h = absurd (omega arith)
map_at (r ∷ rs) zero h = refl
map_at (r ∷ rs) (suc j) h = map_at rs j (omega arith)

module _ (r : Relation) (ok : T (rows_ok r.rows)) (xs : List ℕ) where
  abbrev lines : List (List ℕ)
  lines = map row_line r.rows ++ (line_of (sum_cell r) ∷ [])

  many : length lines ≡ length r.rows + 1
  many = length-append (map row_line r.rows) (line_of (sum_cell r) ∷ []) ∙ ap (λ (n : ℕ). n + 1) (length-map r.rows row_line)

  by_line : (j i : ℕ) (g : ℕ → List ℕ) → ((k : ℕ) → length (g k) ≡ 13) → j < length lines → get_or lines j [] ≡ line_of g → i < 4 → take 13 (drop (j * 53 + i * 13) (page_of r ++ xs)) ≡ g i
  unfolding page_of
  by_line j i g sized h e q =
      let f = sized-from 53 lines xs j [] (lines-sized r ok) h in
      ap (take 13) (sym (drop-drop (i * 13) (j * 53) (end_to_end lines ++ xs)))
      ∙ ap (λ (l : List ℕ). take 13 (drop (i * 13) l)) (f.whole ∙ ap (λ (l : List ℕ). l ++ f.rest) e)
      ∙ in_line g sized f.rest i q

  pub row_in_range : (j : ℕ) → j < length r.rows → T (list_all in_range (get_or r.rows j []))
  row_in_range j h = all-at (λ x. list_all in_range x) r.rows j [] (and_r (leb (length r.rows) 16) (list_all (λ x. list_all in_range x) r.rows) ok) h

  pub row-cell-at : (j i : ℕ) → j < length r.rows → i < 4 → take 13 (drop (j * 53 + i * 13) (page_of r ++ xs)) ≡ row_cell (get_or r.rows j []) i
  row-cell-at j i h q =
      let l : j < length (map row_line r.rows) = rw (length-map r.rows row_line) h in
      let e : get_or lines j [] ≡ row_line (get_or r.rows j []) = get_or-append (map row_line r.rows) (line_of (sum_cell r) ∷ []) [] j l ∙ map_at r.rows j h in
      by_line j i (row_cell (get_or r.rows j [])) (row-cell-length (get_or r.rows j []) (row_in_range j h)) (omega (arith, many)) e q

  pub sum-cell-at : (i : ℕ) → i < 4 → take 13 (drop (length r.rows * 53 + i * 13) (page_of r ++ xs)) ≡ sum_cell r i
  sum-cell-at i q =
      let e : get_or lines (length r.rows) [] ≡ line_of (sum_cell r) = get_or_at (map row_line r.rows) (line_of (sum_cell r)) [] [] (length r.rows) (length-map r.rows row_line) in
      by_line (length r.rows) i (sum_cell r) (sum-cell-length r ok) (omega (arith, many)) e q
