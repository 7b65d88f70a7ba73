-- `page_lines::lines::put_rows` meets its contract: the lines of the rows passed, then the bytes that stood there.
use Prim.Native.Nat.{ℕ, zero, suc, ◌+◌, ◌-◌, ◌*◌, ◌≤◌, ◌<◌}
use mathlib.Core.Path.{◌≡◌, refl, sym, ap, ◌∙◌}
use mathlib.Core.List.{List, ◌++◌, map}
use native.Mathlib.Omega.{arith}
use lib.Dec.{T, leb}
use lib.ListN.{length, get_or, drop, length-append}
use borrow.Rule.Slice.PartMut.{put_mid}
use Rattle.values.specs.Lists.{firsts}
use Rattle.std.specs.List.{list_all}
use Rattle.values.specs.Values.{in_range}
use Rattle.values.proofs.Bools.{and_r}
use Rattle.values.proofs.Firsts.{firsts-next, map-firsts, all_firsts}
use Rattle.value_bytes.specs.Bytes.{end_to_end}
use Rattle.value_bytes.proofs.Stores.{part-size, part-written, kept-length, ends_next, ends-all}
use Rattle.rows.specs.declared.Relation.{Relation}
use Rattle.rows.specs.View.{no_row, values_of, relation_of}
use Rattle.nets.specs.Sound.{rows_ok}
use Rattle.page_rules.specs.Pages.{row_cell}
use Rattle.page_lines.proofs.CellLaws.{row-cell-length}
use Rattle.page_lines.proofs.LineLaws.{line-length, row_line}
use Rattle.page_lines.proofs.lines.put_rows.Invariants.{line_at}
use Rattle.page_lines.proofs.lines.put_rows.Goals as goal

-- ── rows in their ranges ──

module _ (r : Relation) (ok : T (rows_ok (relation_of r).rows)) where
  row-ok : (i : ℕ) → i < r.count → T (list_all in_range (values_of r.columns (get_or r.rows i no_row)))
  row-ok i h = all_firsts (λ x. list_all in_range x) (values_of r.columns) no_row r.count r.rows i h (and_r (leb (length (relation_of r).rows) 16) (list_all (λ x. list_all in_range x) (relation_of r).rows) ok)

  -- of the first i rows
  passed_length : (i : ℕ) → i ≤ r.count → length (end_to_end (firsts (line_at r) no_row i r.rows)) ≡ i * 53
  passed_length zero h = refl
  passed_length (suc i) h =
      let e : suc i ≡ i + 1 = omega arith in
      let x = get_or r.rows i no_row in
      ap (λ (n : ℕ). length (end_to_end (firsts (line_at r) no_row n r.rows))) e
      ∙ rw (firsts-next (line_at r) no_row i r.rows, ends_next, length-append, passed_length i (omega arith), line-length (row_cell (values_of r.columns x)) (row-cell-length (values_of r.columns x) (row-ok i (omega arith)))) (omega arith)

  one_more : (i : ℕ) (o out ys : List ℕ) → i < r.count → out ≡ end_to_end (firsts (line_at r) no_row i r.rows) ++ drop (i * 53) o → ys ≡ row_line (values_of r.columns (get_or r.rows i no_row)) →
      put_mid (i * 53) (i * 53 + 53 - i * 53) out ys ≡ end_to_end (firsts (line_at r) no_row (i + 1) r.rows) ++ drop ((i + 1) * 53) o
  one_more i o out ys h e q =
      let s : (i + 1) * 53 ≡ i * 53 + 53 = omega arith in
      rw (e, part-size, part-written (end_to_end (firsts (line_at r) no_row i r.rows)) o ys (i * 53) 53 (passed_length i (omega arith)), s, firsts-next (line_at r) no_row i r.rows, ends_next, q)

ended : (r : Relation) (i : ℕ) (o out : List ℕ) → i ≤ r.count → r.count ≤ i → length o ≡ r.count * 53 → out ≡ end_to_end (firsts (line_at r) no_row i r.rows) ++ drop (i * 53) o →
    out ≡ end_to_end (map row_line (relation_of r).rows)
ended r i o out a b l e =
    ends-all (line_at r) no_row 53 r.count i r.rows o out a b l e
    ∙ ap end_to_end (sym (map-firsts row_line (values_of r.columns) no_row r.count r.rows))

pub row_line-requires : goal.row_line-requires
row_line-requires c = (omega arith, search row-ok)

pub loop-i-preserved : goal.loop-i-preserved
loop-i-preserved c =
    let put = c.copy_from_slice.ensures.after ∙ c.row_line.ensures in
    record { within = omega arith; full = search kept-length; filled = search one_more }

pub returns : goal.returns
returns c = search ended
