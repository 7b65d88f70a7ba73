-- `page_lines::lines::put_page` meets its contract: the rows' lines, and the line of sums behind them.
use Prim.Native.Nat.{ℕ, ◌+◌, ◌-◌, ◌*◌}
use mathlib.Core.Path.{◌≡◌, sym, ap, ◌∙◌}
use mathlib.Core.List.{List, ◌++◌, map}
use native.Mathlib.Nat.{sub-zero}
use native.Mathlib.Omega.{arith}
use lib.Dec.{T}
use lib.ListN.{length, drop}
use borrow.Rule.Slice.PartMut.{put_mid}
use Rattle.values.proofs.Firsts.{length-firsts}
use Rattle.value_bytes.specs.Bytes.{end_to_end}
use Rattle.value_bytes.proofs.Parts.{two_fill}
use Rattle.value_bytes.proofs.Stores.{part-size}
use Rattle.rows.specs.declared.Relation.{Relation}
use Rattle.rows.specs.View.{no_row, values_of, relation_of}
use Rattle.nets.specs.Sound.{rows_ok}
use Rattle.page_rules.specs.Pages.{line_of, sum_cell, page_of}
use Rattle.page_lines.proofs.LineLaws.{row_line, rows-length, page-parts}
use Rattle.page_lines.proofs.lines.put_page.Goals as goal

-- x is the rows' lines
module _ (r : Relation) (ok : T (rows_ok (relation_of r).rows)) (o x : List ℕ) (lo : length o ≡ (r.count + 1) * 53) (hx : x ≡ end_to_end (map row_line (relation_of r).rows)) where
  rows_long : length x ≡ r.count * 53
  rows_long = ap length hx ∙ rows-length (relation_of r) ok ∙ ap (λ (n : ℕ). n * 53) (length-firsts (values_of r.columns) no_row r.count r.rows)

  filled : (y : List ℕ) → y ≡ line_of (sum_cell (relation_of r)) → put_mid (r.count * 53) (r.count * 53 + 53 - r.count * 53) (x ++ drop (r.count * 53 - 0) o) y ≡ page_of (relation_of r)
  filled y hy = rw (part-size, sub-zero, two_fill o x y (r.count * 53) 53 rows_long (omega arith), hx, hy) (sym (page-parts (relation_of r) ok))

pub returns : goal.returns
returns c = filled c.args.r c.requires.2 c.args.out.now _ c.requires.0 c.put_rows.ensures _ (c.copy_from_slice.ensures.after ∙ c.sums_line.ensures)
