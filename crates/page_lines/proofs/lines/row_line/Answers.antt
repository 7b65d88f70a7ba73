-- `page_lines::lines::row_line` meets its contract: the cells passed, then the bytes that stood there; at last the line feed.
use Prim.Native.Nat.{ℕ, ◌+◌, ◌-◌, ◌*◌, ◌≤◌}
use mathlib.Core.Path.{◌≡◌, refl, ◌∙◌}
use mathlib.Core.List.{List, ◌++◌}
use native.Mathlib.Omega.{arith}
use lib.Dec.{T}
use lib.ListN.{length, drop, replicate, set}
use borrow.Rule.Slice.PartMut.{put_mid}
use Rattle.value_bytes.proofs.Parts.{along, along-more}
use Rattle.value_bytes.proofs.Stores.{kept-length}
use Rattle.std.specs.List.{list_all}
use Rattle.values.specs.Values.{in_range}
use Rattle.rows.specs.declared.Row.{Row}
use Rattle.rows.specs.View.{values_of}
use Rattle.page_rules.specs.Pages.{line_of, row_cell}
use Rattle.page_lines.proofs.CellLaws.{row-cell-length}
use Rattle.page_lines.proofs.LineLaws.{line-ended}
use Rattle.page_lines.proofs.lines.row_line.Goals as goal

module _ (row : Row) (n : ℕ) (ok : T (list_all in_range (values_of n row))) where
  one_more : (i : ℕ) (o out ys : List ℕ) → out ≡ along (row_cell (values_of n row)) i ++ drop (i * 13) o → ys ≡ row_cell (values_of n row) i →
      put_mid (i * 13) (i * 13 + 13 - i * 13) out ys ≡ along (row_cell (values_of n row)) (i + 1) ++ drop ((i + 1) * 13) o
  one_more = along-more (row_cell (values_of n row)) 13 (row-cell-length (values_of n row) ok)

  ended : (i : ℕ) (o out : List ℕ) → i ≤ 4 → 4 ≤ i → length o ≡ 53 → out ≡ along (row_cell (values_of n row)) i ++ drop (i * 13) o → set out 52 0x0a ≡ line_of (row_cell (values_of n row))
  ended i o out a b l e =
      let q : i ≡ 4 = omega arith in
      line-ended (row_cell (values_of n row)) (row-cell-length (values_of n row) ok) o out l (rw q at e)

pub loop-i-init : goal.loop-i-init
unfolding along
loop-i-init c = record { within = omega arith; full = refl; filled = refl }

pub loop-i-preserved : goal.loop-i-preserved
loop-i-preserved c =
    record { within = omega arith; full = search kept-length; filled = one_more c.args.row c.args.columns c.requires.1 c.loop-i.i _ _ _ c.loop-i.invariant.filled (c.copy_from_slice.ensures.after ∙ c.row_cell.ensures) }

pub returns : goal.returns
returns c = ended c.args.row c.args.columns c.requires.1 c.loop-i.i (replicate 53 0) c.loop-i.out (omega arith) (omega arith) refl c.loop-i.invariant.filled
