-- `page_lines::lines::sums_line` meets its contract: the sums passed, then the bytes that stood there; at last the line feed.
use Prim.Native.Nat.{ℕ, ◌+◌, ◌-◌, ◌*◌, ◌≤◌}
use mathlib.Core.Path.{◌≡◌, refl, ◌∙◌}
use mathlib.Core.List.{List, ◌++◌}
use native.Mathlib.Omega.{arith}
use lib.Dec.{T}
use lib.ListN.{length, drop, replicate, set}
use borrow.Rule.Slice.PartMut.{put_mid}
use Rattle.value_bytes.proofs.Parts.{along, along-more}
use Rattle.value_bytes.proofs.Stores.{kept-length}
use Rattle.rows.specs.declared.Relation.{Relation}
use Rattle.rows.specs.View.{relation_of}
use Rattle.nets.specs.Sound.{rows_ok}
use Rattle.page_rules.specs.Pages.{line_of, sum_cell}
use Rattle.page_lines.proofs.SumLaws.{sum-cell-length}
use Rattle.page_lines.proofs.LineLaws.{line-ended}
use Rattle.page_lines.proofs.lines.sums_line.Goals as goal

module _ (r : Relation) (ok : T (rows_ok (relation_of r).rows)) where
  one_more : (i : ℕ) (o out ys : List ℕ) → out ≡ along (sum_cell (relation_of r)) i ++ drop (i * 13) o → ys ≡ sum_cell (relation_of r) i →
      put_mid (i * 13) (i * 13 + 13 - i * 13) out ys ≡ along (sum_cell (relation_of r)) (i + 1) ++ drop ((i + 1) * 13) o
  one_more = along-more (sum_cell (relation_of r)) 13 (sum-cell-length (relation_of r) ok)

  ended : (i : ℕ) (o out : List ℕ) → i ≤ 4 → 4 ≤ i → length o ≡ 53 → out ≡ along (sum_cell (relation_of r)) i ++ drop (i * 13) o → set out 52 0x0a ≡ line_of (sum_cell (relation_of r))
  ended i o out a b l e =
      let q : i ≡ 4 = omega arith in
      line-ended (sum_cell (relation_of r)) (sum-cell-length (relation_of r) ok) o out l (rw q at e)

pub loop-i-init : goal.loop-i-init
unfolding along
loop-i-init c = record { within = omega arith; full = refl; filled = refl }

pub loop-i-preserved : goal.loop-i-preserved
loop-i-preserved c =
    record { within = omega arith; full = search kept-length; filled = one_more c.args.r c.requires.1 c.loop-i.i _ _ _ c.loop-i.invariant.filled (c.copy_from_slice.ensures.after ∙ c.sum_cell.ensures) }

pub returns : goal.returns
returns c = ended c.args.r c.requires.1 c.loop-i.i (replicate 53 0) c.loop-i.out (omega arith) (omega arith) refl c.loop-i.invariant.filled
