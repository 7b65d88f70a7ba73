-- `write_fields::tuple_bytes` meets its contract: the operands of the cells passed, then zeros.
use Prim.Native.Nat.{ℕ, ◌+◌, ◌-◌, ◌*◌, ◌≤◌}
use mathlib.Core.Path.{◌≡◌, ◌∙◌}
use mathlib.Core.List.{List, ◌++◌}
use lib.ListN.{get_or, drop, replicate}
use native.Mathlib.Omega.{arith}
use borrow.Rule.Slice.PartMut.{put_mid}
use Rattle.values.specs.Lists.{firsts}
use Rattle.rows.specs.declared.Row.{Row}
use Rattle.rows.specs.View.{no_cell, values_of}
use Rattle.record_bytes.specs.Encoding.{operand_bytes, tuple_bytes}
use Rattle.value_bytes.specs.Bytes.{end_to_end}
use Rattle.value_bytes.proofs.Stores.{kept-length, drop-replicate, ends_more}
use Rattle.write_fields.proofs.WriteLaws.{cell_bytes, cell-length, tuple_is}
use Rattle.write_fields.proofs.tuple_bytes.Goals as goal

one_more : (r : Row) (i : ℕ) (o out ys : List ℕ) → out ≡ end_to_end (firsts cell_bytes no_cell i r.cells) ++ drop (i * 8) o → ys ≡ operand_bytes (get_or r.cells i no_cell) →
    put_mid (i * 8) (i * 8 + 8 - i * 8) out ys ≡ end_to_end (firsts cell_bytes no_cell (i + 1) r.cells) ++ drop ((i + 1) * 8) o
one_more r i o out ys e q = ends_more cell_bytes no_cell 8 cell-length r.cells i o out ys e q

ended : (r : Row) (n i : ℕ) (out : List ℕ) → n ≤ 4 → i ≤ n → n ≤ i → out ≡ end_to_end (firsts cell_bytes no_cell i r.cells) ++ drop (i * 8) (replicate 32 0) → out ≡ tuple_bytes (values_of n r)
ended r n i out small a b e =
    let q : i ≡ n = omega arith in
    rw (e, drop-replicate, tuple_is n r small, q)

pub loop-i-preserved : goal.loop-i-preserved
loop-i-preserved c = record { within = omega arith; few = omega arith; full = search kept-length; filled = one_more c.args.row c.loop-i.i _ _ _ c.loop-i.invariant.filled (c.copy_from_slice.ensures.after ∙ c.operand_of.ensures) }

pub returns : goal.returns
returns c = search ended
