-- The sum so far, within 64 bits.
use Rattle.std.proofs.Common.{◌≡◌, ◌*◌, take, pos, ◌+ℤ◌, neg_ℤ, ◌≤ℤ◌, fold}
use Rattle.row_aggregate.proofs.Columns.{int_in}
use Rattle.row_aggregate.proofs.total_of.Given as goal

abbrev pub invariant-loop-row : goal.invariant-loop-row
invariant-loop-row l =
    (l.sum ≡ fold (λ b row. b +ℤ int_in l.at row) (pos 0) (take l.row-index l.rows)) × (neg_ℤ (pos (2147483648 * l.row-index)) ≤ℤ l.sum) × (l.sum ≤ℤ pos (2147483648 * l.row-index))
