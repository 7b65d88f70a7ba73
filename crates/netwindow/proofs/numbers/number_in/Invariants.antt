-- The number never passes the most.
use Rattle.std.proofs.Common.{◌≤◌}
use Rattle.netwindow.proofs.numbers.number_in.Given as goal

abbrev pub invariant-loop-byte : goal.invariant-loop-byte
invariant-loop-byte l = l.n ≤ 1000
