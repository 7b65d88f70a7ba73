use Prim.Native.Nat.{◌<◌}
use Rattle.test_nets.proofs.stacks.entries_of.Given as goal

abbrev pub invariant-loop-i : goal.invariant-loop-i
invariant-loop-i l = l.top < 8
