use Prim.Native.Nat.{◌*◌, ◌≤◌}
use mathlib.Core.Path.{◌≡◌}
use lib.ListN.{length}
use Rattle.call_hold.specs.Holdings.{stack_given}
use Rattle.call_hold.proofs.threads.count_stack.Given as goal

abbrev pub invariant-loop-i : goal.invariant-loop-i
invariant-loop-i l =
    record {
      within : l.i ≤ l.t.depth;
      counted : l.total ≡ length (stack_given l.holds l.saved l.t l.i);
      few : l.total ≤ 51 * l.i;
    }
