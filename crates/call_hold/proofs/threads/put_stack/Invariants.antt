use Prim.Native.Nat.{◌+◌, ◌-◌, ◌*◌, ◌≤◌}
use mathlib.Core.Path.{◌≡◌}
use mathlib.Core.List.{◌++◌}
use lib.ListN.{length, take}
use Rattle.value_bytes.specs.Bytes.{end_to_end}
use Rattle.call_hold.specs.Holdings.{stack_given}
use Rattle.call_hold.proofs.threads.put_stack.Given as goal

abbrev pub invariant-loop-left : goal.invariant-loop-left
invariant-loop-left l =
    record {
      within : l.left ≤ l.t.depth;
      full : length l.out ≡ length (stack_given l.holds l.saved l.t l.t.depth) * 104;
      low : l.at ≤ 5304 * (l.t.depth - l.left);
      rest : l.at + length (stack_given l.holds l.saved l.t l.left) * 104 ≡ length l.out;
      filled : end_to_end (stack_given l.holds l.saved l.t l.t.depth) ≡ take l.at l.out ++ end_to_end (stack_given l.holds l.saved l.t l.left);
    }
