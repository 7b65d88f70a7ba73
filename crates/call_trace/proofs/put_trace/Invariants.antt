use Prim.Native.Nat.{◌-◌, ◌/◌, ◌≤◌}
use mathlib.Core.Path.{◌≡◌}
use mathlib.Core.List.{◌++◌}
use lib.Dec.{T}
use lib.ListN.{length, take, drop}
use Rattle.nets.specs.Sound.{sound}
use Rattle.nets.specs.View.{view}
use Rattle.step_bytes.specs.PickBytes.{picks_in}
use Rattle.call_rules.specs.Traces.{in_room, trace_put}
use Rattle.call_trace.proofs.TraceLaws.{later}
use Rattle.call_trace.proofs.put_trace.Given as goal

abbrev pub invariant-loop-i : goal.invariant-loop-i
invariant-loop-i l =
    record {
      within : l.i ≤ length l.picks / 2;
      sound : T (sound (view l.net));
      full : length l.out ≡ length l.fn.out;
      low : l.at ≤ length l.out;
      left : drop l.at l.out ≡ drop l.at l.fn.out;
      put : trace_put (view l.initial.net) (picks_in l.picks) (length l.fn.out) ≡ take l.at l.out ++ in_room (length l.out - l.at) (later (view l.net) (drop l.i (picks_in l.picks)));
    }
