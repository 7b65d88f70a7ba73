use Prim.Native.Nat.{◌*◌, ◌≤◌}
use mathlib.Core.Path.{◌≡◌}
use lib.Dec.{T}
use lib.ListN.{length}
use Rattle.nets.specs.Sound.{sound}
use Rattle.nets.specs.View.{view}
use Rattle.call_hold.specs.Holdings.{HoldsAre}
use Rattle.call_moment.proofs.NetShapes.{nodes_in}
use Rattle.call_moment.proofs.ThreadRecordLaws.{records_to}
use Rattle.call_moment.proofs.threads.count_all.Given as goal

abbrev pub invariant-loop-i : goal.invariant-loop-i
invariant-loop-i l =
    record {
      sound : T (sound (view l.net));
      holds : HoldsAre (nodes_in l.net) l.holds;
      few : l.net.threadcount ≤ 8;
      within : l.i ≤ l.net.threadcount;
      counted : l.total ≡ length (records_to l.net l.i);
      low : l.total ≤ 459 * l.i;
    }
