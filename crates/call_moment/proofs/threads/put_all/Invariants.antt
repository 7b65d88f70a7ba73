use Prim.Native.Nat.{◌*◌, ◌≤◌}
use mathlib.Core.Path.{◌≡◌}
use mathlib.Core.List.{◌++◌}
use lib.Dec.{T}
use lib.ListN.{length, drop}
use Rattle.nets.specs.Sound.{sound}
use Rattle.nets.specs.View.{view}
use Rattle.value_bytes.specs.Bytes.{end_to_end}
use Rattle.call_hold.specs.Holdings.{HoldsAre}
use Rattle.call_moment.proofs.NetShapes.{nodes_in}
use Rattle.call_moment.proofs.ThreadRecordLaws.{records_to}
use Rattle.call_moment.proofs.threads.put_all.Given as goal

abbrev pub invariant-loop-i : goal.invariant-loop-i
invariant-loop-i l =
    record {
      sound : T (sound (view l.net));
      holds : HoldsAre (nodes_in l.net) l.holds;
      few : l.net.threadcount ≤ 8;
      within : l.i ≤ l.net.threadcount;
      full : length l.out ≡ length (records_to l.net l.net.threadcount) * 104;
      low : l.at ≤ 47736 * l.i;
      at : l.at ≡ length (records_to l.net l.i) * 104;
      filled : l.out ≡ end_to_end (records_to l.net l.i) ++ drop l.at l.initial.out;
    }
