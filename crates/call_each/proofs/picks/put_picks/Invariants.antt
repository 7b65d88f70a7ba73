use Prim.Native.Nat.{◌*◌, ◌≤◌}
use mathlib.Core.Path.{◌≡◌}
use mathlib.Core.List.{◌++◌}
use lib.ListN.{length, drop}
use Rattle.call_each.proofs.OwnPicks.{passed}
use Rattle.call_each.proofs.picks.put_picks.Given as goal

abbrev pub invariant-loop-i : goal.invariant-loop-i
invariant-loop-i l =
    record {
      within : l.i ≤ length l.picks;
      full : length l.out ≡ length l.picks * 2;
      filled : l.out ≡ passed l.i l.picks ++ drop (l.i * 2) l.initial.out;
    }
