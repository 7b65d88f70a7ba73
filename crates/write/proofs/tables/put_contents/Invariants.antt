use Prim.Native.Nat.{◌*◌, ◌≤◌}
use mathlib.Core.Path.{◌≡◌}
use mathlib.Core.List.{◌++◌}
use lib.ListN.{length, drop}
use Rattle.write.proofs.WholeLaws.{bodies}
use Rattle.write.proofs.tables.put_contents.Given as goal

abbrev pub invariant-loop-t : goal.invariant-loop-t
invariant-loop-t l =
    record {
      within : l.t-index ≤ length l.tables;
      full : length l.out ≡ length (bodies (length l.tables) l.tables);
      few : l.at ≤ 1664 * l.t-index;
      passed : length (bodies l.t-index l.tables) ≡ l.at;
      filled : l.out ≡ bodies l.t-index l.tables ++ drop l.at l.initial.out;
    }
