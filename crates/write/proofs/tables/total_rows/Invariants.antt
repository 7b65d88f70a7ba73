use Prim.Native.Nat.{◌*◌, ◌≤◌}
use mathlib.Core.Path.{◌≡◌}
use lib.ListN.{length}
use Rattle.write.proofs.WholeLaws.{bodies}
use Rattle.write.proofs.tables.total_rows.Given as goal

abbrev pub invariant-loop-t : goal.invariant-loop-t
invariant-loop-t l =
    record {
      within : l.t-index ≤ length l.tables;
      passed : length (bodies l.t-index l.tables) ≡ l.total * 104;
      few : l.total ≤ 16 * l.t-index;
    }
