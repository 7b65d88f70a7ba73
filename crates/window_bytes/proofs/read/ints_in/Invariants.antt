use mathlib.Core.Path.{◌≡◌}
use lib.ListN.{length}
use Rattle.window_bytes.proofs.ReadLaws.{Filled, int_at_part}
use Rattle.window_bytes.proofs.read.ints_in.Given as goal

abbrev pub invariant-loop-i : goal.invariant-loop-i
invariant-loop-i l =
    record {
      full : length l.ints ≡ 16;
      read : Filled (int_at_part l.p) l.ints l.i;
    }
