use Prim.Native.Nat.{◌*◌, ◌≤◌}
use mathlib.Core.Path.{◌≡◌}
use mathlib.Core.List.{◌++◌}
use lib.ListN.{length, drop}
use Rattle.value_bytes.proofs.Parts.{along}
use Rattle.call_thread.proofs.ThreadLaws.{bytes_at}
use Rattle.call_thread.proofs.put_threads.Given as goal

abbrev pub invariant-loop-i : goal.invariant-loop-i
invariant-loop-i l =
    record {
      within : l.i ≤ length l.threads;
      full : length l.out ≡ length l.threads * 24;
      filled : l.out ≡ along (bytes_at l.threads) l.i ++ drop (l.i * 24) l.initial.out;
    }
