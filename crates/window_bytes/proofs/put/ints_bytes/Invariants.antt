use Prim.Native.Nat.{ℕ, ◌*◌, ◌≤◌}
use mathlib.Core.Path.{◌≡◌}
use mathlib.Core.List.{List, ◌++◌}
use lib.IntN.{ℤ, pos}
use lib.ListN.{length, drop, replicate}
use Rattle.values.specs.Lists.{firsts}
use Rattle.value_bytes.specs.Bytes.{end_to_end}
use Rattle.window_rules.specs.WindowBytes.{int_bytes}
use Rattle.window_bytes.proofs.put.ints_bytes.Given as goal

-- the bytes of the Ints passed
abbrev pub passed : ℕ → List ℤ → List ℕ
passed i xs = end_to_end (firsts int_bytes (pos 0) i xs)

abbrev pub invariant-loop-i : goal.invariant-loop-i
invariant-loop-i l =
    record {
      within : l.i ≤ length l.ints;
      full : length l.out ≡ 64;
      filled : l.out ≡ passed l.i l.ints ++ drop (l.i * 4) (replicate 64 0);
    }
