use Prim.Native.Nat.{◌≤◌, ◌*◌}
use mathlib.Core.Path.{◌≡◌}
use mathlib.Core.List.{foldl}
use lib.ListN.{drop}
use lib.IntN.{◌+ℤ◌}
use lib.Signed.{mag}
use Rattle.row_change.specs.Aggregates.{smaller, larger, total}
use Rattle.window_rules.specs.Windows.{chosen}
use Rattle.window.proofs.figures.figures_of.Given as goal

abbrev pub invariant-loop-k : goal.invariant-loop-k
invariant-loop-k l =
    record {
      small : mag l.sum ≤ l.k-index * 2147483648;
      sums : foldl ◌+ℤ◌ l.sum (drop l.k-index l.ints) ≡ total l.ints;
      least_kept : foldl smaller l.least (drop l.k-index l.ints) ≡ chosen smaller l.ints;
      largest_kept : foldl larger l.largest (drop l.k-index l.ints) ≡ chosen larger l.ints;
    }
