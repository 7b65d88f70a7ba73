use Prim.Native.Nat.{ℕ, ◌<◌, ◌≤◌}
use mathlib.Core.Path.{◌≡◌}
use mathlib.Core.List.{List}
use lib.ListN.{length, get_or}
use Rattle.nets.specs.declared.Node.{Node}
use Rattle.nets.specs.View.{no_node, node_of}
use Rattle.call_hold.specs.Holdings.{holds_by}
use Rattle.call_hold.proofs.loops.all_holds.Given as goal

-- what is said of the first `i` nodes
pub record Said (ns : List Node) (i : ℕ) (holds : List ℕ) : Type 0 where
  pub long : length holds ≡ 256
  pub passed : (k : ℕ) → k < i → get_or holds k 0 ≡ holds_by (node_of (get_or ns k no_node))
  pub others : (k : ℕ) → i ≤ k → get_or holds k 0 ≡ 0

abbrev pub invariant-loop-i : goal.invariant-loop-i
invariant-loop-i l =
    record {
      within : l.i ≤ length l.nodes;
      said : Said l.nodes l.i l.holds;
    }
