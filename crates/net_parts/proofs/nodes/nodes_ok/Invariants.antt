use Rattle.std.proofs.Common.{◌≡◌, drop, length, map}
use Rattle.nets.specs.Sound.{nodes_ok}
use Rattle.nets.specs.View.{node_of}
use Rattle.net_parts.proofs.nodes.nodes_ok.Given as goal

abbrev pub invariant-loop-i : goal.invariant-loop-i
invariant-loop-i l = nodes_ok (length l.nodes) l.i (drop l.i (map node_of l.nodes)) ≡ nodes_ok (length l.nodes) 0 (map node_of l.nodes)
