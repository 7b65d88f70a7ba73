use Rattle.std.proofs.Common.{◌≡◌, ◌&&◌, drop, leb, length, map}
use Rattle.std.specs.List.{list_all}
use Rattle.nets.specs.Sound.{thread_ok}
use Rattle.nets.specs.View.{node_of, threads_of}
use Rattle.net_sound.proofs.saved.threads_ok.Given as goal

abbrev pub invariant-loop-i : goal.invariant-loop-i
invariant-loop-i l = list_all (thread_ok (map node_of l.nodes)) (drop l.i (threads_of (map node_of l.nodes) l.saved (length l.threads) l.threads))
    ≡ (leb (length l.threads) 8 && list_all (thread_ok (map node_of l.nodes)) (threads_of (map node_of l.nodes) l.saved (length l.threads) l.threads))
