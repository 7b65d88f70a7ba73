use Prim.Native.Nat.{◌-◌, ◌≤◌}
use mathlib.Core.Path.{◌≡◌}
use Rattle.std.specs.List.{list_any}
use Rattle.nets.specs.Steps.{holds}
use Rattle.nets.specs.View.{nodes_of, stack_of, saved_at}
use Rattle.step_picks.proofs.ThreadTies.{Shifting}
use Rattle.step_picks.proofs.Behind.{Behind, with_saved}
use Rattle.step_picks.proofs.carry_out.Given as goal

-- of the frames below `level` one holds the table variable
abbrev pub invariant-loop-level : goal.invariant-loop-level
invariant-loop-level l =
    (l.level ≤ l.depth) × (l.held ≡ list_any (holds (nodes_of l.net.nodecount l.net.nodes) l.node.bound) (stack_of (saved_at (nodes_of l.net.nodecount l.net.nodes) l.net.saved l.thread_place l.thread) l.level l.thread.stack))

-- what is saved for the threads behind it has moved, up to `hole`
abbrev pub invariant-loop-hole : goal.invariant-loop-hole
invariant-loop-hole l =
    Shifting l.initial.net.threads l.initial.net.saved l.thread_place l.hole l.net.saved × (l.net ≡ with_saved l.initial.net l.net.saved) × (l.hole ≤ l.end)

abbrev pub invariant-loop-i : goal.invariant-loop-i
invariant-loop-i l =
    Behind l.picks l.initial.out l.count l.room l.initial.net l.out (record { net = l.net; answer = l.answer; added = l.added; taken = l.taken }) l.i
