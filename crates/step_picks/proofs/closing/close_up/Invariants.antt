use mathlib.Core.Path.{◌≡◌}
use Prim.Native.Nat.{◌+◌, ◌-◌, ◌≤◌}
use lib.ListN.{drop, length}
use lib.Seq.{paste}
use Rattle.step_picks.proofs.closing.close_up.Given as goal

-- the elements behind the hole have moved, up to `gap`
abbrev pub invariant-loop-gap : goal.invariant-loop-gap
invariant-loop-gap g l =
    (l.items ≡ paste l.initial.items l.hole (drop (l.hole + 1) l.initial.items) (l.gap - l.hole)) × (length l.items ≡ length l.initial.items) × (l.hole ≤ l.gap) × (l.gap ≤ l.end - 1)
