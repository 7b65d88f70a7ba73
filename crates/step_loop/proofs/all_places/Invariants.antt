use Prim.Native.Nat.{ℕ, ◌≤◌, ◌-◌}
use mathlib.Core.Bool.{true}
use Rattle.values.proofs.FlagLaws.{Flagged}
use Rattle.step_loop.proofs.all_places.Given as goal

abbrev pub invariant-loop-i : goal.invariant-loop-i
invariant-loop-i l = Flagged (λ (k : ℕ). true) 16 l.i l.visit × (l.i ≤ l.n)
