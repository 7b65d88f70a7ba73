use Rattle.std.proofs.Common.{ℕ, ◌≡◌, ◌≤◌, Bool, List, drop, ltb}
use Rattle.std.specs.List.{list_all}
use Rattle.nets.specs.View.{marked}
use Rattle.net_sound.proofs.threads.visit_ok.Given as goal

abbrev below : ℕ → List ℕ → Bool
below n l = list_all (λ j. ltb j n) l

abbrev pub invariant-loop-i : goal.invariant-loop-i
invariant-loop-i l = (l.i ≤ 16) × (below l.n (marked l.i (drop l.i l.visit)) ≡ below l.n (marked 0 l.visit))
