use Prim.Native.Nat.{ℕ, ◌≤◌, ◌-◌}
use mathlib.Core.Bool.{◌&&◌}
use lib.ListN.{get_or}
use Rattle.rows.specs.View.{no_row}
use Rattle.rows.specs.Plans.{wants_met}
use Rattle.step_reads.specs.ReadContracts.{flag_at}
use Rattle.values.proofs.FlagLaws.{Flagged}
use Rattle.step_loop.proofs.ready_places.Given as goal

abbrev pub invariant-loop-i : goal.invariant-loop-i
invariant-loop-i l =
    Flagged (λ (k : ℕ). flag_at l.visit k && wants_met l.wants (get_or l.source.rows k no_row).cells) 16 l.i l.ready × (l.i ≤ l.source.count)
