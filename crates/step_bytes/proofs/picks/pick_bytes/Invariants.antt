use Prim.Native.Nat.{◌-◌, ◌≤◌}
use mathlib.Core.Path.{◌≡◌}
use lib.ListN.{length}
use Rattle.step_bytes.specs.PickBytes.{picks_in}
use Rattle.step_bytes.proofs.PickLaws.{first_picks}
use Rattle.step_bytes.proofs.picks.pick_bytes.Given as goal

abbrev pub invariant-loop-i : goal.invariant-loop-i
invariant-loop-i l = (first_picks l.i (picks_in l.bytes) ≡ first_picks l.i l.picks) × (l.i ≤ 256) × (length l.bytes ≡ 512)
