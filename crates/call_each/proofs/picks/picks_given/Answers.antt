-- `call_each::picks::picks_given` meets its contract: too little room, or all picks and then the bytes that stood there. Assumes nothing.
use Prim.Native.Nat.{ℕ, ◌*◌, ◌-◌, ◌≤◌, ◌<◌}
use mathlib.Core.Path.{◌≡◌, refl}
use mathlib.Core.List.{List, ◌++◌}
use native.Mathlib.Omega.{arith}
use lib.ListN.{length, drop}
use Rattle.nets.specs.declared.Pick.{Pick}
use Rattle.call_rules.specs.Layouts.{picks_put}
use Rattle.call_rules.specs.Replies.{if_room}
use Rattle.call_rules.specs.Calls.{Gives}
use Rattle.call_rules.proofs.CallLaws.{needed-is, gives-short, gives-put}
use Rattle.call_each.proofs.OwnPicks.{picks-long}
use Rattle.call_each.proofs.picks.picks_given.Goals as goal

module _ (ps : List Pick) (h : length ps ≤ 256) (o : List ℕ) where
  short : length o < length ps * 2 → Gives (if_room (picks_put ps) o) o o 21 (length ps * 2)
  short l = gives-short (picks_put ps) o (length ps * 2) (picks-long ps) (length ps * 2) l (needed-is (length ps * 2) (omega arith))

  given : (ys : List ℕ) → length ps * 2 ≤ length o → ys ≡ picks_put ps → Gives (if_room (picks_put ps) o) o (ys ++ drop (length ps * 2 - 0) o) 0 (length ps * 2)
  given ys l e = gives-put (picks_put ps) o (length ps * 2) (picks-long ps) ys l e

pub returns-then-out-size : goal.returns-then-out-size
returns-then-out-size c = record { gives = search short; refused = (omega arith, refl) }

pub returns : goal.returns
returns c = record { gives = search given; refused = tt }
