-- A trace: the moments of a run from a given one on, as many as the buffer has room for.
use Rattle.std.specs.Prelude.{ℕ, ◌-◌, cond, List, [], ◌∷◌, ◌++◌, map, leb, length, take, drop}
use Rattle.nets.specs.declared.Pick.{Pick}
use Rattle.nets.specs.Nets.{Net}
use Rattle.nets.specs.Accounts.{next_net, after}
use Rattle.call_rules.specs.Moments.{moment_put}
use Rattle.call_rules.specs.Replies.{Called, if_room_for}

-- the net after each pick
abbrev pub nets_after : Net → List Pick → List Net
nets_after net [] = []
nets_after net (p ∷ ps) = next_net net p ∷ nets_after (next_net net p) ps

-- as many parts, each whole and in order, as there is room for
abbrev pub in_room : ℕ → List (List ℕ) → List ℕ
in_room room [] = []
in_room room (bs ∷ l) = cond (leb (length bs) room) (bs ++ in_room (room - length bs) l) []

-- the net before all picks, and after each
unfoldable pub trace_put : Net → List Pick → ℕ → List ℕ
trace_put net ps room = in_room room (map moment_put (net ∷ nets_after net ps))

-- there must be room for the first moment
abbrev pub traced_from : Net → List Pick → List ℕ → Called
traced_from net ps buffer = if_room_for (length (moment_put net)) (trace_put net ps (length buffer)) buffer

-- the first moment is that after the first `from` picks
abbrev pub traced : ℕ → Net → List Pick → List ℕ → Called
traced from net ps buffer = traced_from (after net (take from ps)) (drop from ps) buffer
