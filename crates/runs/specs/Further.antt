-- What the functions inside a run require and give back.
use Rattle.std.specs.Prelude.{◌+◌, ◌<◌, ◌≤◌, ◌^◌, ◌≡◌, List, T, length}
use Rattle.nets.specs.declared.Pick.{Pick}
use Rattle.nets.specs.Sound.{sound}
use Rattle.nets.specs.Accounts.{after, reported_added, reported_taken}
use Rattle.nets.specs.View.{view}
use Rattle.run_state.specs.declared.Ran.{Ran}
use Rattle.value_totals.specs.Totals.{total_of}
use Rattle.step_left.specs.Carried.{all_refused}

-- the flag is right, and the sums have room for a pick
pub record Ready (s : Ran) : Type 0 where
  pub flag : s.sound ≡ sound (view s.net)
  pub added : s.added.high < 2 ^ 63
  pub taken : s.taken.high < 2 ^ 63

-- some picks further: as `RunIs` but for demand 3, from a state in the middle of a run; a pick moves a high half by one at most
pub record Further (s : Ran) (ps : List Pick) (r : Ran) : Type 0 where
  pub after : view r.net ≡ after (view s.net) ps
  pub added : total_of r.added ≡ total_of s.added + reported_added (view s.net) ps
  pub taken : total_of r.taken ≡ total_of s.taken + reported_taken (view s.net) ps
  pub kept : T (all_refused (view s.net) ps) → r.net ≡ s.net
  pub flag : r.sound ≡ sound (view r.net)
  pub added_room : r.added.high ≤ s.added.high + length ps
  pub taken_room : r.taken.high ≤ s.taken.high + length ps
