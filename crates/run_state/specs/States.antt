-- What the state of a run is before the first pick, and after one more step. Only the code speaks of it.
use Rattle.std.specs.Prelude.{◌+◌, ◌≤◌, ◌≡◌}
use Rattle.nets.specs.declared.Net.{Net}
use Rattle.nets.specs.declared.Stepped.{Stepped}
use Rattle.nets.specs.Sound.{sound}
use Rattle.nets.specs.View.{view}
use Rattle.nets.specs.Answers.{added_said, taken_said, said_of}
use Rattle.value_totals.specs.Totals.{total_of}
use Rattle.run_state.specs.declared.Ran.{Ran}

-- before the first pick
pub record Begun (net : Net) (r : Ran) : Type 0 where
  pub same : r.net ≡ net
  pub flag : r.sound ≡ sound (view net)
  pub added : r.added ≡ record { high = 0; low = 0 }
  pub taken : r.taken ≡ record { high = 0; low = 0 }

-- a step counted; it moves a high half by one at most
pub record Tallied (s : Ran) (stepped : Stepped) (r : Ran) : Type 0 where
  pub net : r.net ≡ stepped.net
  pub flag : r.sound ≡ s.sound
  pub added : total_of r.added ≡ total_of s.added + added_said (said_of stepped.answer)
  pub taken : total_of r.taken ≡ total_of s.taken + taken_said (said_of stepped.answer)
  pub added_room : r.added.high ≤ s.added.high + 1
  pub taken_room : r.taken.high ≤ s.taken.high + 1
