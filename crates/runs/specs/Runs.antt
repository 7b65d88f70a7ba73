-- The contract of a run: what comes back after a list of picks, by the rules.
use Rattle.std.specs.Prelude.{ℕ, ◌≡◌, List, T, Ok}
use Rattle.nets.specs.declared.Pick.{Pick}
use Rattle.nets.specs.declared.Net.{Net}
use Rattle.nets.specs.Sound.{sound}
use Rattle.nets.specs.Accounts.{after, reported_added, reported_taken}
use Rattle.nets.specs.View.{view}
use Rattle.files.specs.declared.Loaded.{Loaded}
use Rattle.files.specs.FileDemand3.{FileDemand3}
use Rattle.files.specs.Engine.{LoadIs}
use Rattle.step_left.specs.Carried.{all_refused}
use Rattle.run_state.specs.declared.Ran.{Ran}
use Rattle.value_totals.specs.Totals.{total_of}

pub record RunIs (net : Net) (ps : List Pick) (r : Ran) : Type 0 where
  -- the net given back is the one that the rules leave after the picks
  pub after : view r.net ≡ after (view net) ps
  -- the sums are those of the counts that the rules report, exactly
  pub added : total_of r.added ≡ reported_added (view net) ps
  pub taken : total_of r.taken ≡ reported_taken (view net) ps
  -- where every pick is refused it is the very struct that came in
  pub kept : T (all_refused (view net) ps) → r.net ≡ net
  -- the flag is the soundness of the net given back
  pub flag : r.sound ≡ sound (view r.net)
  -- demand 3 of what was given back, for every file that loading accepted as this net
  pub demand3 :
      (file : List ℕ) (l : Loaded) → LoadIs file l → l.verdict ≡ Ok tt → l.net ≡ net →
      FileDemand3 file ps (view r.net) (total_of r.added) (total_of r.taken)
