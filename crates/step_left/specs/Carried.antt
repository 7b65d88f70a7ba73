-- What picks come to, one after the other. A run's contract cites `all_refused`; only the code speaks of the rest.
use Rattle.std.specs.Prelude.{◌≤◌, ◌≡◌, Bool, not, List, [], ◌∷◌, T, length}
use Rattle.std.specs.List.{list_all}
use Rattle.nets.specs.declared.Pick.{Pick}
use Rattle.nets.specs.declared.Net.{Net}
use Rattle.nets.specs.Answers.{Answer}
use Rattle.nets.specs.Nets as M
use Rattle.nets.specs.Nets.{Outcome}
use Rattle.nets.specs.Sound.{sound}
use Rattle.nets.specs.Steps.{step}
use Rattle.nets.specs.Accounts.{next_net, after, answers, is_done, reported_added, reported_taken}
use Rattle.nets.specs.Answers.{Said, refusing, answer_of, said_of}
use Rattle.nets.specs.View.{view}
use Rattle.value_totals.specs.declared.Total.{Total}
use Rattle.value_totals.specs.Totals.{total_of}
use Rattle.step_left.specs.declared.Carried.{Carried}
use Rattle.step_left.specs.Leaving.{left_by}

-- no pick of the list is carried out
abbrev pub all_refused : M.Net → List Pick → Bool
all_refused net ps = list_all (λ (o : Outcome). not (is_done o)) (answers net ps)

-- the answer to the last pick; of no picks the one that is given
unfoldable pub last_said : Said → M.Net → List Pick → Said
last_said s net [] = s
last_said s net (p ∷ ps) = last_said (answer_of (step net p)) (next_net net p) ps

-- a net after some picks, the answer to the last of them, and the sums
pub record Reached : Type 0 where
  pub net : Net
  pub answer : Answer
  pub added : Total
  pub taken : Total

abbrev pub reached_by : Net → Carried → Reached
reached_by net g = record { net = left_by net g; answer = g.answer; added = g.added; taken = g.taken }

-- after picks `ps` on a net
pub record CarriedIs (net : Net) (ps : List Pick) (r : Reached) : Type 0 where
  pub left : view r.net ≡ after (view net) ps
  pub sound : T (sound (view net)) → T (sound (view r.net))
  -- where every pick is refused it is the very struct that came in
  pub kept : T (all_refused (view net) ps) → r.net ≡ net
  pub last : said_of r.answer ≡ last_said (refusing 10 []) (view net) ps
  pub added : total_of r.added ≡ reported_added (view net) ps
  pub taken : total_of r.taken ≡ reported_taken (view net) ps
  -- a pick moves a high half by one at most
  pub added_room : r.added.high ≤ length ps
  pub taken_room : r.taken.high ≤ length ps
