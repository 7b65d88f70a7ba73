-- What an answer of the code says, in the paper's numbers and counts, and the contract of a step.
use Rattle.std.specs.Prelude.{ℕ, ◌≡◌, Bool, true, false, List, [], T, Err, Ok, Result}
use Rattle.nets.specs.declared.Pick.{Pick}
use Rattle.nets.specs.declared.Done.{Done}
use Rattle.nets.specs.declared.Refusal.{Refusal}
use Rattle.nets.specs.declared.Refusal.TheVariants.{Unsound, NoThread, Unbound, NoSite, NoTable, TableThere, Misfit, Held, NoResult, NotReady, Full}
use Rattle.nets.specs.declared.Net.{Net}
use Rattle.nets.specs.declared.Stepped.{Stepped}
use Rattle.nets.specs.Nets.{Outcome, refused, done}
use Rattle.nets.specs.Scenes.{Parts}
use Rattle.nets.specs.Steps.{added_by, taken_by, first_refusal, part_checks, step}
use Rattle.nets.specs.Accounts.{net_left}
use Rattle.nets.specs.View.{view}

-- refused with a number and its values; done with rows added and rows taken
pub data Said : Type 0 where
  refusing : ℕ → List ℕ → Said
  doing : ℕ → ℕ → Said

abbrev pub answer_of : Outcome → Said
answer_of (refused n vs) = refusing n vs
answer_of (done a t net) = doing a t

abbrev pub is_doing : Said → Bool
is_doing (refusing n vs) = false
is_doing (doing a t) = true

-- what a step that is no loop answers once checks 10 to 15 have passed. Only the code speaks of it: the rule is `step`
unfoldable pub step_said : Parts → Bool → ℕ → Said
step_said p is_held tables = first_refusal refusing (part_checks p is_held tables) (doing (added_by p.node.kind p) (taken_by p.node.kind p))

-- what a pick comes to: the counts of one carried out, or the refusal
abbrev pub Answer : Type 0
Answer = Result Done Refusal

-- the counts in an answer; a refused pick reports none
abbrev pub added_said : Said → ℕ
added_said (refusing n vs) = 0
added_said (doing a t) = a

abbrev pub taken_said : Said → ℕ
taken_said (refusing n vs) = 0
taken_said (doing a t) = t

-- the paper's number of each refusal
abbrev pub number_of : Refusal → ℕ
number_of Unsound = 10
number_of NoThread = 11
number_of Unbound = 12
number_of NoSite = 13
number_of NoTable = 14
number_of TableThere = 15
number_of Misfit = 16
number_of Held = 17
number_of NoResult = 18
number_of NotReady = 19
number_of Full = 20

-- the values beside it: no refusal of a pick has any
abbrev pub values_of : Refusal → List ℕ
values_of r = []

abbrev pub said_of : Answer → Said
said_of (Ok d) = doing d.added d.taken
said_of (Err r) = refusing (number_of r) (values_of r)

abbrev pub is_refused : Answer → Bool
is_refused (Ok d) = false
is_refused (Err r) = true

-- the answer is the rule's; the net given back is the one that the rule leaves; and after a refusal it is the very struct that came in
pub record StepIs (net : Net) (pick : Pick) (r : Stepped) : Type 0 where
  pub answer : said_of r.answer ≡ answer_of (step (view net) pick)
  pub after : view r.net ≡ net_left (view net) (step (view net) pick)
  pub kept : T (is_refused r.answer) → r.net ≡ net
