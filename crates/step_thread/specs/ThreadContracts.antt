-- What the functions on a thread and on the rounds of its loops require and give back, part by part.
use Rattle.std.specs.Prelude.{ℕ, ◌≤◌, ◌≡◌, Bool, true, false, not, ◌&&◌, List, [], ◌∷◌, eqb, get_or, length, Option, Some, is_some, Result, Ok, Err}
use Rattle.values.specs.declared.Operand.{Operand}
use Rattle.values.specs.Lists.{among, filter}
use Rattle.std.specs.List.{list_any}
use Rattle.values.specs.Operands.{Vars}
use Rattle.rows.specs.Relations.{Relation}
use Rattle.rows.specs.Matching.{matches, row_vars}
use Rattle.nets.specs.declared.Entry.{Entry}
use Rattle.nets.specs.declared.Entry.TheVariants.{Run, Loop}
use Rattle.nets.specs.declared.Frame.{Frame}
use Rattle.nets.specs.declared.Thread.{Thread}
use Rattle.nets.specs.declared.Refusal.{Refusal}
use Rattle.step_thread.specs.declared.Opened.{Opened}
use Rattle.nets.specs.Nets as M
use Rattle.nets.specs.Scenes.{still_to_visit}
use Rattle.nets.specs.Steps.{keep_thread}
use Rattle.nets.specs.View.{entry_of, marked}
use Rattle.nets.specs.Answers.{number_of}

-- ── rounds of loops ──

abbrev pub RoundAnswer : Type 0
RoundAnswer = Result (Option Opened) Refusal

-- a round, or over, or refused with a number
abbrev pub RoundSaid : Type 0
RoundSaid = Result Bool ℕ

abbrev pub round_said : RoundAnswer → RoundSaid
round_said (Ok o) = Ok (is_some o)
round_said (Err r) = Err (number_of r)

-- from the tests: T is as long as the columns, a row still to visit matches, the row picked is one, there is room
abbrev pub round_by : Bool → Bool → Bool → Bool → RoundSaid
round_by false a q r = Err 16
round_by true false q r = Ok false
round_by true true false r = Err 19
round_by true true true false = Err 20
round_by true true true true = Ok true

-- what an entry holds is no matter where its node or its places are asked for
abbrev pub no_bindings : M.Bindings
no_bindings = record { vars = []; relations = [] }

-- the places still to visit in a relation
abbrev pub visit_of : Frame → Relation → List ℕ
visit_of f r = still_to_visit (entry_of no_bindings f) (length r.rows)

abbrev pub ready_at : Vars → List Operand → Relation → ℕ → Bool
ready_at e t r i = matches e t (get_or r.rows i [])

-- a round on a row: its place leaves the set, and T's formals bind to it
pub record OpenedIs (e : Vars) (t : List Operand) (r : Relation) (v : List ℕ) (row : ℕ) (o : Opened) : Type 0 where
  pub visit : marked 0 o.visit ≡ filter (λ i. not (eqb i row)) v
  pub vars : o.vars ≡ row_vars e t (get_or r.rows row [])

pub record RoundIs (e : Vars) (t : List Operand) (r : Relation) (f : Frame) (row : ℕ) (room : Bool) (o : RoundAnswer) : Type 0 where
  pub answer :
      round_said o
      ≡ round_by (eqb (length t) (length r.columns)) (list_any (ready_at e t r) (visit_of f r)) (among row (visit_of f r) && ready_at e t r row) room
  pub opened : (p : Opened) → o ≡ Ok (Some p) → OpenedIs e t r (visit_of f r) row p

-- ── threads ──

-- an entry to run
abbrev pub is_run : Entry → Bool
is_run (Run i) = true
is_run (Loop i) = false

-- a stack with an entry, within its array
pub record Stacked (t : Thread) : Type 0 where
  pub some : 1 ≤ t.depth
  pub few : t.depth ≤ 8

-- what becomes of a thread: itself, or nothing where its stack is empty
abbrev pub goes_on : M.Thread → List M.Thread
goes_on t = keep_thread t t.stack

-- the new thread of a parallel round, if there is one
abbrev pub forks_of : Bool → M.Thread → List M.Thread
forks_of false t = []
forks_of true t = t ∷ []
