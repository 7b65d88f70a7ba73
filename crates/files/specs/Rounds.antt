-- What a round binds ends with the round, as a theorem about what `load` and `step` returned: between two rounds of a sequential loop its thread has the very bindings that the loop's entry keeps,
-- those of the moment when the loop was first met. So T means the same in every round, and the thread goes on with them when the loop is over. `every_round_ends` in proofs/RoundLaws proves it.
use Rattle.std.specs.Prelude.{ℕ, ◌≡◌, List, [], ◌∷◌, T, get_or, Ok}
use Rattle.nets.specs.declared.Pick.{Pick}
use Rattle.nets.specs.declared.Stepped.{Stepped}
use Rattle.nets.specs.Nets.{is_sequential, Node, Bindings, Entry, to_run, visiting, Thread}
use Rattle.nets.specs.Sound.{no_node}
use Rattle.nets.specs.View.{view}
use Rattle.files.specs.declared.Loaded.{Loaded}
use Rattle.files.specs.Engine.{LoadIs}
use Rattle.files.specs.EngineDemand3.{Chain, last_net}

-- bindings `b` under a stack: where its top is a sequential loop's entry they are those that the entry keeps
abbrev pub between_rounds : List Node → Bindings → List Entry → Type 0
between_rounds ds b [] = Unit {0}
between_rounds ds b (to_run i ∷ s) = Unit {0}
between_rounds ds b (visiting i v c ∷ s) = T (is_sequential (get_or ds i no_node).kind) → b ≡ c

-- of each thread
abbrev pub rounds_ended : List Node → List Thread → Type 0
rounds_ended ds [] = Unit {0}
rounds_ended ds (t ∷ ts) = between_rounds ds t.bindings t.stack × rounds_ended ds ts

-- in the net after every list of picks, from every file that the engine accepts
abbrev pub EveryRoundEnds : Type 0
EveryRoundEnds =
    (file : List ℕ) (l : Loaded) → LoadIs file l → l.verdict ≡ Ok tt → (ps : List Pick) (rs : List Stepped) → Chain l.net ps rs →
    rounds_ended (view (last_net l.net rs)).nodes (view (last_net l.net rs)).threads
