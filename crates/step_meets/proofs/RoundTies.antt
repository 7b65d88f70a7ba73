-- A loop's pick, from the tests of its round: its answer, and what becomes of the threads. Assumes nothing.
use mathlib.Core.Path.{◌≡◌, refl, ap, ◌∙◌}
use mathlib.Core.Bool.{Bool, true, false, not, cond, ◌&&◌, ◌||◌, and-true}
use mathlib.Core.List.{List, []}
use Rattle.std.specs.Prelude.{Some, is_some, Ok, Err}
use Prim.Native.Nat.{ℕ}
use lib.Dec.{T, eqb}
use lib.ListN.{length, get_or}
use Rattle.values.specs.Lists.{among}
use Rattle.std.specs.List.{list_any}
use Rattle.values.specs.declared.Operand.{Operand}
use Rattle.values.specs.Operands.{Vars}
use Rattle.values.proofs.Bools.{is_true}
use Rattle.rows.specs.Relations.{Relation}
use Rattle.nets.specs.Nets.{has_locality, needs_table, is_create, is_loop, is_parallel, Bindings}
use Rattle.nets.specs.Scenes.{Scene, below, vars, template, site_of_l, table, relation, source, still_to_visit, visit, row_at, ready, any_ready, pick_ready, opens}
use Rattle.nets.specs.Steps.{check12, check13, check14, check15, check16, check17, check18, check19, check20, room_for_round, added_by, taken_by, vars_by, bindings_by, with_bindings, go_on, settle, sequential_round, parallel_round, threads_after, verdict, first_refusal, checks}
use Rattle.nets.specs.Answers.{Said, refusing, doing, answer_of}
use Rattle.step_thread.specs.ThreadContracts.{RoundSaid, round_by, ready_at}
use Rattle.step_meets.specs.MeetContracts.{outcome_at}
use Rattle.step_meets.proofs.EffectTies.{later_said, later-said, read-source}
use Rattle.nets.proofs.KindClasses.{◌▸◌, of_class}
use Rattle.nets.proofs.RoundLaws.{loop-reads}

-- ── the answer ──

-- a round and a loop that is over add and take no rows
abbrev pub said_round : RoundSaid → Said
said_round (Ok b) = doing 0 0
said_round (Err n) = refusing n []

-- T is as long as the columns
abbrev long : Scene → Bool
long c = eqb (length (template c)) (length (source c).columns)

abbrev pub round_here : Scene → RoundSaid
round_here c = round_by (long c) (any_ready c) (pick_ready c) (room_for_round c)

-- with variables `e`, T `t`, a relation `x`, places `v` still to visit, the row picked, and whether there is room
abbrev pub round_with : Vars → List Operand → Relation → List ℕ → ℕ → Bool → RoundSaid
round_with e t x v row room = round_by (eqb (length t) (length x.columns)) (list_any (ready_at e t x) v) (among row v && ready_at e t x row) room

rounds_said : (a b q r : Bool) → verdict refusing a 16 [] (verdict refusing (not b || q) 19 [] (verdict refusing (not b || r) 20 [] (doing 0 0))) ≡ said_round (round_by a b q r)
rounds_said false b q r = refl
rounds_said true false q r = refl
rounds_said true true false r = refl
rounds_said true true true false = refl
rounds_said true true true true = refl

none-ready : (a b q r : Bool) → round_by a b q r ≡ Ok false → b ≡ false
none-ready false b q r e = cc
none-ready true false q r e = refl
none-ready true true false r e = cc
none-ready true true true false e = cc
none-ready true true true true e = cc

one-ready : (a b q r : Bool) → round_by a b q r ≡ Ok true → b ≡ true
one-ready false b q r e = cc
one-ready true false q r e = cc
one-ready true true q r e = refl

module _ (c : Scene) (loop : T (is_loop c.node.kind)) where
  -- a loop has no L and no table, so that checks 13, 14 and 15 pass
  passes : (check13 c ≡ true) × (check14 c ≡ true) × (check15 c ≡ true)
  unfolding check13 check14 check15
  passes =
      of_class (λ k. ((not (has_locality k) || is_some (site_of_l c)) ≡ true) × ((not (needs_table k) || is_some (table c)) ≡ true) × ((not (is_create k) || not (is_some (table c))) ≡ true))
      is_loop ((refl, refl, refl) ▸ (refl, refl, refl) ▸ tt) c.node.kind loop

  round_said_lem : later_said c ≡ said_round (round_here c)
  unfolding first_refusal checks check16 check17 check18 check19 check20 opens added_by taken_by
  round_said_lem =
      let t = rounds_said (long c) (any_ready c) (pick_ready c) (room_for_round c) in
      of_class (λ k. c.node.kind ≡ k → later_said c ≡ said_round (round_here c)) is_loop ((λ e. simp (e, and-true) t) ▸ (λ e. simp (e, and-true) t) ▸ tt) c.node.kind loop refl

  pub round_answer : check12 c ≡ true → answer_of (outcome_at c) ≡ said_round (round_here c)
  round_answer twelve = later-said c twelve passes.0 passes.1 passes.2 ∙ round_said_lem

  -- ── the threads ──

  open_if : opens c ≡ any_ready c
  unfolding opens
  open_if = rw (is_true (is_loop c.node.kind) loop)

  own-bindings : bindings_by c.node.kind c ≡ c.thread.bindings
  unfolding bindings_by vars_by
  own-bindings = of_class (λ k. bindings_by k c ≡ c.thread.bindings) is_loop (refl ▸ refl ▸ tt) c.node.kind loop

  -- over: the thread goes on as it was
  pub over-threads : round_here c ≡ Ok false → threads_after c ≡ settle c.at (go_on c.net.nodes c.node.next c.thread (below c.thread.stack)) c.net.threads
  unfolding threads_after
  over-threads e =
      rw (open_if, none-ready (long c) (any_ready c) (pick_ready c) (room_for_round c) e)
      (ap (λ (b : Bindings). settle c.at (go_on c.net.nodes c.node.next (with_bindings c.thread b) (below c.thread.stack)) c.net.threads) own-bindings)

  opened-threads : round_here c ≡ Ok true → threads_after c ≡ cond (is_parallel c.node.kind) (parallel_round c) (sequential_round c)
  unfolding threads_after
  opened-threads e = rw (open_if, one-ready (long c) (any_ready c) (pick_ready c) (room_for_round c) e)

  pub sequential_threads : round_here c ≡ Ok true → is_parallel c.node.kind ≡ false → threads_after c ≡ sequential_round c
  sequential_threads e h = opened-threads e ∙ rw h

  pub parallel_threads : round_here c ≡ Ok true → is_parallel c.node.kind ≡ true → threads_after c ≡ parallel_round c
  parallel_threads e h = opened-threads e ∙ rw h

  -- ── by the table variable read ──

  module _ (r : Relation) (held : relation c ≡ Some r) where
    pub loop-source : source c ≡ r
    loop-source = read-source c (loop-reads c.node.kind loop) r held

    pub loop-visit : visit c ≡ still_to_visit c.entry (length r.rows)
    unfolding visit
    loop-visit = rw loop-source

    pub loop-row : (i : ℕ) → row_at c i ≡ get_or r.rows i []
    unfolding row_at
    loop-row i = rw loop-source

    pub loop_round : round_here c ≡ round_with (vars c) (template c) r (still_to_visit c.entry (length r.rows)) c.row (room_for_round c)
    unfolding any_ready pick_ready ready visit row_at
    loop_round = ap (λ (x : Relation). round_with (vars c) (template c) x (still_to_visit c.entry (length x.rows)) c.row (room_for_round c)) loop-source
