-- `step_decide::decide_loop` meets its contract: the round's answer is the step's, and a done one changes the threads as the step does. Assumes nothing.
use Prim.Native.Nat.{◌<◌}
use mathlib.Core.Path.{◌≡◌, refl, ap, sym, ◌∙◌}
use mathlib.Core.Bool.{Bool, cond}
use Rattle.std.specs.Prelude.{Option, None, Some, Err, Ok, is_some}
use borrow.Author.Rules.{rules}
use Rattle.step_thread.specs.declared.Opened.{Opened}
use Rattle.step_thread.specs.ThreadContracts.{RoundAnswer}
use lib.Dec.{ltb}
use borrow.Author.Tests.{ltb-true}
use Rattle.nets.specs.Scenes.{Scene}
use Rattle.step_meets.specs.Situations.{Situation, situation, Rest, whole}
use Rattle.step_meets.specs.MeetContracts.{Meets, Known, SourceIs}
use Rattle.step_meets.proofs.SituationLaws.{fine-template, known_12, loop-read, visits-there}
use Rattle.step_meets.proofs.DecideLaws.{refused-at}
use Rattle.step_meets.proofs.LoopChangeLaws.{round_room_lem, room-met, RoundAt, round_stops}
use Rattle.step_meets.proofs.LoopLaws.{over-at, runs-at, forks-at}
use Rattle.step_decide.proofs.decide_loop.Goals as goal
use Rattle.step_decide.proofs.decide_loop.Goals.{After-round, Start}

abbrev start : After-round → Start
start r = r.before.before.before.before

abbrev meant : Start → Rest → Situation
meant s w = let a = s.args in situation (whole a.vars a.depth w) w.saved a.frame a.node a.content a.s

abbrev met : After-round → Rest → Situation
met r w = meant (start r) w

-- what a round comes to, from its two patterns
answered : {o : RoundAnswer} {u v : Option Opened} → o ≡ Ok u → u ≡ v → o ≡ Ok v
answered h k = h ∙ ap Ok k

round-at : (r : After-round) (w : Rest) → Known (met r w) → SourceIs (met r w) (start r).args.source → (n : Scene) → Meets (met r w) n → RoundAt (met r w) n r.round.result
round-at r w known source n m =
    let s = start r in
    record {
      meets = m;
      loop = s.requires.0;
      twelve = known_12 (met r w) n m known;
      source = s.args.source;
      held = loop-read (met r w) s.args.source source s.requires.0;
      room = _;
      space = room-met (met r w) n m r.is_parallel-parallel.ensures r.room_for_round-room.ensures;
      got = r.round.ensures;
    }

none_of : {A : Type 0} (o : Option A) → ((a : A) → o ≡ Some a → ⊥) → o ≡ None
none_of None h = refl
none_of (Some a) h = absurd (h a refl)

pub round-requires : goal.round-requires
round-requires c =
    let s = c.before.before.before in
    let w = c.requires.1.rest in
    let f = c.requires.1.facts in
    (f.2.shaped, fine-template (meant s w) f.0, visits-there (meant s w) c.args.source f.2 f.0 c.requires.0)

-- refused
pub returns-in_err-opened : goal.returns-in_err-opened
returns-in_err-opened c w fine known source n m =
    let r = (goal.at.returns-in_err-opened c).After-round in
    let e : c.from_residual.result ≡ Err c.in_err-opened.field-0.0 = search rules in
    refused-at n (met r w) (start r).args.source c.from_residual.result c.in_err-opened.field-0.0 e (round_stops (met r w) n c.round.result (round-at r w known source n m) c.in_err-opened.field-0.0 c.in_err-opened.was)

-- over
pub returns-in_default : goal.returns-in_default
returns-in_default c w fine known source n m =
    let r = (goal.at.returns-in_default c).After-round in
    let s = start r in
    let o = c.onward in
    over-at (met r w) s.args.source n c.round.result (round-at r w known source n m) fine.stacked w.long o.result o.ensures.0 (answered c.in_ok-opened.was (none_of _ c.in_default.not-Some)) (ap is_some o.ensures.1) o.ensures.2 o.ensures.3

-- a round in a new thread
pub returns-then-parallel : goal.returns-then-parallel
returns-then-parallel c w fine known source n m =
    let r = (goal.at.returns-then-parallel c).After-round in
    let s = start r in
    forks-at (met r w) s.args.source n c.round.result (round-at r w known source n m) fine.stacked w.long _ refl c.in-Some.opened (answered c.in_ok-opened.was c.in-Some.is) c.is_run.ensures c.node_of.ensures refl (λ b. refl) (sym c.is_parallel-parallel.ensures ∙ c.if-parallel.true) refl refl refl refl

-- a round in the thread
pub returns : goal.returns
returns c w fine known source n m =
    let r = (goal.at.returns c).After-round in
    let s = start r in
    let e = answered c.in_ok-opened.was c.in-Some.is in
    let deep : s.args.depth < 8 =
    ltb-true s.args.depth 8
    (sym (ap (λ (b : Bool). cond b (ltb s.args.s.threads 8) (ltb s.args.depth 8)) c.if-parallel.false) ∙ sym c.room_for_round-room.ensures ∙ round_room_lem c.round.ensures e) in
    runs-at (met r w) s.args.source n c.round.result (round-at r w known source n m) fine.stacked w.long _ refl c.in-Some.opened e c.is_run.ensures c.node_of.ensures refl (λ b. refl) (sym c.is_parallel-parallel.ensures ∙ c.if-parallel.false) deep refl refl refl
