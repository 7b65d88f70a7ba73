-- `step_decide::decide` meets its contract: checks 12 to 15 in their order, then the loop's round or the step. Assumes nothing.
use mathlib.Core.Path.{◌≡◌, refl, ap, sym, ◌∙◌}
use mathlib.Core.Bool.{Bool, true, not, ◌&&◌}
use mathlib.Core.List.{List}
use Rattle.values.proofs.Bools.{T_of}
use Rattle.nets.specs.declared.Refusal.TheVariants.{Unbound, NoSite, NoTable, TableThere}
use Rattle.nets.specs.Nets.{is_create, is_loop}
use Rattle.nets.specs.Scenes.{Scene}
use Rattle.nets.specs.Steps.{check12, check13, check14, check15}
use Rattle.nets.specs.View.{kind_at}
use Rattle.nets.proofs.KindLaws.{kind-is}
use Rattle.step_meets.specs.Situations.{Situation, situation, Rest, whole}
use Rattle.step_meets.specs.MeetContracts.{Meets, Known, Flagged}
use Rattle.step_meets.proofs.SituationLaws.{fine-template, fine-tuple, fine-step, flagged-known, flagged_12, known_12}
use Rattle.step_meets.proofs.DecideLaws.{refused-is, refuses_12, refuses_13, refuses_14, refuses_15, tested_13, tested_14, tested_15, loop-no-step}
use Rattle.step_decide.proofs.decide.Goals as goal
use Rattle.step_decide.proofs.decide.Goals.{After-is_loop, After-reads_ok, Else-has_locality-is_none, Else-is_create-found, Else-needs_table-found, Else-not-reads_ok, Start}

abbrev meant : Start → Rest → Situation
meant s w = let a = s.args in situation (whole a.vars a.depth w) w.saved a.frame a.node a.content a.s

abbrev start : After-reads_ok → Start
start r = r.before

-- ── the checks that passed, where the code goes on ──

abbrev met : Else-not-reads_ok → Rest → Situation
met c w = meant (start c.before) w

abbrev flags_of : Else-not-reads_ok → List Bool
flags_of c = (start c.before).args.bound

known : (c : Else-not-reads_ok) (w : Rest) → Flagged w (flags_of c) → Known (met c w)
known c w flagged =
    flagged-known (met c w) (flags_of c) flagged.bound c.reads_ok.ensures (c.if-not-reads_ok.false)

twelve : (c : Else-not-reads_ok) (w : Rest) → Flagged w (flags_of c) → (n : Scene) → Meets (met c w) n → check12 n ≡ true
twelve c w flagged n m = known_12 (met c w) n m (known c w flagged)

thirteen : (c : Else-has_locality-is_none) (w : Rest) (n : Scene) → Meets (met c.before.before.before.before w) n → check13 n ≡ true
thirteen c w n m = tested_13 (met c.before.before.before.before w) n m c.is_none.result c.has_locality.ensures c.is_none.ensures ∙ ap not c.if-has_locality-is_none.false

fourteen : (c : Else-needs_table-found) (w : Rest) (n : Scene) → Meets (met c.before.before.before.before.before.before w) n → check14 n ≡ true
fourteen c w n m = tested_14 (met c.before.before.before.before.before.before w) n m c.needs_table.ensures ∙ ap not c.if-needs_table-found.false

-- check 15, by the code's test
create-there : (s : Situation) (n : Scene) → Meets s n → {p : Bool} → p ≡ is_create (kind_at s.node.kind) → check15 n ≡ not (p && s.found)
create-there s n m e = tested_15 s n m ∙ ap (λ (b : Bool). not (b && s.found)) (kind-is s.node.kind 23 tt ∙ sym e)

fifteen : (c : Else-is_create-found) (w : Rest) (n : Scene) → Meets (met c.before.before.before.before.before.before.before.before w) n → check15 n ≡ true
fifteen c w n m = create-there (met c.before.before.before.before.before.before.before.before w) n m c.is_create.ensures ∙ ap not c.if-is_create-found.false

abbrev passed : After-is_loop → Else-not-reads_ok
passed c = c.before.before.before.before.before.before.before.before.before

-- ── the answers ──

pub reads_ok-requires : goal.reads_ok-requires
reads_ok-requires c =
    let w = c.requires.1.rest in
    let f = c.requires.1.facts.0 in
    (fine-template (meant c w) f, fine-tuple (meant c w) f)

pub returns-then-not-reads_ok : goal.returns-then-not-reads_ok
returns-then-not-reads_ok c w fine flagged source =
    let s = start (goal.at.returns-then-not-reads_ok c).After-reads_ok in
    refused-is (meant s w) s.args.source _ Unbound refl
    (λ n m. refuses_12 n (sym (flagged_12 (meant s w) s.args.bound flagged.bound c.reads_ok.ensures n m) ∙ c.if-not-reads_ok.true))

pub returns-then-has_locality-is_none : goal.returns-then-has_locality-is_none
returns-then-has_locality-is_none c w fine flagged source =
    let p = (goal.at.returns-then-has_locality-is_none c).Else-not-reads_ok in
    refused-is (met p w) (start p.before).args.source _ NoSite refl
    (λ n m. refuses_13 n (twelve p w flagged n m) (tested_13 (met p w) n m c.is_none.result c.has_locality.ensures c.is_none.ensures ∙ ap not c.if-has_locality-is_none.true))

pub returns-then-needs_table-found : goal.returns-then-needs_table-found
returns-then-needs_table-found c w fine flagged source =
    let q = (goal.at.returns-then-needs_table-found c).Else-has_locality-is_none in
    let p = (goal.at.returns-then-needs_table-found c).Else-not-reads_ok in
    refused-is (met p w) (start p.before).args.source _ NoTable refl
    (λ n m. refuses_14 n (twelve p w flagged n m) (thirteen q w n m) (tested_14 (met p w) n m c.needs_table.ensures ∙ ap not c.if-needs_table-found.true))

pub returns-then-is_create-found : goal.returns-then-is_create-found
returns-then-is_create-found c w fine flagged source =
    let r = (goal.at.returns-then-is_create-found c).Else-needs_table-found in
    let q = (goal.at.returns-then-is_create-found c).Else-has_locality-is_none in
    let p = (goal.at.returns-then-is_create-found c).Else-not-reads_ok in
    refused-is (met p w) (start p.before).args.source _ TableThere refl
    (λ n m. refuses_15 n (twelve p w flagged n m) (thirteen q w n m) (fourteen r w n m) (create-there (met p w) n m c.is_create.ensures ∙ ap not c.if-is_create-found.true))

pub decide_loop-requires : goal.decide_loop-requires
decide_loop-requires c =
    let p = passed c.before in
    let s = start p.before in
    let f = s.requires.1.facts in
    let k = known p s.requires.1.rest f.1 in
    (T_of (is_loop (kind_at s.args.node.kind)) (sym c.is_loop.ensures ∙ c.if-is_loop.true), record { rest = s.requires.1.rest; facts = (f.0, k, f.2.source k) })

pub returns-then-is_loop : goal.returns-then-is_loop
returns-then-is_loop c w fine flagged source =
    let p = passed c.before.before in
    record {
      at = c.decide_loop.ensures w fine (known p w flagged) (source.source (known p w flagged));
      known = λ h. known p w flagged;
      does = λ h x. absurd (loop-no-step (kind_at (met p w).node.kind) (T_of (is_loop (kind_at (met p w).node.kind)) (sym c.is_loop.ensures ∙ c.if-is_loop.true)) x);
    }

pub decide_step-requires : goal.decide_step-requires
decide_step-requires c =
    let p = passed c.before in
    let s = start p.before in
    let f = s.requires.1.facts in
    let w = s.requires.1.rest in
    let k = known p w f.1 in
    (fine-step (met p w) f.0 c.is_loop.ensures c.if-is_loop.false, s.requires.0, record { rest = w; facts = (f.0, k, f.2.source k) })

pub returns : goal.returns
returns c w fine flagged source =
    let t = c.before.before.before in
    let u = c.before.before.before.before.before in
    let q = c.before.before.before.before.before.before.before in
    let p = c.before.before.before.before.before.before.before.before.before.before.before in
    record {
      at = λ n m. c.decide_step.ensures.0 w fine (known p w flagged) (source.source (known p w flagged)) n m (thirteen q w n m) (fourteen u w n m) (fifteen t w n m);
      known = λ h. known p w flagged;
      does = λ h x. c.decide_step.ensures.1 h;
    }
