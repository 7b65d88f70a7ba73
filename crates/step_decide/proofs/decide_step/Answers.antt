-- `step_decide::decide_step` meets its contract: the answer is the step's, and a done one changes what the step changes. Assumes nothing.
use Rattle.std.specs.Prelude.{is_some, Err, Ok}
use borrow.Author.Rules.{rules}
use mathlib.Core.Path.{◌≡◌, ap, sym, subst, ◌∙◌}
use lib.Dec.{T}
use Rattle.nets.specs.declared.Done.{Done}
use Rattle.nets.specs.Answers.{Said, is_doing, step_said, said_of}
use Rattle.step_effect.specs.EffectContracts.{parts_of, Doing, StepReady}
use Rattle.step_meets.specs.Situations.{Situation, situation, Rest, whole, saved_after}
use Rattle.step_meets.proofs.SituationLaws.{source-met, known_12, step-ready}
use Rattle.step_meets.proofs.DecideLaws.{never_done, refused-at, done-at, done-parts, act_answers, act_change}
use Rattle.step_meets.proofs.MovedLaws.{goes_on_lem, saved-below, onward_framed}
use Rattle.step_decide.proofs.decide_step.Goals as goal
use Rattle.step_decide.proofs.decide_step.Goals.{In_ok-done, Start}

abbrev met : Start → Rest → Situation
met s w = let a = s.args in situation (whole a.vars a.depth w) w.saved a.frame a.node a.content a.s

-- what the step's own functions ask for
ready : (s : Start) → StepReady s.args.node s.args.content s.args.source s.args.vars
ready s = let f = s.requires.2.facts in step-ready (met s s.requires.2.rest) s.args.source f.2 f.0 f.1

-- where it is done
does : (c : In_ok-done) → Doing c.args.node c.args.content c.args.source c.args.vars
does c =
    let a = c.args in
    done-parts a.node a.content a.source a.vars a.s.held a.s.tables
    (subst (λ (x : Said). T (is_doing x)) (sym (ap said_of c.in_ok-done.was) ∙ c.says.ensures) tt)

pub says-requires : goal.says-requires
says-requires c =
    (ready c, c.requires.0, c.requires.1)

pub vars_after-after-requires : goal.vars_after-after-requires
vars_after-after-requires c =
    let s = c.before.before.before in
    (ready s, c.requires.0, c.requires.1, does c)

pub returns-in_err-done : goal.returns-in_err-done
returns-in_err-done c =
    let s = c.before.before.before.before in
    let e : c.from_residual.result ≡ Err c.in_err-done.field-0.0 = search rules in (
      λ w fine known source n m thirteen fourteen fifteen.
          refused-at n (met s w) c.args.source c.from_residual.result c.in_err-done.field-0.0 e
          (sym (ap said_of c.in_err-done.was)
          ∙ act_answers (met s w) n m c.requires.0 c.args.source (source-met (met s w) c.args.source source n m) (known_12 (met s w) n m known) thirteen fourteen fifteen c.says.result c.says.ensures),
      λ h. absurd (never_done c.from_residual.result c.in_err-done.field-0.0 e h),
    )

pub returns : goal.returns
returns c =
    let s = c.before.before.before.before.before in
    let o = c.onward in
    let said : said_of (Ok o.result.done) ≡ step_said (parts_of c.args.node c.args.content c.args.source c.args.vars) c.args.s.held c.args.s.tables =
    ap (λ (d : Done). said_of (Ok d)) o.ensures.0 ∙ sym (ap said_of c.in_ok-done.was) ∙ c.says.ensures in (
      λ w fine known source n m thirteen fourteen fifteen.
          let from = source-met (met s w) c.args.source source n m in
          let twelve = known_12 (met s w) n m known in
          done-at n (met s w) c.args.source o.result
          (act_answers (met s w) n m c.requires.0 c.args.source from twelve thirteen fourteen fifteen (Ok o.result.done) said)
          (λ x.
          act_change (met s w) n m c.requires.0 c.args.source from twelve thirteen fourteen fifteen o.result x said
          (ap is_some o.ensures.1) (o.ensures.2 ∙ c.vars_after-after.ensures)
          (goes_on_lem (met s w).thread w.saved (saved_after (met s w) o.result) o.result x.above x.over x.body x.relations fine.stacked w.long (saved-below (met s w) o.result) n.net.nodes c.args.node.next o.ensures.3))
          (onward_framed (met s w) o.result c.args.node.next fine.stacked.some (ap is_some o.ensures.1) o.ensures.3),
      λ h. does c.before.before,
    )
