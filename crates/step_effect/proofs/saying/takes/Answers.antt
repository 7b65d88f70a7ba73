-- `step_effect::saying::takes` meets its contract: a want is met by what the operand matches. Assumes nothing.
use mathlib.Core.Bool.{◌&&◌}
use mathlib.Core.Path.{ap, sym, ◌∙◌}
use Rattle.values.specs.Operands.{Got}
use Rattle.values.specs.Operands.{is_got}
use Rattle.rows.specs.declared.Want.{Want}
use Rattle.rows.specs.Plans.{meets}
use Rattle.rows.specs.Matching.{matches1}
use Rattle.rows.proofs.PlanLaws.{want_meets}
use Rattle.step_effect.proofs.saying.takes.Goals as goal

pub returns-in-Some : goal.returns-in-Some
returns-in-Some c =
    let a = c.args in
    let e = a.vars in
    c.met.ensures ∙ ap (λ (w : Want). meets w c.in-Some.v) c.want_of.ensures ∙ want_meets e a.op c.in-Some.v
    ∙ sym (ap (λ (g : Got). is_got g && matches1 e a.op g) c.in-Some.is)
