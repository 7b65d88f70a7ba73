-- `steps::step_sound` meets its contract: one pick carried out. Assumes nothing.
use mathlib.Core.Path.{refl, sym, subst}
use lib.Dec.{T}
use Rattle.nets.specs.declared.Net.{Net}
use Rattle.nets.specs.Sound.{sound}
use Rattle.nets.specs.Answers.{StepIs}
use Rattle.nets.specs.View.{view}
use Rattle.step_left.proofs.CarriedLaws.{carried_step}
use Rattle.steps.proofs.step_sound.Goals as goal

pub returns : goal.returns
returns c =
    let g = c.carry_out-g in
    let a = c.args in
    let answer = g.result.answer in
    subst (λ (n : Net). StepIs a.net a.pick (record { answer = answer; net = n }) × T (sound (view n))) (sym c.left_by-next.ensures)
    (carried_step a.net a.pick _ _ refl g.ensures.0, g.ensures.0.sound c.requires)
