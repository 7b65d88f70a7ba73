-- `steps::step` meets its contract: on a sound net one pick carried out, and else none, which is answered by a refusal. Assumes nothing.
use Prim.Native.Nat.{ℕ}
use mathlib.Core.Path.{◌≡◌, sym, ap, subst, ◌∙◌}
use mathlib.Core.Bool.{Bool, false, cond}
use native.Mathlib.Omega.{arith}
use Rattle.values.proofs.Bools.{T_of}
use Rattle.nets.specs.declared.Net.{Net}
use Rattle.nets.specs.Sound.{sound}
use Rattle.nets.specs.Answers.{StepIs}
use Rattle.nets.specs.View.{view}
use Rattle.step_left.proofs.CarriedLaws.{carried_single}
use Rattle.steps.proofs.OneLaws.{long_of, sure_of, picks_of}
use Rattle.steps.proofs.step.Goals as goal

pub slice_bounds-picks-end : goal.slice_bounds-picks-end
slice_bounds-picks-end c = c.count_if-length.ensures.1

pub slice_bounds-carry_out-end : goal.slice_bounds-carry_out-end
slice_bounds-carry_out-end c = long_of c.args.pick c.count_if-length.ensures.1

pub carry_out-g-requires : goal.carry_out-g-requires
carry_out-g-requires c h =
    let none : c.sound_net-sure.result ≡ false → c.count_if-length.result ≡ 0 = λ e. let k = ap {B = ℕ} (λ (b : Bool). cond b 2 0) e in omega (arith, k, c.count_if-length.ensures.0) in
    T_of (sound (view c.args.net)) (sym c.sound_net-sure.ensures ∙ sure_of c.args.pick c.sound_net-sure.result none h)

pub returns : goal.returns
returns c =
    let g = c.carry_out-g in
    let a = c.args in
    let answer = g.result.answer in
    subst (λ (m : Net). StepIs a.net a.pick (record { answer = answer; net = m })) (sym c.left_by-next.ensures)
    (carried_single a.net a.pick _ _ c.sound_net-sure.result c.sound_net-sure.ensures (picks_of a.pick c.sound_net-sure.result c.count_if-length.ensures.0) g.ensures.0)
