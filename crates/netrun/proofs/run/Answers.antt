-- `netrun::run` meets its contract: there is room for all answers. Assumes nothing.
use Rattle.std.proofs.Common.{arith, length, refl}
use Rattle.nets.specs.View.{view}
use Rattle.step_bytes.specs.PickBytes.{picks_in}
use Rattle.step_bytes.proofs.PickLaws.{picks-length}
use Rattle.step_bytes.proofs.AnswerLaws.{put-begins}
use Rattle.netrun.proofs.run.Goals as goal

pub returns : goal.returns
returns c =
    let a = c.args in
    let g = c.carry_out.ensures in
    let few = picks-length a.picks.now in
    (g.0.left, put-begins (view a.start) _ (length (picks_in a.picks.now)) _ _ refl (omega (arith, few)) g.1)
