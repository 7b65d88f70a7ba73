-- `runs::running::run_pick` meets its contract: by the flag a step with its counts, or nothing. Assumes nothing.
use mathlib.Core.Path.{sym, ◌∙◌}
use Rattle.values.proofs.Bools.{T_of}
use Rattle.nets.specs.Sound.{sound}
use Rattle.nets.specs.View.{view}
use Rattle.runs.proofs.FurtherLaws.{further_unsound, further-sound}
use Rattle.runs.proofs.running.run_pick.Goals as goal

pub step_sound-requires : goal.step_sound-requires
step_sound-requires c =
    T_of (sound (view c.args.s.net)) (sym c.requires.flag ∙ c.if-s.true)

pub returns-then-s : goal.returns-then-s
returns-then-s c =
    let a = c.args in
    let stepped = c.step_sound in
    further-sound a.s c.tally.result a.pick stepped.result c.if-s.true stepped.ensures.0 stepped.ensures.1 c.tally.ensures

pub returns : goal.returns
returns c = further_unsound c.args.s c.args.pick c.requires c.if-s.false
