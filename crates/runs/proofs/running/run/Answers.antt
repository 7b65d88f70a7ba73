-- Pick by pick: what each led to, after what the picks behind led to.
use Rattle.runs.proofs.FurtherLaws.{so_far-start, so_far-next, so_far-all}
use Rattle.runs.proofs.running.run.Goals as goal

pub loop-pick-init : goal.loop-pick-init
loop-pick-init c = so_far-start _ _ _ c.begin-s.ensures

pub loop-pick-preserved : goal.loop-pick-preserved
loop-pick-preserved c = so_far-next _ _ _ _ _ (record { thread = 0; row = 0 }) c.loop-pick-test.true c.loop-pick.invariant c.run_pick-s.ensures

pub returns : goal.returns
returns c = so_far-all _ _ _ _ c.loop-pick-test.false c.loop-pick.invariant
