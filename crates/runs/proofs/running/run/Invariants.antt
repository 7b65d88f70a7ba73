use Rattle.runs.proofs.FurtherLaws.{SoFar}
use Rattle.runs.proofs.running.run.Given as goal

-- the picks behind led from the first state to this one
abbrev pub invariant-loop-pick : goal.invariant-loop-pick
invariant-loop-pick l = SoFar l.fn.net l.picks l.pick-index l.s
