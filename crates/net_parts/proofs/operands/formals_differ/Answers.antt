-- Each operand is tested with those after it.
use Rattle.net_parts.proofs.DistinctLaws.{formals-differ}
use Rattle.net_parts.proofs.operands.formals_differ.Goals as goal

pub loop-i-init : goal.loop-i-init
loop-i-init c = formals-differ c.args.ops.now
