use Rattle.std.proofs.Common.{◌≡◌, drop}
use Rattle.values.specs.Operands.{formals}
use Rattle.values.proofs.PairLaws.{tails}
use Rattle.nets.specs.Sound.{differ}
use Rattle.net_parts.proofs.DistinctLaws.{operand_new}
use Rattle.net_parts.proofs.operands.formals_differ.Given as goal

abbrev pub invariant-loop-i : goal.invariant-loop-i
invariant-loop-i l = tails operand_new (drop l.i l.ops) ≡ differ (formals l.ops)
