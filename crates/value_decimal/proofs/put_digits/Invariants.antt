-- Digit after digit, from the last one on.
use Rattle.value_decimal.proofs.PutLaws.{Reached}
use Rattle.value_decimal.proofs.put_digits.Given as goal

abbrev pub invariant-loop-rest : goal.invariant-loop-rest
invariant-loop-rest l = Reached l.initial.out l.n l.out l.at l.rest

abbrev pub decreases-loop-rest : goal.decreases-loop-rest
decreases-loop-rest l = l.rest
