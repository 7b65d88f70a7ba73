-- There is room for each digit put, and with the last one all of the number stands there.
use Rattle.std.proofs.Common.{arith}
use Rattle.value_decimal.proofs.PutLaws.{one_left, one_more, all-put, place_is}
use Rattle.value_decimal.proofs.put_digits.Goals as goal

pub overflow_sub-at : goal.overflow_sub-at
overflow_sub-at c = one_left c.loop-rest.invariant

pub bounds-out-at : goal.bounds-out-at
bounds-out-at c = omega (arith, one_left c.loop-rest.invariant)

pub loop-rest-preserved : goal.loop-rest-preserved
loop-rest-preserved c = one_more c.loop-rest.invariant (omega arith)

pub overflow_sub-at-2 : goal.overflow_sub-at-2
overflow_sub-at-2 c = one_left c.loop-rest.invariant

pub bounds-out-at-2 : goal.bounds-out-at-2
bounds-out-at-2 c = omega (arith, one_left c.loop-rest.invariant)

pub returns : goal.returns
returns c = (all-put c.loop-rest.invariant (omega arith), place_is c.loop-rest.invariant (omega arith))
