-- The tests are those of the definition.
use Rattle.std.proofs.Common.{arith}
use Rattle.rows.specs.Plans.{origin_of}
use Rattle.row_terms.proofs.variable_origin.Goals as goal

pub returns-then-i-ge16 : goal.returns-then-i-ge16
unfolding origin_of
returns-then-i-ge16 c = grind arith

pub returns-in-Some : goal.returns-in-Some
unfolding origin_of
returns-in-Some c = grind arith

pub returns-in_default : goal.returns-in_default
unfolding origin_of
returns-in_default c = grind arith
