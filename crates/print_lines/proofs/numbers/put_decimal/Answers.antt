-- A number of 64 bits has room.
use Rattle.std.proofs.Common.{arith}
use Rattle.value_decimal.proofs.DecimalLaws.{few-wide}
use Rattle.print_lines.proofs.numbers.put_decimal.Goals as goal

pub put_number-start-requires : goal.put_number-start-requires
put_number-start-requires g c = omega (arith, few-wide _ c.ranges.n)
