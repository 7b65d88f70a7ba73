-- A number of 64 bits has room.
use Rattle.std.proofs.Common.{◌≤◌, length, ℤ, arith}
use mir.Syntax.{w64}
use mir.Val.{SFits, of_z, to_z}
use Rattle.values.proofs.Ints.{back, size}
use Rattle.value_decimal.specs.Decimals.{signed}
use Rattle.value_decimal.proofs.DecimalLaws.{few-places}
use Rattle.print_lines.proofs.numbers.put_int.Goals as goal

roomy : (z : ℤ) → SFits w64 z → length (signed (to_z w64 (of_z w64 z))) ≤ 21
roomy z p = rw (back w64 z p) (few-places 19 z (omega (arith, size z, p.sfits)))

pub put_signed-start-requires : goal.put_signed-start-requires
put_signed-start-requires g c = roomy c.args.z c.ranges.z
