-- The first fields, as a part of their array.
use Rattle.std.proofs.Common.{rules}
use Rattle.values.proofs.Firsts.{take_firsts}
use Rattle.rows.proofs.Operands.used.Goals as goal

pub returns : goal.returns
returns c = take_firsts _ _ _ (search rules)
