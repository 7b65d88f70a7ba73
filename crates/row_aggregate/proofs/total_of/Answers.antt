-- The sum so far, within 64 bits.
use Rattle.std.proofs.Common.{arith, ◌∙◌, ap, pos, fold}
use Rattle.std.proofs.lemmas.Int.{ints, to_z-of_z}
use Rattle.std.proofs.lemmas.List.{take_all}
use Rattle.std.proofs.lemmas.List.Sums.{fold_more}
use Rattle.row_aggregate.proofs.Columns.{sum_is}
use Rattle.row_aggregate.proofs.total_of.Goals as goal

pub loop-row-preserved : goal.loop-row-preserved
loop-row-preserved c = (grind (arith, ints, to_z-of_z, fold_more), omega (arith, ints), omega (arith, ints))

pub returns : goal.returns
returns c = λ w low. c.loop-row.invariant.0 ∙ ap (fold _ (pos 0)) (take_all c.loop-row.row-index c.args.rows.now c.loop-row-test.false) ∙ sum_is c.args.at w low c.args.rows.now
