-- `call_each::picks::put_picks` meets its contract: the picks passed, then the bytes that stood there. Assumes nothing.
use native.Mathlib.Omega.{arith}
use Rattle.value_bytes.proofs.Stores.{kept-length}
use Rattle.call_each.proofs.OwnPicks.{pick_more, picks-all}
use Rattle.call_each.proofs.picks.put_picks.Goals as goal

pub loop-i-preserved : goal.loop-i-preserved
loop-i-preserved c = record { within = omega arith; full = search kept-length; filled = pick_more c.args.picks.now c.loop-i.i _ _ _ c.loop-i.invariant.filled c.copy_from_slice.ensures.after }

pub returns : goal.returns
returns c = search picks-all
