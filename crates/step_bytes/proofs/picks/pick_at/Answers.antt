-- `step_bytes::picks::pick_at` meets its contract: a pick is two bytes. Assumes nothing.
use Rattle.step_bytes.proofs.PickLaws.{picks_at_lem}
use Rattle.step_bytes.proofs.picks.pick_at.Goals as goal

pub returns : goal.returns
returns c = picks_at_lem c.args.picks.now c.args.i c.requires
