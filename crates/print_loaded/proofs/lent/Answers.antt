-- `print_loaded::lent` meets its contract: two bytes for each pick of the array.
use Rattle.std.proofs.Common.{◌∙◌, ap, take}
use Rattle.step_bytes.proofs.PickLaws.{picks-take}
use Rattle.print_loaded.proofs.lent.Goals as goal

pub returns-clause-picks : goal.returns-clause-picks
returns-clause-picks c = picks-take c.pick_bytes.result c.args.count ∙ ap (take c.args.count) c.pick_bytes.ensures
