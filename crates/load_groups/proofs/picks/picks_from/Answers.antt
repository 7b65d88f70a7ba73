-- `load_groups::picks::picks_from` meets its contract: the picks in use are the first of the array.
use Rattle.std.proofs.Common.{arith}
use Rattle.nets.specs.View.{no_pick}
use Rattle.values.proofs.Firsts.{take_firsts}
use Rattle.load_walk.specs.Walking.{put_picks, Gives}
use Rattle.load_groups.proofs.ItemLaws.{matched}
use Rattle.load_groups.proofs.picks.picks_from.Goals as goal

pub returns : goal.returns
returns c =
    matched (Gives 256 c.args.file.now 6 c.args.from put_picks (λ ps. Unit {0})) _ _ c.walk.result c.walk.ensures
    (λ read k. rw (← take_firsts no_pick read.count read.items (omega (arith, k.long, k.few))) (k.leads, k.going))
