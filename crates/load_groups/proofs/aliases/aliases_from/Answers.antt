-- `load_groups::aliases::aliases_from` meets its contract: the aliases in use are the first of the array.
use Rattle.std.proofs.Common.{T, arith}
use Rattle.std.specs.List.{list_all}
use Rattle.nets.specs.Sound.{alias_ok, aliases_differ}
use Rattle.nets.specs.View.{no_alias}
use Rattle.values.proofs.Firsts.{take_firsts}
use Rattle.load_walk.specs.Walking.{put_aliases, Gives}
use Rattle.load_groups.proofs.ItemLaws.{matched}
use Rattle.load_groups.proofs.aliases.aliases_from.Goals as goal

pub returns : goal.returns
returns c =
    matched (Gives 56 c.args.file.now 1 c.args.from put_aliases (λ ls. T (list_all alias_ok ls) × T (aliases_differ ls))) _ _ c.walk.result c.walk.ensures
    (λ read k. rw (← take_firsts no_alias read.count read.items (omega (arith, k.long, k.few))) (k.leads, k.going))
