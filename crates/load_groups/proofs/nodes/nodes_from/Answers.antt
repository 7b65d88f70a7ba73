-- `load_groups::nodes::nodes_from` meets its contract: the nodes in use are the first of the array.
use Rattle.std.proofs.Common.{map, arith}
use Rattle.nets.specs.View.{no_node, node_of}
use Rattle.values.proofs.Firsts.{firsts_taken}
use Rattle.load_walk.specs.Walking.{put_nodes, Gives}
use Rattle.load_groups.proofs.ItemLaws.{matched}
use Rattle.load_groups.proofs.nodes.nodes_from.Goals as goal

pub returns : goal.returns
returns c =
    matched (Gives 128 c.args.file.now 4 c.args.from (λ ds. put_nodes (map node_of ds)) (λ ds. Unit {0})) _ _ c.walk.result c.walk.ensures
    (λ read k. rw (firsts_taken node_of no_node read.count read.items (omega (arith, k.long, k.few))) (k.leads, k.going))
