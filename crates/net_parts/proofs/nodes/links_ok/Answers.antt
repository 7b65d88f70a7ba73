-- `net_parts::nodes::links_ok` meets its contract: the links of the node.
use Rattle.nets.specs.Sound.{links_ok_as}
use Rattle.net_parts.proofs.nodes.links_ok.Goals as goal

pub returns : goal.returns
unfolding links_ok_as
returns c = c.links_at.ensures
