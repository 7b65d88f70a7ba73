-- Of at most 128 nodes it says what `nodes_ok` says.
use Rattle.std.proofs.Common.{◌∙◌, rules}
use Rattle.net_parts.proofs.Counts.{number_within}
use Rattle.net_parts.proofs.nodes.net_nodes_ok.Goals as goal

pub returns : goal.returns
returns c = c.nodes_ok.ensures ∙ number_within (search rules) _
