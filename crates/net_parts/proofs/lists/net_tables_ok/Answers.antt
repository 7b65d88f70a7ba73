-- Of at most 8 tables it says what `tables_ok` says.
use Rattle.std.proofs.Common.{◌∙◌, rules}
use Rattle.net_parts.proofs.Counts.{number_within}
use Rattle.net_parts.proofs.lists.net_tables_ok.Goals as goal

pub returns : goal.returns
returns c = c.tables_ok.ensures ∙ number_within (search rules) _
