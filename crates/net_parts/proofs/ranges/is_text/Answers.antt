-- `net_parts::ranges::is_text` meets its contract: the high bits say of each byte that it is in range.
use borrow.Author.Rules.{rules}
use Rattle.net_parts.proofs.TextLaws.{text_tested}
use Rattle.net_parts.proofs.ranges.is_text.Goals as goal

pub returns : goal.returns
returns c = text_tested c.args.t (search rules)
