-- `record_nodes::tuples::row_read` meets its contract: each test is one of the definition.
use borrow.Author.Rules.{rules}
use Rattle.record_bytes.specs.Decoding.{row_form}
use Rattle.record_nodes.proofs.ReadLaws.{if_given}
use Rattle.record_nodes.proofs.tuples.row_read.Goals as goal

pub returns : goal.returns
unfolding row_form
returns c = if_given _ _ _ _ _ c.then_some.ensures (search rules) (cc, search rules)
