-- `call_hold::records::relation_head` meets its contract: the start, the columns, and zeros elsewhere. Assumes nothing.
use mathlib.Core.Path.{◌∙◌}
use Rattle.call_hold.proofs.RecordLaws.{relation-parts}
use Rattle.call_hold.proofs.records.relation_head.Goals as goal

pub returns : goal.returns
returns c = relation-parts c.args.number c.args.bound c.args.kinds.now _ _ c.started-out.ensures (c.copy_from_slice.ensures.after ∙ c.column_bytes.ensures)
