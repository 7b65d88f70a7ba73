-- `call_hold::records::entry_record` meets its contract: the start, the rows still to visit, and zeros elsewhere. Assumes nothing.
use mathlib.Core.Path.{◌∙◌}
use Rattle.call_hold.proofs.RecordLaws.{entry-parts}
use Rattle.call_hold.proofs.records.entry_record.Goals as goal

pub returns : goal.returns
returns c = entry-parts c.args.f _ _ _ _ c.entry_kind.ensures c.node_of.ensures c.started-out.ensures (c.copy_from_slice.ensures.after ∙ c.visit_bytes.ensures)
