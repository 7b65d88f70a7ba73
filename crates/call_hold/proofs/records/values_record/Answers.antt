-- `call_hold::records::values_record` meets its contract: the start, the tuple, and zeros elsewhere. Assumes nothing.
use mathlib.Core.Path.{◌∙◌}
use Rattle.call_hold.proofs.RecordLaws.{values-parts}
use Rattle.call_hold.proofs.records.values_record.Goals as goal

pub returns : goal.returns
returns c = values-parts c.args.columns c.args.row c.args.kind c.args.number _ _ c.started-out.ensures (c.copy_from_slice.ensures.after ∙ c.tuple_bytes.ensures)
