-- `write_puts::row_record` meets its contract: two parts, and zeros elsewhere.
use mathlib.Core.Path.{◌∙◌}
use Rattle.write_fields.proofs.WriteLaws.{row-parts}
use Rattle.write_puts.proofs.row_record.Goals as goal

pub returns : goal.returns
returns c = row-parts c.args.columns c.args.row c.requires c.args.site c.args.name _ _ (c.copy_from_slice.ensures.after ∙ c.start_bytes.ensures) (c.copy_from_slice-2.ensures.after ∙ c.tuple_bytes.ensures)
