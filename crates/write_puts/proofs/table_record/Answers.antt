-- `write_puts::table_record` meets its contract: two parts, and zeros elsewhere.
use mathlib.Core.Path.{◌∙◌}
use Rattle.nets.specs.View.{table_of}
use Rattle.write_fields.proofs.WriteLaws.{columns_taken, table-parts}
use Rattle.write_puts.proofs.table_record.Goals as goal

pub returns : goal.returns
returns c =
    let r = c.args.t.now.content in
    let k = columns_taken r.kinds r.columns c.min.result c.min.ensures in
    table-parts (table_of c.args.t.now) _ _ (c.copy_from_slice.ensures.after ∙ c.start_bytes.ensures) (c.copy_from_slice-2.ensures.after ∙ c.column_bytes.ensures ∙ k)
