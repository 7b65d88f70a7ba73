-- `write::tables::tables_size` meets its contract: 104 bytes for each table and each row.
use Prim.Native.Nat.{ℕ, ◌+◌, ◌*◌}
use mathlib.Core.Path.{◌≡◌, sym}
use mathlib.Core.List.{List, map}
use lib.ListN.{length, length-append}
use native.Mathlib.Omega.{arith}
use Rattle.nets.specs.declared.Table.{Table}
use Rattle.nets.specs.View.{table_of}
use Rattle.value_bytes.specs.Bytes.{end_to_end}
use Rattle.files.specs.Writing.{all_rows, written}
use Rattle.write.proofs.WholeLaws.{tables-all, written_is, heads-length}
use Rattle.write.proofs.tables.tables_size.Goals as goal

size : (ts : List Table) (r : ℕ) → length (end_to_end (all_rows (map table_of ts))) ≡ r * 104 → length ts * 104 + r * 104 ≡ length (written (map table_of ts))
size ts r rows = rw (sym (tables-all ts)) (rw (written_is (length ts) ts, length-append, heads-length (length ts) ts, tables-all ts, rows))

pub returns : goal.returns
returns c = (search size, omega arith)
