-- `write::tables::total_rows` meets its contract: the rows of the tables passed.
use Prim.Native.Nat.{ℕ, ◌+◌, ◌*◌, ◌≤◌}
use mathlib.Core.Path.{◌≡◌, sym}
use mathlib.Core.List.{List, map}
use lib.ListN.{length, get_or}
use native.Mathlib.Omega.{arith}
use Rattle.rows.specs.View.{Shaped}
use Rattle.nets.specs.declared.Table.{Table}
use Rattle.nets.specs.View.{no_table, table_of}
use Rattle.value_bytes.specs.Bytes.{end_to_end}
use Rattle.files.specs.Writing.{all_rows}
use Rattle.write.proofs.WholeLaws.{bodies, tables-all, shaped-in, length-next}
use Rattle.write.proofs.tables.total_rows.Goals as goal

one_more : (ts : List Table) (i total : ℕ) → Shaped (get_or ts i no_table).content → length (bodies i ts) ≡ total * 104 → length (bodies (i + 1) ts) ≡ (total + (get_or ts i no_table).content.count) * 104
one_more ts i total k e = rw (length-next i ts k, e) (omega arith)

ended : (ts : List Table) (i total : ℕ) → i ≤ length ts → length ts ≤ i → length (bodies i ts) ≡ total * 104 → length (end_to_end (all_rows (map table_of ts))) ≡ total * 104
ended ts i total a b e =
    let q : length ts ≡ i = omega arith in
    rw (sym (tables-all ts), q) e

pub overflow_add-total : goal.overflow_add-total
overflow_add-total c =
    let k = shaped-in c.args.tables.now c.loop-t.t-index (omega arith) c.requires.1 in
    omega (arith, k)

pub loop-t-preserved : goal.loop-t-preserved
loop-t-preserved c =
    let k = shaped-in c.args.tables.now c.loop-t.t-index (omega arith) c.requires.1 in
    let l = c.loop-t in
    record { within = omega arith; passed = one_more c.args.tables.now l.t-index l.total k l.invariant.passed; few = omega (arith, k) }

pub returns : goal.returns
returns c = (search ended, omega arith)
