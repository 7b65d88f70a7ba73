-- `write::tables::put_tables` meets its contract: the records of the tables passed, then the bytes that stood there.
use Prim.Native.Nat.{ℕ, ◌+◌, ◌-◌, ◌*◌, ◌≤◌}
use mathlib.Core.Path.{◌≡◌, sym, ap, ◌∙◌}
use mathlib.Core.List.{List, ◌++◌, map}
use lib.ListN.{length, get_or, drop}
use native.Mathlib.Omega.{arith}
use borrow.Rule.Slice.PartMut.{put_mid}
use Rattle.values.specs.Lists.{firsts}
use Rattle.values.proofs.Firsts.{map-firsts}
use Rattle.nets.specs.declared.Table.{Table}
use Rattle.nets.specs.View.{no_table, table_of}
use Rattle.record_bytes.specs.Encoding.{table_bytes}
use Rattle.value_bytes.specs.Bytes.{end_to_end}
use Rattle.value_bytes.proofs.Stores.{kept-length, ends_more, ends-all}
use Rattle.write_fields.proofs.WriteLaws.{table-length}
use Rattle.write.proofs.WholeLaws.{tables-all}
use Rattle.write.proofs.tables.put_tables.Invariants.{record_of}
use Rattle.write.proofs.tables.put_tables.Goals as goal

one_more : (ts : List Table) (i : ℕ) (o out ys : List ℕ) → out ≡ end_to_end (firsts record_of no_table i ts) ++ drop (i * 104) o → ys ≡ record_of (get_or ts i no_table) →
    put_mid (i * 104) (i * 104 + 104 - i * 104) out ys ≡ end_to_end (firsts record_of no_table (i + 1) ts) ++ drop ((i + 1) * 104) o
one_more ts i o out ys e q = ends_more record_of no_table 104 (λ t. table-length (table_of t)) ts i o out ys e q

ended : (ts : List Table) (i : ℕ) (o out : List ℕ) → i ≤ length ts → length ts ≤ i → length o ≡ length ts * 104 → out ≡ end_to_end (firsts record_of no_table i ts) ++ drop (i * 104) o → out ≡ end_to_end (map table_bytes (map table_of ts))
ended ts i o out a b l e =
    ends-all record_of no_table 104 (length ts) i ts o out a b l e
    ∙ ap end_to_end (sym (map-firsts table_bytes table_of no_table (length ts) ts) ∙ ap (map table_bytes) (tables-all ts))

pub loop-i-preserved : goal.loop-i-preserved
loop-i-preserved c = record { within = omega arith; full = search kept-length; filled = one_more c.args.tables.now c.loop-i.i _ _ _ c.loop-i.invariant.filled (c.copy_from_slice.ensures.after ∙ c.table_record.ensures) }

pub returns : goal.returns
returns c = search ended
