-- `write_puts::put_rows` meets its contract: the records of the rows passed, then the bytes that stood there.
use Prim.Native.Nat.{ℕ, ◌+◌, ◌-◌, ◌*◌, ◌≤◌}
use mathlib.Core.Path.{◌≡◌, sym, ap, ◌∙◌}
use mathlib.Core.List.{List, ◌++◌, map}
use lib.ListN.{length, get_or, drop}
use native.Mathlib.Omega.{arith}
use borrow.Rule.Slice.PartMut.{put_mid}
use Rattle.values.specs.declared.Site.{Site}
use Rattle.values.specs.Lists.{firsts}
use Rattle.values.proofs.Firsts.{map-firsts}
use Rattle.rows.specs.declared.Relation.{Relation}
use Rattle.rows.specs.View.{no_row, values_of, relation_of}
use Rattle.record_bytes.specs.Encoding.{row_bytes}
use Rattle.value_bytes.specs.Bytes.{end_to_end}
use Rattle.value_bytes.proofs.Stores.{kept-length, ends_more, ends-all}
use Rattle.write_fields.proofs.WriteLaws.{row-length}
use Rattle.write_puts.proofs.put_rows.Invariants.{record_of}
use Rattle.write_puts.proofs.put_rows.Goals as goal

one_more : (s : Site) (m : ℕ) (r : Relation) (i : ℕ) (o out ys : List ℕ) → r.columns ≤ 4 → out ≡ end_to_end (firsts (record_of s m r) no_row i r.rows) ++ drop (i * 104) o → ys ≡ row_bytes s m (values_of r.columns (get_or r.rows i no_row)) →
    put_mid (i * 104) (i * 104 + 104 - i * 104) out ys ≡ end_to_end (firsts (record_of s m r) no_row (i + 1) r.rows) ++ drop ((i + 1) * 104) o
one_more s m r i o out ys h e q = ends_more (record_of s m r) no_row 104 (λ x. row-length r.columns x h s m) r.rows i o out ys e q

ended : (s : Site) (m : ℕ) (r : Relation) (i : ℕ) (o out : List ℕ) → i ≤ r.count → r.count ≤ i → length o ≡ r.count * 104 → out ≡ end_to_end (firsts (record_of s m r) no_row i r.rows) ++ drop (i * 104) o →
    out ≡ end_to_end (map (row_bytes s m) (relation_of r).rows)
ended s m r i o out a b l e =
    ends-all (record_of s m r) no_row 104 r.count i r.rows o out a b l e
    ∙ ap end_to_end (sym (map-firsts (row_bytes s m) (values_of r.columns) no_row r.count r.rows))

pub loop-i-preserved : goal.loop-i-preserved
loop-i-preserved c = record { within = omega arith; full = search kept-length; filled = one_more c.args.site c.args.name c.args.content c.loop-i.i _ _ _ c.requires.1 c.loop-i.invariant.filled (c.copy_from_slice.ensures.after ∙ c.row_record-record.ensures) }

pub returns : goal.returns
returns c = search ended
