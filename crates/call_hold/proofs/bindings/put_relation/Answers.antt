-- `call_hold::bindings::put_relation` meets its contract: its own record, and where it is bound those of its rows. Assumes nothing.
use Rattle.std.proofs.Common.{◌≡◌, ℕ, ◌+◌, ◌-◌, ◌*◌, List, ◌++◌, map, length, drop, replicate, refl, ap, ◌∙◌, Some, arith}
use borrow.Rule.Slice.PartMut.{put_mid}
use Rattle.rows.specs.declared.Relation.{Relation}
use Rattle.rows.specs.View.{columns_of, relation_of}
use Rattle.value_bytes.specs.Bytes.{end_to_end}
use Rattle.value_bytes.proofs.Parts.{two_fill}
use Rattle.value_bytes.proofs.Stores.{part-size}
use Rattle.call_rules.specs.Moments.{start_of, values_record, relation_head, relation_records}
use Rattle.record_bytes.specs.Encoding.{column_bytes}
use Rattle.write_fields.proofs.WriteLaws.{columns_taken}
use Rattle.call_hold.proofs.HoldLaws.{head-length}
use Rattle.call_hold.proofs.bindings.put_relation.Goals as goal

bound-put : (r : Relation) (i : ℕ) (o h ys : List ℕ) → length o ≡ 104 + r.count * 104 → h ≡ relation_head i 1 (columns_of r.columns r.kinds) →
    ys ≡ end_to_end (map (values_record 68 i) (relation_of r).rows) →
    put_mid 104 (104 + r.count * 104 - 104) (h ++ drop 104 o) ys ≡ end_to_end (relation_records i (Some (relation_of r)))
bound-put r i o h ys w hh hy =
    let n = r.count * 104 in
    rw (part-size 104 n) (two_fill o h ys 104 n (ap length hh ∙ head-length i 1 (columns_of r.columns r.kinds)) w ∙ rw (hh, hy) refl)

-- of the kinds four have bytes
same-head : (i b : ℕ) (cs ds : List ℕ) → column_bytes cs ≡ column_bytes ds → relation_head i b cs ≡ relation_head i b ds
unfolding relation_head
same-head i b cs ds e = ap (λ (k : List ℕ). start_of 67 i b ++ (k ++ replicate 92 0)) e

pub returns : goal.returns
returns c =
    let a = c.args in
    let r = c.in-Some.content in
    let l = rw c.in-Some.is at c.requires.1 in
    let k = rw c.in-Some.is at c.requires.0 in
    rw c.in-Some.is (bound-put r a.number a.out.now _ _ l (c.copy_from_slice-2.ensures.after ∙ c.relation_head-2.ensures ∙ same-head a.number 1 _ _ (columns_taken r.kinds r.columns r.columns (omega (arith, k.shaped.columns)))) c.put_rows.ensures)
