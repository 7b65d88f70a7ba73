-- `write::tables::write_tables` meets its contract: too little room, or the table records and then the row records.
use Prim.Native.Nat.{ℕ, ◌+◌, ◌-◌, ◌*◌, ◌≤◌, ◌<◌}
use mathlib.Core.Path.{◌≡◌, sym, ap, ◌∙◌}
use mathlib.Core.List.{List, ◌++◌, map}
use native.Mathlib.Nat.{sub-zero}
use native.Mathlib.Omega.{arith}
use lib.ListN.{length, drop, length-append, length-take, length-drop}
use borrow.Author.Tests.{le-leb, lt-leb}
use borrow.Rule.Slice.PartMut.{put_mid}
use Rattle.nets.specs.declared.Table.{Table}
use Rattle.nets.specs.View.{table_of}
use Rattle.record_bytes.specs.Encoding.{table_bytes}
use Rattle.value_bytes.specs.Bytes.{end_to_end}
use Rattle.value_bytes.proofs.Stores.{part-written}
use Rattle.files.specs.Writing.{all_rows, written, refusing, writing, written_answer, buffer_after}
use Rattle.write.specs.WriteCall.{if_room}
use Rattle.write.proofs.WholeLaws.{bodies, heads, tables-all, written_is, heads-length}
use Rattle.write.proofs.tables.write_tables.Goals as goal

module _ (ts : List Table) (size : ℕ) (o : List ℕ) (l : size ≡ length (written (map table_of ts))) where
  all-written : written (map table_of ts) ≡ heads (length ts) ts ++ bodies (length ts) ts
  all-written = ap written (sym (tables-all ts)) ∙ written_is (length ts) ts

  short-answer : length o < size → refusing 21 ≡ written_answer (if_room (written (map table_of ts)) o)
  unfolding if_room
  short-answer h = rw (sym l, lt-leb size (length o) h)

  short-buffer : length o < size → o ≡ buffer_after o (if_room (written (map table_of ts)) o)
  unfolding if_room
  short-buffer h = rw (sym l, lt-leb size (length o) h)

  done-answer : size ≤ length o → writing size ≡ written_answer (if_room (written (map table_of ts)) o)
  unfolding if_room
  done-answer h = rw (sym l, le-leb size (length o) h, sym l)

  -- the heads leave the rows the rest
  pub rest : size ≡ length ts * 104 + length (bodies (length ts) ts)
  rest = l ∙ rw (all-written, length-append, heads-length (length ts) ts)

  done-buffer : (h t : List ℕ) → size ≤ length o → h ≡ end_to_end (map table_bytes (map table_of ts)) → t ≡ end_to_end (all_rows (map table_of ts)) →
      put_mid (length ts * 104) (size - length ts * 104) (h ++ drop (length ts * 104 - 0) o) t ≡ buffer_after o (if_room (written (map table_of ts)) o)
  unfolding if_room
  done-buffer h t k hh ht =
      let hd : h ≡ heads (length ts) ts = rw (tables-all ts) hh in
      let tl : t ≡ bodies (length ts) ts = rw (tables-all ts) ht in
      let lh : length h ≡ length ts * 104 = ap length hd ∙ heads-length (length ts) ts in
      let e : length ts * 104 + (size - length ts * 104) ≡ size = omega (arith, rest) in
      rw (sym l, le-leb size (length o) k, sym l, sub-zero, part-written h o t (length ts * 104) (size - length ts * 104) lh, e, hd, tl, all-written)

pub returns-then-out-size : goal.returns-then-out-size
returns-then-out-size c = (search short-answer, search short-buffer)

pub slice_bounds-put_tables-end : goal.slice_bounds-put_tables-end
slice_bounds-put_tables-end c = omega (arith, rest c.args.tables.now c.tables_size-size.result c.args.out.now c.tables_size-size.ensures.0)

pub slice_bounds-put_contents-count : goal.slice_bounds-put_contents-count
slice_bounds-put_contents-count c = omega (arith, rest c.args.tables.now c.tables_size-size.result c.args.out.now c.tables_size-size.ensures.0)

pub slice_bounds-put_contents-start : goal.slice_bounds-put_contents-start
slice_bounds-put_contents-start c = omega (arith, rest c.args.tables.now c.tables_size-size.result c.args.out.now c.tables_size-size.ensures.0)

pub put_contents-requires : goal.put_contents-requires
put_contents-requires c =
    let d = rest c.args.tables.now c.tables_size-size.result c.args.out.now c.tables_size-size.ensures.0 in
    (c.requires.0, c.requires.1, simp (length-take, length-drop) (rw (sym (tables-all c.args.tables.now)) (omega (arith, d))))

pub returns : goal.returns
returns c = (search done-answer, search done-buffer)
