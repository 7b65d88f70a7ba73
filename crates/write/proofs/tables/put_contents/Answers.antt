-- `write::tables::put_contents` meets its contract: the row records of the tables passed, then the bytes that stood there.
use Prim.Native.Nat.{ℕ, ◌+◌, ◌-◌, ◌*◌, ◌≤◌}
use mathlib.Core.Path.{◌≡◌, refl, sym}
use mathlib.Core.List.{List, ◌++◌, map, append-nil}
use lib.ListN.{length, get_or, drop, length-take, length-drop, drop_of_length-le}
use native.Mathlib.Omega.{arith}
use borrow.Rule.Slice.PartMut.{put_mid}
use Rattle.rows.specs.View.{Shaped}
use Rattle.nets.specs.declared.Table.{Table}
use Rattle.nets.specs.View.{no_table, table_of}
use Rattle.value_bytes.specs.Bytes.{end_to_end}
use Rattle.files.specs.Writing.{all_rows}
use Rattle.value_bytes.proofs.Stores.{part-size, part-written, kept-length}
use Rattle.write.proofs.WholeLaws.{bodies, body, tables-all, shaped-in, bodies-next, length-next, bodies-room}
use Rattle.write.proofs.tables.put_contents.Goals as goal

longer : (ts : List Table) (i at : ℕ) → Shaped (get_or ts i no_table).content → length (bodies i ts) ≡ at → length (bodies (i + 1) ts) ≡ at + (get_or ts i no_table).content.count * 104
longer ts i at k e = rw (length-next i ts k, e)

one_more : (ts : List Table) (i at : ℕ) (o out ys : List ℕ) → length (bodies i ts) ≡ at → out ≡ bodies i ts ++ drop at o → ys ≡ body (get_or ts i no_table) →
    put_mid at (at + (get_or ts i no_table).content.count * 104 - at) out ys ≡ bodies (i + 1) ts ++ drop (at + (get_or ts i no_table).content.count * 104) o
one_more ts i at o out ys l e q = rw (e, part-size, part-written (bodies i ts) o ys at ((get_or ts i no_table).content.count * 104) l, bodies-next i ts, q)

ended : (ts : List Table) (i at : ℕ) (o out : List ℕ) → i ≤ length ts → length ts ≤ i → length o ≡ length (end_to_end (all_rows (map table_of ts))) → length (bodies i ts) ≡ at → out ≡ bodies i ts ++ drop at o → out ≡ end_to_end (all_rows (map table_of ts))
ended ts i at o out a b lo l e =
    let q : length ts ≡ i = omega arith in
    let w : length o ≤ at = rw (lo, sym (tables-all ts), q, l) (omega arith) in
    rw (e, drop_of_length-le o {i = at} w, append-nil, sym (tables-all ts), q)

started : (ts : List Table) (o : List ℕ) → length o ≡ length (end_to_end (all_rows (map table_of ts))) → length o ≡ length (bodies (length ts) ts)
started ts o h = rw (tables-all ts) h

pub loop-t-init : goal.loop-t-init
loop-t-init c = record { within = omega arith; full = started c.args.tables.now c.args.out.now c.requires.2; few = omega arith; passed = refl; filled = refl }

pub put_rows-requires : goal.put_rows-requires
put_rows-requires c =
    let k = shaped-in c.args.tables.now c.loop-t.t-index (omega arith) c.requires.1 in
    let r = bodies-room c.loop-t.t-index (length c.args.tables.now) c.args.tables.now (omega arith) k in
    (k.count, k.columns, simp (length-take, length-drop) (omega (arith, r)))

pub loop-t-preserved : goal.loop-t-preserved
loop-t-preserved c =
    let k = shaped-in c.args.tables.now c.loop-t.t-index (omega arith) c.requires.1 in
    let l = c.loop-t in
    let ts = c.args.tables.now in
    record {
      within = omega arith;
      full = search kept-length;
      few = omega (arith, k);
      passed = longer ts l.t-index l.at k l.invariant.passed;
      filled = one_more ts l.t-index l.at _ _ _ l.invariant.passed l.invariant.filled c.put_rows.ensures;
    }

pub overflow_mul-end : goal.overflow_mul-end
overflow_mul-end c =
    let k = shaped-in c.args.tables.now c.loop-t.t-index (omega arith) c.requires.1 in
    omega (arith, k)

pub overflow_add-end : goal.overflow_add-end
overflow_add-end c =
    let k = shaped-in c.args.tables.now c.loop-t.t-index (omega arith) c.requires.1 in
    omega (arith, k)

pub slice_bounds-put_rows-end : goal.slice_bounds-put_rows-end
slice_bounds-put_rows-end c =
    let k = shaped-in c.args.tables.now c.loop-t.t-index (omega arith) c.requires.1 in
    let r = bodies-room c.loop-t.t-index (length c.args.tables.now) c.args.tables.now (omega arith) k in
    omega (arith, r)

pub returns : goal.returns
returns c = search ended
