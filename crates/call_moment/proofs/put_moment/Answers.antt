-- `call_moment::put_moment` meets its contract: three adjacent parts. Assumes nothing.
use Prim.Native.Nat.{ℕ, ◌+◌, ◌-◌, ◌*◌, ◌/◌}
use mathlib.Core.Path.{◌≡◌, refl, sym, ap, ◌∙◌}
use mathlib.Core.Bool.{true}
use mathlib.Core.List.{List, ◌++◌, map, append-nil}
use native.Mathlib.Omega.{arith}
use lib.Dec.{T, leb}
use lib.ListN.{length, take, drop, length-take, drop_of_length-le}
use borrow.Author.Tests.{le-leb}
use borrow.Rule.Slice.PartMut.{put_mid}
use Rattle.values.proofs.Firsts.{length-firsts}
use Rattle.nets.specs.declared.Net.{Net}
use Rattle.nets.specs.Sound.{sound}
use Rattle.nets.specs.View.{no_table, table_of, view}
use Rattle.value_bytes.specs.Bytes.{end_to_end}
use Rattle.value_bytes.proofs.Stores.{part-size}
use Rattle.files.specs.Writing.{written, buffer_after}
use Rattle.write.specs.WriteCall.{if_room}
use Rattle.call_rules.specs.Moments.{all_threads, moment_head, moment_put}
use Rattle.value_bytes.proofs.Parts.{three_fill, part_left, part-first}
use Rattle.nets.proofs.ShapeLaws.{few-tables}
use Rattle.nets.specs.Nets as M
use Rattle.write.proofs.WholeLaws.{tables-in-use, tables-few, tables-ranged}
use borrow.Author.Rules.{rules}
use Rattle.call_moment.proofs.NetShapes.{threads-count, few-threads}
use Rattle.call_moment.proofs.MomentLaws.{head-length, moment_length, moment_parts}
use Rattle.call_moment.proofs.put_moment.Goals as goal

-- bytes written into a part that they fill
written-whole : (w part y : List ℕ) → length part ≡ length w → y ≡ buffer_after part (if_room w part) → y ≡ w
unfolding if_room
written-whole w part y l e =
    let q : leb (length w) (length part) ≡ true = le-leb (length w) (length part) (omega arith) in
    e ∙ rw (q, drop_of_length-le part {i = length w} (omega arith), append-nil)

module _ (net : Net) (ok : T (sound (view net))) (lt : length net.tables ≡ 8) (o : List ℕ) (l : length o ≡ length (moment_put (view net))) (s n : ℕ) (es : s ≡ length (written (map table_of (take net.tablecount net.tables)))) (en : n ≡ length (moment_put (view net))) where
  abbrev m : ℕ
  m = length (all_threads (view net).nodes (view net).threads) * 104

  -- the three parts fill the buffer
  pub whole : n ≡ 104 + s + m
  whole = omega (arith, moment_length net ok, ap (λ (ts : List M.Table). length (written ts)) (tables-in-use net lt ok))

  pub rest : n - (104 + s) ≡ m
  rest = omega (arith, whole)

  abbrev part : List ℕ → List ℕ
  part x = take (104 + s - 104) (drop 104 (x ++ drop 104 o))

  -- a head with any count
  abbrev head_of : ℕ → List ℕ
  head_of r = moment_head net.tablecount net.threadcount r

  long : (x : List ℕ) (r : ℕ) → x ≡ head_of r → length x ≡ 104
  long x r hx = ap length hx ∙ head-length net.tablecount net.threadcount r

  pub part-long : (x : List ℕ) (r : ℕ) → x ≡ head_of r → length (part x) ≡ s
  part-long x r hx = rw (part-size 104 s) (part-first o x 104 s (long x r hx) (omega (arith, whole)))

  tables_are_lem : (x y : List ℕ) (r : ℕ) → x ≡ head_of r → y ≡ buffer_after (part x) (if_room (written (map table_of (take net.tablecount net.tables))) (part x)) → y ≡ written (map table_of (take net.tablecount net.tables))
  tables_are_lem x y r hx hy = written-whole (written (map table_of (take net.tablecount net.tables))) (part x) y (part-long x r hx ∙ es) hy

  last-part : (x y : List ℕ) (r : ℕ) → x ≡ head_of r → y ≡ buffer_after (part x) (if_room (written (map table_of (take net.tablecount net.tables))) (part x)) →
      length (take (n - (104 + s)) (drop (104 + s) (put_mid 104 (104 + s - 104) (x ++ drop 104 o) y))) ≡ m
  last-part x y r hx hy = rw (part-size 104 s, rest) (part_left o x y 104 s m (long x r hx) (ap length (tables_are_lem x y r hx hy) ∙ sym es) (omega (arith, whole)))

  filled : (x y z : List ℕ) (r : ℕ) → x ≡ head_of r → y ≡ buffer_after (part x) (if_room (written (map table_of (take net.tablecount net.tables))) (part x)) → z ≡ end_to_end (all_threads (view net).nodes (view net).threads) →
      put_mid (104 + s) (n - (104 + s)) (put_mid 104 (104 + s - 104) (x ++ drop 104 o) y) z
      ≡ head_of r ++ (written (map table_of (take net.tablecount net.tables)) ++ end_to_end (all_threads (view net).nodes (view net).threads))
  filled x y z r hx hy hz =
      let ty = tables_are_lem x y r hx hy in
      rw (part-size 104 s, rest) (three_fill o x y z 104 s m (long x r hx) (ap length ty ∙ sym es) (omega (arith, whole)) ∙ rw (hx, ty, hz) refl)

  moment_is : moment_put (view net) ≡ head_of (n / 104) ++ (written (map table_of (take net.tablecount net.tables)) ++ end_to_end (all_threads (view net).nodes (view net).threads))
  moment_is =
      moment_parts net ok
      ∙ rw (length-firsts table_of no_table net.tablecount net.tables, threads-count net, sym en, tables-in-use net lt ok) refl

  put_all : (x y z : List ℕ) → x ≡ head_of (n / 104) → y ≡ buffer_after (part x) (if_room (written (map table_of (take net.tablecount net.tables))) (part x)) → z ≡ end_to_end (all_threads (view net).nodes (view net).threads) →
      put_mid (104 + s) (n - (104 + s)) (put_mid 104 (104 + s - 104) (x ++ drop 104 o) y) z ≡ moment_put (view net)
  put_all x y z hx hy hz = filled x y z (n / 104) hx hy hz ∙ sym moment_is

pub tables_size-middle-requires : goal.tables_size-middle-requires
tables_size-middle-requires c =
    let l : length c.args.net.tables ≡ 8 = search rules in
    (tables-few c.args.net l c.requires.0, tables-ranged c.args.net l c.requires.0)

pub slice_bounds-copy_from_slice-end : goal.slice_bounds-copy_from_slice-end
slice_bounds-copy_from_slice-end c =
    let w = whole c.args.net c.requires.0 (search rules) c.args.out.now c.requires.1 c.tables_size-middle.result c.moment_size-end.result c.tables_size-middle.ensures.0 c.moment_size-end.ensures.0 in
    omega (arith, w)

pub overflow_cast-net : goal.overflow_cast-net
overflow_cast-net c = omega (arith, few-tables c.args.net c.requires.0)

pub overflow_cast-net-2 : goal.overflow_cast-net-2
overflow_cast-net-2 c = omega (arith, few-threads c.args.net c.requires.0)

pub slice_bounds-write_tables-end : goal.slice_bounds-write_tables-end
slice_bounds-write_tables-end c =
    let w = whole c.args.net c.requires.0 (search rules) c.args.out.now c.requires.1 c.tables_size-middle.result c.moment_size-end.result c.tables_size-middle.ensures.0 c.moment_size-end.ensures.0 in
    omega (arith, w)

pub write_tables-requires : goal.write_tables-requires
write_tables-requires c =
    let l : length c.args.net.tables ≡ 8 = search rules in
    (tables-few c.args.net l c.requires.0, tables-ranged c.args.net l c.requires.0)

pub slice_bounds-put_all-count : goal.slice_bounds-put_all-count
slice_bounds-put_all-count c =
    let w = whole c.args.net c.requires.0 (search rules) c.args.out.now c.requires.1 c.tables_size-middle.result c.moment_size-end.result c.tables_size-middle.ensures.0 c.moment_size-end.ensures.0 in
    omega (arith, w)

pub slice_bounds-put_all-start : goal.slice_bounds-put_all-start
slice_bounds-put_all-start c =
    let w = whole c.args.net c.requires.0 (search rules) c.args.out.now c.requires.1 c.tables_size-middle.result c.moment_size-end.result c.tables_size-middle.ensures.0 c.moment_size-end.ensures.0 in
    omega (arith, w)

pub put_all-requires : goal.put_all-requires
put_all-requires c =
    let w = c.tables_size-middle in
    let e = c.moment_size-end in
    let h = c.copy_from_slice.ensures.after ∙ c.moment_head.ensures in
    (c.requires.0, last-part c.args.net c.requires.0 (search rules) c.args.out.now c.requires.1 w.result e.result w.ensures.0 e.ensures.0 c.copy_from_slice.new.self c.write_tables.new.out _ h c.write_tables.ensures.1)

pub returns : goal.returns
returns c =
    let w = c.tables_size-middle in
    let e = c.moment_size-end in
    put_all c.args.net c.requires.0 (search rules) c.args.out.now c.requires.1 w.result e.result w.ensures.0 e.ensures.0 _ _ _ (c.copy_from_slice.ensures.after ∙ c.moment_head.ensures) c.write_tables.ensures.1 c.put_all.ensures

pub slice_bounds-all_tables-end : goal.slice_bounds-all_tables-end
slice_bounds-all_tables-end c =
    let l : length c.args.net.tables ≡ 8 = search rules in
    omega (arith, few-tables c.args.net c.requires.0, l)

pub slice_bounds-tables-end : goal.slice_bounds-tables-end
slice_bounds-tables-end c =
    let l : length c.args.net.tables ≡ 8 = search rules in
    omega (arith, length-take c.args.net.tablecount c.args.net.tables, few-tables c.args.net c.requires.0, l)
