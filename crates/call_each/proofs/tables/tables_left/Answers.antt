-- `call_each::tables::tables_left` meets its contract: too little room, or the records of the tables that the run left and then the bytes that stood there. Assumes nothing.
use Prim.Native.Nat.{ℕ, ◌≤◌, ◌<◌}
use mathlib.Core.Path.{◌≡◌, refl, sym, ap, ◌∙◌}
use mathlib.Core.List.{List, map}
use native.Mathlib.Omega.{arith}
use lib.Dec.{T}
use lib.ListN.{length, take, length-take}
use borrow.Author.Tests.{le-leb}
use Rattle.nets.specs.declared.Pick.{Pick}
use Rattle.nets.specs.declared.Net as Code
use Rattle.nets.specs.Nets.{Net}
use Rattle.nets.specs.Sound.{sound}
use Rattle.nets.specs.Accounts.{after}
use Rattle.nets.specs.View.{table_of, view}
use Rattle.value_bytes.specs.Bytes.{put_all}
use Rattle.step_bytes.specs.PickBytes.{picks_in}
use Rattle.files.specs.Writing.{written, buffer_after}
use Rattle.write.specs.WriteCall as W
use Rattle.call_rules.specs.Layouts.{tables_put}
use Rattle.call_rules.specs.Replies.{if_room}
use Rattle.call_rules.specs.Calls.{Gives}
use Rattle.call_rules.proofs.CallLaws.{needed-is, gives-short, gives_all}
use Rattle.nets.proofs.ShapeLaws.{few-tables}
use Rattle.write.proofs.WholeLaws.{tables-taken, tables-few, tables-ranged}
use borrow.Author.Rules.{rules}
use Rattle.call_each.proofs.tables.tables_left.Goals as goal

module _ (m : Net) (ps : List Pick) (net : Code.Net) (e : (view net ≡ after m ps) × T (sound (view net))) (lt : length net.tables ≡ 8) (o : List ℕ) (size : ℕ) (es : (size ≡ length (written (map table_of (take net.tablecount net.tables)))) × (size ≤ 14144)) where
  put_is : tables_put m ps ≡ written (map table_of (take net.tablecount net.tables))
  unfolding tables_put
  put_is = rw (sym e.0, tables-taken net lt e.1)

  long : length (tables_put m ps) ≡ size
  long = ap length put_is ∙ sym es.0

  short : length o < size → Gives (if_room (tables_put m ps) o) o o 21 size
  short h = gives-short (tables_put m ps) o size long size h (needed-is size (omega (arith, es.1)))

  whole : (out : List ℕ) → size ≤ length o → out ≡ buffer_after o (W.if_room (written (map table_of (take net.tablecount net.tables))) o) → out ≡ put_all (tables_put m ps) o
  unfolding W.if_room put_all
  whole out h q =
      let w = written (map table_of (take net.tablecount net.tables)) in
      q ∙ rw (put_is, le-leb (length w) (length o) (omega (arith, es.0)))

  given : (out : List ℕ) → size ≤ length o → out ≡ buffer_after o (W.if_room (written (map table_of (take net.tablecount net.tables))) o) → Gives (if_room (tables_put m ps) o) o out 0 size
  given out h q = gives_all (tables_put m ps) o size long out h (whole out h q)

pub tables_size-size-requires : goal.tables_size-size-requires
tables_size-size-requires c =
    let r = c.run_picks-left in
    let l : length r.result.tables ≡ 8 = search rules in
    (tables-few r.result l r.ensures.1, tables-ranged r.result l r.ensures.1)

pub returns-then-out-size : goal.returns-then-out-size
returns-then-out-size c =
    let r = c.run_picks-left in
    record {
      gives = short (view c.args.net) (picks_in c.args.picks.now) r.result r.ensures (search rules) c.args.out.now c.tables_size-size.result c.tables_size-size.ensures c.if-out-size.true;
      refused = (omega arith, refl);
    }

pub write_tables-requires : goal.write_tables-requires
write_tables-requires c =
    let r = c.run_picks-left in
    let l : length r.result.tables ≡ 8 = search rules in
    (tables-few r.result l r.ensures.1, tables-ranged r.result l r.ensures.1)

pub returns : goal.returns
returns c =
    let r = c.run_picks-left in
    record {
      gives = given (view c.args.net) (picks_in c.args.picks.now) r.result r.ensures (search rules) c.args.out.now c.tables_size-size.result c.tables_size-size.ensures _ c.if-out-size.false c.write_tables.ensures.1;
      refused = tt;
    }

pub slice_bounds-all_tables-end : goal.slice_bounds-all_tables-end
slice_bounds-all_tables-end c =
    let r = c.run_picks-left in
    let l : length r.result.tables ≡ 8 = search rules in
    omega (arith, few-tables r.result r.ensures.1, l)

pub slice_bounds-tables-end : goal.slice_bounds-tables-end
slice_bounds-tables-end c =
    let r = c.run_picks-left in
    let l : length r.result.tables ≡ 8 = search rules in
    omega (arith, length-take r.result.tablecount r.result.tables, few-tables r.result r.ensures.1, l)
