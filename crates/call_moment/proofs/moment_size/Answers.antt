-- `call_moment::moment_size` meets its contract: its own record, those of its tables and rows, and those of its threads. Assumes nothing.
use mathlib.Core.Path.{◌≡◌, ap}
use mathlib.Core.List.{List}
use lib.ListN.{length, length-take}
use native.Mathlib.Omega.{arith}
use borrow.Author.Rules.{rules}
use Rattle.nets.proofs.ShapeLaws.{few-tables}
use Rattle.files.specs.Writing.{written}
use Rattle.nets.specs.Nets as M
use Rattle.write.proofs.WholeLaws.{tables-few, tables-ranged, tables-in-use}
use Rattle.call_moment.proofs.MomentLaws.{moment_length}
use Rattle.call_moment.proofs.moment_size.Goals as goal

pub slice_bounds-all_tables-end : goal.slice_bounds-all_tables-end
slice_bounds-all_tables-end c =
    let l : length c.args.net.tables ≡ 8 = search rules in
    omega (arith, few-tables c.args.net c.requires, l)

pub slice_bounds-tables_size-end : goal.slice_bounds-tables_size-end
slice_bounds-tables_size-end c =
    let l : length c.args.net.tables ≡ 8 = search rules in
    omega (arith, length-take c.args.net.tablecount c.args.net.tables, few-tables c.args.net c.requires, l)

pub tables_size-requires : goal.tables_size-requires
tables_size-requires c =
    let l : length c.args.net.tables ≡ 8 = search rules in
    (tables-few c.args.net l c.requires, tables-ranged c.args.net l c.requires)

pub returns : goal.returns
returns c =
    let l : length c.args.net.tables ≡ 8 = search rules in
    let e = moment_length c.args.net c.requires in
    let t = ap (λ (ts : List M.Table). length (written ts)) (tables-in-use c.args.net l c.requires) in
    (omega (arith, e, t, c.tables_size.ensures.0, c.count_all.ensures.0), omega arith)
