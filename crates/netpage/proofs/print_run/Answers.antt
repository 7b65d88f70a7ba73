-- `netpage::print_run` is safe: the net that the picks leave is sound, so its tables are in their ranges. Assumes nothing.
use mathlib.Core.Path.{◌≡◌, subst}
use mathlib.Core.List.{List}
use native.Mathlib.Omega.{arith}
use lib.Dec.{T}
use lib.ListN.{length, length-take}
use borrow.Author.Rules.{rules}
use Rattle.std.specs.List.{list_all}
use Rattle.values.proofs.Firsts.{firsts_taken}
use Rattle.nets.specs.Nets as M
use Rattle.nets.specs.Sound.{table_ok}
use Rattle.nets.specs.View.{no_table, table_of}
use Rattle.nets.proofs.ShapeLaws.{few-tables, tables-ok}
use Rattle.netpage.proofs.print_run.Goals as goal

pub slice_bounds-tables-end : goal.slice_bounds-tables-end
slice_bounds-tables-end g c =
    let net = c.run-left.result in
    let l : length net.tables ≡ 8 = search rules in
    omega (arith, few-tables net c.run-left.ensures.1, l)

pub slice_bounds-put_tables-end : goal.slice_bounds-put_tables-end
slice_bounds-put_tables-end g c =
    let net = c.run-left.result in
    let l : length net.tables ≡ 8 = search rules in
    omega (arith, length-take net.tablecount net.tables, few-tables net c.run-left.ensures.1, l)

pub put_tables-requires : goal.put_tables-requires
put_tables-requires g c =
    let net = c.run-left.result in
    let sound = c.run-left.ensures.1 in
    let l : length net.tables ≡ 8 = search rules in
    subst (λ (ts : List M.Table). T (list_all table_ok ts)) (firsts_taken table_of no_table net.tablecount net.tables (omega (arith, few-tables net sound, l))) (tables-ok net sound)
