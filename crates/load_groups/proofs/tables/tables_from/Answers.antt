-- `load_groups::tables::tables_from` meets its contract: the tables in use are the first of the array.
use Rattle.std.proofs.Common.{map, length, ◌≤◌, arith}
use Rattle.rows.specs.View.{Shaped}
use Rattle.nets.specs.declared.Table.{Table}
use Rattle.nets.specs.View.{no_table, table_of}
use Rattle.values.proofs.Firsts.{firsts_taken}
use Rattle.load_walk.specs.Walking.{put_tables, Each, Gives}
use Rattle.load_groups.proofs.ItemLaws.{matched, each_taken}
use Rattle.load_groups.proofs.tables.tables_from.Goals as goal

pub returns : goal.returns
returns c =
    matched (Gives 8 c.args.file.now 2 c.args.from (λ ts. put_tables (map table_of ts)) (Each (λ (t : Table). Shaped t.content) no_table)) _ _ c.walk.result c.walk.ensures
    (λ read k.
    let few : read.count ≤ length read.items = omega (arith, k.long, k.few) in
    (rw (firsts_taken table_of no_table read.count read.items few) (k.leads, k.going), (k.few, each_taken (λ (t : Table). Shaped t.content) no_table read.count read.items few k.kept)))
