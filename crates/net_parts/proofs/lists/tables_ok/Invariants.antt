use Rattle.std.proofs.Common.{◌≡◌, ◌&&◌, drop, map}
use Rattle.std.specs.List.{list_all}
use Rattle.values.proofs.PairLaws.{tails}
use Rattle.nets.specs.Tables.{rows_fit, distinct}
use Rattle.nets.specs.Sound.{table_ok}
use Rattle.nets.specs.View.{table_of}
use Rattle.net_parts.proofs.DistinctLaws.{table_test}
use Rattle.net_parts.proofs.lists.tables_ok.Given as goal

abbrev pub invariant-loop-i : goal.invariant-loop-i
invariant-loop-i l = tails table_test (drop l.i (map table_of l.tables))
    ≡ (list_all table_ok (map table_of l.tables) && list_all rows_fit (map table_of l.tables) && distinct (map table_of l.tables))
