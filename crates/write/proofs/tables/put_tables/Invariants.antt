use Prim.Native.Nat.{ℕ, ◌*◌, ◌≤◌}
use mathlib.Core.Path.{◌≡◌}
use mathlib.Core.List.{List, ◌++◌}
use lib.ListN.{length, drop}
use Rattle.values.specs.Lists.{firsts}
use Rattle.nets.specs.declared.Table.{Table}
use Rattle.nets.specs.View.{no_table, table_of}
use Rattle.record_bytes.specs.Encoding.{table_bytes}
use Rattle.value_bytes.specs.Bytes.{end_to_end}
use Rattle.write.proofs.tables.put_tables.Given as goal

-- the record of a table
abbrev pub record_of : Table → List ℕ
record_of t = table_bytes (table_of t)

abbrev pub invariant-loop-i : goal.invariant-loop-i
invariant-loop-i l =
    record {
      within : l.i ≤ length l.tables;
      full : length l.out ≡ length l.tables * 104;
      filled : l.out ≡ end_to_end (firsts record_of no_table l.i l.tables) ++ drop (l.i * 104) l.initial.out;
    }
