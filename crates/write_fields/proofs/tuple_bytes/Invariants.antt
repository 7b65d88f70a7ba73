use Prim.Native.Nat.{◌*◌, ◌≤◌}
use mathlib.Core.Path.{◌≡◌}
use mathlib.Core.List.{◌++◌}
use lib.ListN.{length, drop, replicate}
use Rattle.values.specs.Lists.{firsts}
use Rattle.rows.specs.View.{no_cell}
use Rattle.value_bytes.specs.Bytes.{end_to_end}
use Rattle.write_fields.proofs.WriteLaws.{cell_bytes}
use Rattle.write_fields.proofs.tuple_bytes.Given as goal

abbrev pub invariant-loop-i : goal.invariant-loop-i
invariant-loop-i l =
    record {
      within : l.i ≤ l.columns;
      few : l.columns ≤ 4;
      full : length l.out ≡ 32;
      filled : l.out ≡ end_to_end (firsts cell_bytes no_cell l.i l.row.cells) ++ drop (l.i * 8) (replicate 32 0);
    }
