use Prim.Native.Nat.{◌*◌, ◌≤◌}
use mathlib.Core.Path.{◌≡◌}
use mathlib.Core.List.{◌++◌}
use lib.ListN.{length, drop, replicate}
use Rattle.value_bytes.proofs.Parts.{along}
use Rattle.rows.specs.View.{values_of}
use Rattle.page_rules.specs.Pages.{row_cell}
use Rattle.page_lines.proofs.lines.row_line.Given as goal

abbrev pub invariant-loop-i : goal.invariant-loop-i
invariant-loop-i l =
    record {
      within : l.i ≤ 4;
      full : length l.out ≡ 53;
      filled : l.out ≡ along (row_cell (values_of l.columns l.row)) l.i ++ drop (l.i * 13) (replicate 53 0);
    }
