use Prim.Native.Nat.{ℕ, ◌*◌, ◌≤◌}
use mathlib.Core.Path.{◌≡◌}
use mathlib.Core.List.{List, ◌++◌}
use lib.ListN.{length, drop}
use Rattle.values.specs.Lists.{firsts}
use Rattle.value_bytes.specs.Bytes.{end_to_end}
use Rattle.rows.specs.declared.Row.{Row}
use Rattle.rows.specs.declared.Relation.{Relation}
use Rattle.rows.specs.View.{no_row, values_of}
use Rattle.page_lines.proofs.LineLaws.{row_line}
use Rattle.page_lines.proofs.lines.put_rows.Given as goal

-- the line of a row
abbrev pub line_at : Relation → Row → List ℕ
line_at r x = row_line (values_of r.columns x)

abbrev pub invariant-loop-i : goal.invariant-loop-i
invariant-loop-i l =
    record {
      within : l.i ≤ l.r.count;
      full : length l.out ≡ l.r.count * 53;
      filled : l.out ≡ end_to_end (firsts (line_at l.r) no_row l.i l.r.rows) ++ drop (l.i * 53) l.initial.out;
    }
