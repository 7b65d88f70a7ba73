use Prim.Native.Nat.{ℕ, ◌*◌, ◌≤◌}
use mathlib.Core.Path.{◌≡◌}
use mathlib.Core.List.{List, ◌++◌}
use lib.ListN.{length, drop}
use Rattle.values.specs.declared.Site.{Site}
use Rattle.values.specs.Lists.{firsts}
use Rattle.rows.specs.declared.Row.{Row}
use Rattle.rows.specs.declared.Relation.{Relation}
use Rattle.rows.specs.View.{no_row, values_of}
use Rattle.record_bytes.specs.Encoding.{row_bytes}
use Rattle.value_bytes.specs.Bytes.{end_to_end}
use Rattle.write_puts.proofs.put_rows.Given as goal

-- the record of a row
abbrev pub record_of : Site → ℕ → Relation → Row → List ℕ
record_of s m r x = row_bytes s m (values_of r.columns x)

abbrev pub invariant-loop-i : goal.invariant-loop-i
invariant-loop-i l =
    record {
      within : l.i ≤ l.content.count;
      full : length l.out ≡ l.content.count * 104;
      filled : l.out ≡ end_to_end (firsts (record_of l.site l.name l.content) no_row l.i l.content.rows) ++ drop (l.i * 104) l.initial.out;
    }
