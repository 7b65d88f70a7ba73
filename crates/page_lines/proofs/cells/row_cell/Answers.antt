-- `page_lines::cells::row_cell` meets its contract: the value of the column, or none.
use Prim.Native.Nat.{ℕ, ◌≤◌, ◌<◌}
use mathlib.Core.Path.{◌≡◌, sym, ◌∙◌}
use mathlib.Core.List.{List}
use lib.Dec.{T}
use lib.ListN.{get_or}
use Rattle.std.specs.List.{list_all}
use Rattle.values.specs.Values.{in_range}
use Rattle.values.proofs.Firsts.{all_firsts}
use Rattle.value_decimal.specs.Decimals.{blanks}
use Rattle.values.specs.declared.Value.{Value}
use Rattle.rows.specs.declared.Row.{Row}
use Rattle.rows.specs.View.{no_cell, values_of}
use Rattle.page_rules.specs.Pages.{cell, row_cell}
use Rattle.page_lines.proofs.CellLaws.{cell-there, cell-missing}
use Rattle.page_lines.proofs.cells.row_cell.Goals as goal

module _ (row : Row) (n i : ℕ) where
  value-ok : i < n → T (list_all in_range (values_of n row)) → T (in_range (get_or row.cells i no_cell))
  value-ok h ok = all_firsts in_range (λ (v : Value). v) no_cell n row.cells i h ok

  there : (out : List ℕ) → i < n → out ≡ cell (get_or row.cells i no_cell) → out ≡ row_cell (values_of n row) i
  there out h e = e ∙ sym (cell-there (λ (v : Value). v) no_cell n row.cells i h)

  missing : n ≤ i → blanks 13 ≡ row_cell (values_of n row) i
  missing h = sym (cell-missing (λ (v : Value). v) no_cell n row.cells i h)

pub value_cell-requires : goal.value_cell-requires
value_cell-requires c = search value-ok

pub returns-then-i-columns : goal.returns-then-i-columns
returns-then-i-columns c = search there

pub returns-else-i-columns : goal.returns-else-i-columns
returns-else-i-columns c = search missing
