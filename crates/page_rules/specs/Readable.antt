-- The numbers on a page are the relation's, read cell by cell. A Text or Loc in the next cell begins directly behind a number's last digit, so a line read as a whole would not do.
use Rattle.std.specs.Prelude.{ℕ, ◌+◌, ◌*◌, ◌≤◌, ◌<◌, ◌≡◌, List, [], T, eqb, ℤ, length, get_or, take, drop, Some}
use Rattle.values.specs.declared.Value.TheVariants.{Int, Text}
use Rattle.std.specs.List.{list_any}
use Rattle.value_decimal.specs.Reading.{read_number}
use Rattle.rows.specs.Relations.{Relation}
use Rattle.row_change.specs.Aggregates.{column, total}

-- cell `i` of line `j`, both from 0; the line after all rows has the sums
abbrev pub cell_at : List ℕ → ℕ → ℕ → List ℕ
cell_at buffer j i = take 13 (drop (j * 53 + i * 13) buffer)

pub record ReadsAs (buffer : List ℕ) (r : Relation) : Type 0 where
  -- the cell of each Int is that number (`Text 0` stands for a value that is missing, which is no Int)
  pub values : (j i : ℕ) (z : ℤ) → j < length r.rows → get_or (get_or r.rows j []) i (Text 0) ≡ Int z → read_number (cell_at buffer j i) ≡ Some z
  -- the last line has the sum of each Int column over all rows
  pub sums : (i : ℕ) → get_or r.columns i 0 ≡ 1 → read_number (cell_at buffer (length r.rows) i) ≡ Some (total (column i r.rows))
  -- each cell of an Int column begins with a blank, so a number has twelve places at most
  pub apart : (j i : ℕ) → j ≤ length r.rows → get_or r.columns i 0 ≡ 1 → get_or (cell_at buffer j i) 0 0 ≡ 0x20
  -- no cell is full
  pub not_full : (j i : ℕ) → j ≤ length r.rows → i < 4 → T (list_any (eqb 0x20) (cell_at buffer j i))
