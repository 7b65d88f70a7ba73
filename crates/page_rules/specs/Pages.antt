-- A table laid out for people: a line for each row, then a line with the sum of each Int column.
use Rattle.std.specs.Prelude.{ℕ, zero, suc, ◌-◌, cond, List, [], ◌∷◌, ◌++◌, map, eqb, leb, get_or, length, drop, Option, None, Some}
use Rattle.values.specs.declared.Site.{Site}
use Rattle.values.specs.declared.Value.{Value}
use Rattle.values.specs.declared.Value.TheVariants.{Int, Text, Loc}
use Rattle.values.specs.Lists.{places}
use Rattle.values.specs.Values.{bytes_of}
use Rattle.value_bytes.specs.Bytes.{end_to_end}
use Rattle.value_decimal.specs.Decimals.{digit, signed, blanks}
use Rattle.rows.specs.Relations.{Row, Relation}
use Rattle.row_change.specs.Aggregates.{column, total}
use Rattle.nets.specs.Nets.{Table, Net}
use Rattle.nets.specs.Tables.{table_at}
use Rattle.nets.specs.Sound.{sound}

-- ── a cell ──

abbrev pub cell_width : ℕ
cell_width = 13

abbrev pub right_aligned : List ℕ → List ℕ
right_aligned bs = blanks (cell_width - length bs) ++ bs

abbrev pub left_aligned : List ℕ → List ℕ
left_aligned bs = bs ++ blanks (cell_width - length bs)

abbrev pub blank_cell : List ℕ
blank_cell = blanks cell_width

-- an Int in decimal, a Text as its four bytes, a Loc as @ and its digit
unfoldable pub cell : Value → List ℕ
cell (Int i) = right_aligned (signed i)
cell (Text t) = left_aligned (bytes_of t)
cell (Loc l) = left_aligned (0x40 ∷ digit l.0 ∷ [])

-- ── a line: four cells and a line feed, 53 bytes ──

unfoldable pub line_of : (ℕ → List ℕ) → List ℕ
line_of cell_of = end_to_end (map cell_of (places 0 4)) ++ (0x0a ∷ [])

-- the cells of a row; missing columns are blank
abbrev pub row_cell : Row → ℕ → List ℕ
row_cell [] i = blank_cell
row_cell (v ∷ r) zero = cell v
row_cell (v ∷ r) (suc i) = row_cell r i

-- the sum of an Int column over all rows; blanks elsewhere
unfoldable pub sum_cell : Relation → ℕ → List ℕ
sum_cell r i = cond (eqb (get_or r.columns i 0) 1) (right_aligned (signed (total (column i r.rows)))) blank_cell

-- ── the page: a line for each row, then the line of sums ──

unfoldable pub page_of : Relation → List ℕ
page_of r = end_to_end (map (λ (row : Row). line_of (row_cell row)) r.rows ++ (line_of (sum_cell r) ∷ []))

-- ── the call ──

-- refused with a number and its values; or these bytes are put
pub data PageOutcome : Type 0 where
  no_page : ℕ → List ℕ → PageOutcome
  a_page : List ℕ → PageOutcome

-- 22 has the length that is needed beside it
abbrev pub if_long_enough : List ℕ → List ℕ → PageOutcome
if_long_enough bs buffer = cond (leb (length bs) (length buffer)) (a_page bs) (no_page 22 (length bs ∷ []))

abbrev pub page_for : Option Table → List ℕ → PageOutcome
page_for None buffer = no_page 14 []
page_for (Some t) buffer = if_long_enough (page_of t.content) buffer

-- 10 for an unsound net, then 14, then 22
unfoldable pub page : Net → Site → ℕ → List ℕ → PageOutcome
page net site name buffer = cond (sound net) (page_for (table_at site name net.tables) buffer) (no_page 10 [])

-- the answer: refused with a number and its values, or the page's length
pub data PageAnswer : Type 0 where
  page_refused : ℕ → List ℕ → PageAnswer
  page_length : ℕ → PageAnswer

abbrev pub page_answer : PageOutcome → PageAnswer
page_answer (no_page n vs) = page_refused n vs
page_answer (a_page bs) = page_length (length bs)

-- every byte of the buffer afterwards: those after the page are unchanged, and after a refusal all are
abbrev pub buffer_after : List ℕ → PageOutcome → List ℕ
buffer_after buffer (no_page n vs) = buffer
buffer_after buffer (a_page bs) = bs ++ drop (length bs) buffer
