-- The tables that a file's records give: a table record's columns, and its row records' rows in file order.
use Rattle.std.specs.Prelude.{ℕ, cond, ◌&&◌, List, [], ◌∷◌, ◌++◌, eqb, Option, None, Some}
use Rattle.values.specs.declared.Site.{Site}
use Rattle.values.specs.Lists.{keep, count}
use Rattle.values.specs.Values.{same_site, same_row}
use Rattle.rows.specs.Relations.{Row, Columns}
use Rattle.nets.specs.Nets.{Table}
use Rattle.record_bytes.specs.Decoding.{Record, alias_record, table_record, row_record, node_record, start_record, pick_record, Decoded, good, bad, records_in}

-- the row that a record gives for a site and name
abbrev pub rows_for1 : Site → ℕ → Record → List Row
rows_for1 s n (alias_record a) = []
rows_for1 s n (table_record t m cs) = []
rows_for1 s n (row_record t m r) = keep (same_site s t && eqb n m) r []
rows_for1 s n (node_record d) = []
rows_for1 s n (start_record t i) = []
rows_for1 s n (pick_record p) = []

unfoldable pub rows_for : Site → ℕ → List Decoded → List Row
rows_for s n [] = []
rows_for s n (bad k ∷ xs) = rows_for s n xs
rows_for s n (good r ∷ xs) = rows_for1 s n r ++ rows_for s n xs

-- the columns that a record gives for a site and name
abbrev pub columns_for1 : Site → ℕ → Record → Option Columns
columns_for1 s n (alias_record a) = None
columns_for1 s n (table_record t m cs) = cond (same_site s t && eqb n m) (Some cs) None
columns_for1 s n (row_record t m r) = None
columns_for1 s n (node_record d) = None
columns_for1 s n (start_record t i) = None
columns_for1 s n (pick_record p) = None

abbrev pub or_later : Option Columns → Option Columns → Option Columns
or_later None o = o
or_later (Some cs) o = Some cs

unfoldable pub columns_for : Site → ℕ → List Decoded → Option Columns
columns_for s n [] = None
columns_for s n (bad k ∷ xs) = columns_for s n xs
columns_for s n (good r ∷ xs) = or_later (columns_for1 s n r) (columns_for s n xs)

-- a table, where there are columns
abbrev pub table_with : Site → ℕ → Option Columns → List Row → Option Table
table_with s n None rs = None
table_with s n (Some cs) rs = Some (record { site = s; name = n; content = record { columns = cs; rows = rs } })

-- ── of a file ──

abbrev pub file_rows : List ℕ → Site → ℕ → List Row
file_rows file s n = rows_for s n (records_in file)

-- the table of a site and name, or none
abbrev pub file_table : List ℕ → Site → ℕ → Option Table
file_table file s n = table_with s n (columns_for s n (records_in file)) (file_rows file s n)

-- how often the file's row records for a site and name give a row
abbrev pub loaded_count : List ℕ → Site → ℕ → Row → ℕ
loaded_count file s n r = count (same_row r) (file_rows file s n)
