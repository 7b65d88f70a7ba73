-- Aggregates over a list of rows: count, and sum, least and largest of an Int column.
use Rattle.std.specs.Prelude.{ℕ, Bool, true, false, cond, eqb, ℤ, pos, ◌+ℤ◌, get_or, length, None, Some}
use mathlib.Core.List.{List, [], ◌∷◌, map, foldl}
use Rattle.std.specs.Int.Signed.{lt_z}
use Rattle.values.specs.declared.Value.{Value}
use Rattle.values.specs.declared.Value.TheVariants.{Int, Text, Loc}
use Rattle.values.specs.Operands.{Got}
use Rattle.values.specs.Values.{in32}
use Rattle.values.specs.Operands.{fitting}
use Rattle.rows.specs.declared.Function.{Function}
use Rattle.rows.specs.declared.Function.TheVariants.{Unused, Count, Sum, Least, Largest}
use Rattle.rows.specs.Relations.{Row, Columns}

abbrev pub int_of : Value → ℤ
int_of (Int i) = i
int_of (Text t) = pos 0
int_of (Loc l) = pos 0

-- a row's Int in a column
abbrev pub int_at : ℕ → Row → ℤ
int_at i r = int_of (get_or r i (Int (pos 0)))

abbrev pub column : ℕ → List Row → List ℤ
column i rs = map (int_at i) rs

abbrev pub total : List ℤ → ℤ
total l = foldl ◌+ℤ◌ (pos 0) l

-- the smaller of two; the larger
abbrev pub smaller : ℤ → ℤ → ℤ
smaller j k = cond (lt_z k j) k j

abbrev pub larger : ℤ → ℤ → ℤ
larger j k = cond (lt_z j k) k j

-- of no rows there is none
abbrev pub best : (ℤ → ℤ → ℤ) → List ℤ → Got
best f [] = None
best f (k ∷ l) = Some (Int (foldl f k l))

-- the result, if there is one within 32 bits. A sum is judged whole: partial sums may leave them
unfoldable pub aggregated : Function → ℕ → List Row → Got
aggregated Unused i rs = None
aggregated Count i rs = Some (Int (pos (length rs)))
aggregated Sum i rs = fitting (in32 (total (column i rs))) (total (column i rs))
aggregated Least i rs = best smaller (column i rs)
aggregated Largest i rs = best larger (column i rs)

-- functions 2..4 want a column that is there and Int
abbrev pub column_fits : Function → ℕ → Columns → Bool
column_fits Unused i cs = false
column_fits Count i cs = true
column_fits Sum i cs = eqb (get_or cs i 0) 1
column_fits Least i cs = eqb (get_or cs i 0) 1
column_fits Largest i cs = eqb (get_or cs i 0) 1
