-- One record written: 104 bytes of a table or of a row.
use Rattle.std.specs.Prelude.{ℕ, suc, ◌-◌, ◌^◌, List, [], ◌∷◌, ◌++◌, map, ℤ, pos, negsuc, length, get_or, replicate}
use Rattle.value_bytes.specs.Bytes.{end_to_end, little_bytes}
use Rattle.values.specs.declared.Site.{Site}
use Rattle.values.specs.declared.Value.{Value}
use Rattle.values.specs.declared.Value.TheVariants.{Int, Text, Loc}
use Rattle.values.specs.Values.{bytes_of}
use Rattle.rows.specs.Relations.{Row, Columns}
use Rattle.nets.specs.Nets.{Table}

-- ── operands ──

-- a signed number's 32 bits
abbrev pub bits32 : ℤ → ℕ
bits32 (pos n) = n
bits32 (negsuc n) = 2 ^ 32 - suc n

abbrev pub operand_bytes : Value → List ℕ
operand_bytes (Int i) = 1 ∷ 0 ∷ 0 ∷ 0 ∷ little_bytes (bits32 i)
operand_bytes (Text t) = 2 ∷ 0 ∷ 0 ∷ 0 ∷ bytes_of t
operand_bytes (Loc l) = 3 ∷ 0 ∷ 0 ∷ 0 ∷ l.0 ∷ 0 ∷ 0 ∷ 0 ∷ []

-- four operands: those of the values, then only tag 0
unfoldable pub tuple_bytes : Row → List ℕ
tuple_bytes r = end_to_end (map operand_bytes r ++ replicate (4 - length r) (replicate 8 0))

-- ── records ──

-- kind, site, name
abbrev pub start_bytes : ℕ → Site → ℕ → List ℕ
start_bytes k s n = k ∷ s.0 ∷ 0 ∷ 0 ∷ bytes_of n

-- four columns, those that are missing 0
abbrev pub column_bytes : Columns → List ℕ
column_bytes cs = get_or cs 0 0 ∷ get_or cs 1 0 ∷ get_or cs 2 0 ∷ get_or cs 3 0 ∷ []

unfoldable pub table_bytes : Table → List ℕ
table_bytes t = start_bytes 2 t.site t.name ++ (column_bytes t.content.columns ++ replicate 92 0)

unfoldable pub row_bytes : Site → ℕ → Row → List ℕ
row_bytes s n r = start_bytes 3 s n ++ (replicate 48 0 ++ (tuple_bytes r ++ replicate 16 0))
