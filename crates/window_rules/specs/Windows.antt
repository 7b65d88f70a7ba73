-- A moving window: row records come one after another, and each that counts is answered with sum, least and largest of one Int column over the last w that count.
use Rattle.std.specs.Prelude.{ℕ, zero, suc, ◌-◌, Bool, cond, ◌&&◌, List, [], ◌∷◌, ◌++◌, eqb, leb, ℤ, length, drop, Option, None, Some}
use Rattle.values.specs.declared.Value.{Value}
use Rattle.values.specs.declared.Value.TheVariants.{Int, Text, Loc}
use Rattle.values.specs.Operands.{value_in}
use Rattle.rows.specs.Relations.{Row}
use Rattle.row_change.specs.Aggregates.{int_of, total, smaller, larger, best}
use Rattle.record_bytes.specs.Decoding.{Record, alias_record, table_record, row_record, node_record, start_record, pick_record, Decoded, good, bad, record_in}

-- ── the Int of a record in a column ──

abbrev pub value_int : Value → Option ℤ
value_int (Int i) = Some i
value_int (Text t) = None
value_int (Loc l) = None

-- none where the row has no such column, or another kind there
abbrev pub column_int : ℕ → Row → Option ℤ
column_int c [] = None
column_int zero (v ∷ r) = value_int v
column_int (suc c) (v ∷ r) = column_int c r

-- none of a record that is no row
abbrev pub record_int : ℕ → Record → Option ℤ
record_int c (alias_record a) = None
record_int c (table_record s n ks) = None
record_int c (row_record s n r) = column_int c r
record_int c (node_record d) = None
record_int c (start_record s i) = None
record_int c (pick_record p) = None

-- none of one that breaks check 3 or 4
abbrev pub decoded_int : ℕ → Decoded → Option ℤ
decoded_int c (good x) = record_int c x
decoded_int c (bad k) = None

-- none where there are not just 104 bytes. A record with none is refused with 24; one that has an Int counts
unfoldable pub counted_int : ℕ → List ℕ → Option ℤ
counted_int c bytes = cond (eqb (length bytes) 104) (decoded_int c (record_in bytes)) None

-- ── a window ──

-- its width w and its column, and the Ints that its rows have there, the oldest first
pub record Window : Type 0 where
  pub width : ℕ
  pub column : ℕ
  pub ints : List ℤ

-- w of 0 or above 16 is refused with 23
abbrev pub width_ok : ℕ → Bool
width_ok w = leb 1 w && leb w 16

-- and so is a state of more than w rows
abbrev pub window_ok : Window → Bool
window_ok s = width_ok s.width && leb (length s.ints) s.width

-- ── a beginning: no rows ──

abbrev pub begun : ℕ → ℕ → Window
begun w c = record { width = w; column = c; ints = [] }

-- the number that refuses it, or 0
abbrev pub begin_number : ℕ → ℕ
begin_number w = cond (width_ok w) 0 23

-- ── what is answered ──

-- sum, least and largest, or the number of a refusal
pub data WindowAnswer : Type 0 where
  figures : ℤ → ℤ → ℤ → WindowAnswer
  refused : ℕ → WindowAnswer

-- least or largest, as an aggregate has it; the window has a row at least, the one that was just taken
abbrev pub chosen : (ℤ → ℤ → ℤ) → List ℤ → ℤ
chosen f l = int_of (value_in (best f l))

-- the sum is whole: it is never cut to 32 bits, nor refused
unfoldable pub figures_of : List ℤ → WindowAnswer
figures_of l = figures (total l) (chosen smaller l) (chosen larger l)

-- ── a record taken ──

-- the last w of a list, or all while it has fewer
module _ {A : Type 0} where
  abbrev pub last_of : ℕ → List A → List A
  last_of w l = drop (length l - w) l

-- the window with one row more, and without the oldest where it was full
unfoldable pub slid : Window → ℤ → Window
slid s k = record { width = s.width; column = s.column; ints = last_of s.width (s.ints ++ (k ∷ [])) }

-- what a record is answered with, and the window that the next one meets
pub record Taken : Type 0 where
  pub answer : WindowAnswer
  pub next : Window

-- a refused record neither enters nor pushes one out
abbrev pub not_taken : ℕ → Window → Taken
not_taken n s = record { answer = refused n; next = s }

abbrev pub taken_int : Window → Option ℤ → Taken
taken_int s None = not_taken 24 s
taken_int s (Some k) = record { answer = figures_of (slid s k).ints; next = slid s k }

-- 23 is judged before 24
unfoldable pub taken : Window → List ℕ → Taken
taken s bytes = cond (window_ok s) (taken_int s (counted_int s.column bytes)) (not_taken 23 s)
