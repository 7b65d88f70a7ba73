-- A window as bytes that another program keeps between calls, always 88. Width, column and the number of rows have eight bytes each, lowest first; then come the
-- Ints, the oldest first, four bytes each, with room for sixteen. Bytes that are not in use are zero.
use Rattle.std.specs.Prelude.{ℕ, ◌+◌, ◌-◌, ◌*◌, ◌^◌, Bool, cond, ◌&&◌, List, ◌++◌, map, leb, ℤ, length, drop, replicate}
use Rattle.value_bytes.specs.Bytes.{end_to_end, little_bytes, eight_bytes}
use Rattle.record_bytes.specs.Bytes.{at, part, parts, zeros, joined, int_in}
use Rattle.record_bytes.specs.Encoding.{bits32}
use Rattle.window_rules.specs.Windows.{Window, width_ok, begun, WindowAnswer, figures, refused, taken}

-- ── put ──

abbrev pub int_bytes : ℤ → List ℕ
int_bytes i = little_bytes (bits32 i)

unfoldable pub window_bytes : Window → List ℕ
window_bytes s =
    eight_bytes s.width
    ++ (eight_bytes s.column
    ++ (eight_bytes (length s.ints)
    ++ (end_to_end (map int_bytes s.ints)
    ++ replicate (64 - 4 * length s.ints) 0)))

-- ── read ──

abbrev pub eight_in : List ℕ → ℕ
eight_in bs = joined (at bs 0) (at bs 1) (at bs 2) (at bs 3) + 2 ^ 32 * joined (at bs 4) (at bs 5) (at bs 6) (at bs 7)

abbrev pub width_in : List ℕ → ℕ
width_in bs = eight_in (part 0 8 bs)

abbrev pub rows_in : List ℕ → ℕ
rows_in bs = eight_in (part 16 24 bs)

unfoldable pub window_in : List ℕ → Window
window_in bs = record { width = width_in bs; column = eight_in (part 8 16 bs); ints = map int_in (parts 4 (rows_in bs) (drop 24 bs)) }

-- bytes that are a state: others are refused with 23
unfoldable pub is_state : List ℕ → Bool
is_state bs = width_ok (width_in bs) && leb (rows_in bs) (width_in bs) && zeros (drop (24 + 4 * rows_in bs) bs)

-- ── a beginning: the bytes that it leaves. A refused one leaves every byte ──

unfoldable pub bytes_begun : ℕ → ℕ → List ℕ → List ℕ
bytes_begun w c before = cond (width_ok w) (window_bytes (begun w c)) before

-- ── a record taken: its answer, and the bytes that it leaves ──

unfoldable pub answer_for : List ℕ → List ℕ → WindowAnswer
answer_for before bytes = cond (is_state before) (taken (window_in before) bytes).answer (refused 23)

-- a refused record leaves every byte
abbrev pub bytes_left : WindowAnswer → List ℕ → Window → List ℕ
bytes_left (figures sum least largest) before next = window_bytes next
bytes_left (refused n) before next = before

unfoldable pub bytes_after : List ℕ → List ℕ → List ℕ
bytes_after before bytes = bytes_left (answer_for before bytes) before (taken (window_in before) bytes).next

-- ── what the calls tell of an answer: its number, and the figures, which stay as they were where it is refused ──

abbrev pub answer_number : WindowAnswer → ℕ
answer_number (figures sum least largest) = 0
answer_number (refused n) = n

abbrev pub sum_told : WindowAnswer → ℤ → ℤ
sum_told (figures sum least largest) was = sum
sum_told (refused n) was = was

abbrev pub least_told : WindowAnswer → ℤ → ℤ
least_told (figures sum least largest) was = least
least_told (refused n) was = was

abbrev pub largest_told : WindowAnswer → ℤ → ℤ
largest_told (figures sum least largest) was = largest
largest_told (refused n) was = was
