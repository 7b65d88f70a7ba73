-- Worked windows, by computation.
use Rattle.std.specs.Prelude.{ℕ, ◌≡◌, refl, true, false, List, [], ◌∷◌, ◌++◌, ℤ, pos, negsuc, replicate, set, take, None, Some}
use Rattle.values.specs.declared.Site.{Site}
use Rattle.values.specs.declared.Value.TheVariants.{Int, Text, Loc}
use Rattle.value_bytes.specs.Bytes.{eight_bytes}
use Rattle.rows.specs.Relations.{Row}
use Rattle.nets.specs.Sound.{fields_ok_as}
use Rattle.nets.specs.View.{kind_at}
use Rattle.record_bytes.specs.Bytes.{operand_form, operand_in, operands_form, operands_in}
use Rattle.record_bytes.specs.Decoding.{node_in, alias_form, table_form, row_form, node_bytes, start_form, pick_form, record_in}
use Rattle.record_bytes.specs.Encoding.{tuple_bytes, table_bytes, row_bytes}
use Rattle.window_rules.specs.Windows.{counted_int, Window, window_ok, begun, begin_number, WindowAnswer, figures, refused, figures_of, slid, not_taken, taken}
use Rattle.window_rules.specs.Since.{answer_after, answers_since, windows_since}
use Rattle.window_rules.specs.WindowBytes.{window_bytes, window_in, is_state, bytes_begun, answer_for, bytes_after}

-- to unfold this is to unfold all definitions of a window
opened : Unit {0}
unfolding kind_at fields_ok_as operand_form operand_in operands_form operands_in node_in alias_form table_form row_form node_bytes start_form pick_form record_in tuple_bytes table_bytes row_bytes counted_int figures_of slid taken answer_after eight_bytes window_bytes window_in is_state bytes_begun answer_for bytes_after
opened = tt

-- ── records ──

abbrev site : ℕ → Site
site s = record { 0 = s }

-- a row of CARD at site 1
abbrev card : Row → List ℕ
card r = row_bytes (site 1) 0x43415244 r

-- a reading of one column
abbrev reading : ℤ → List ℕ
reading i = card (Int i ∷ [])

-- "RIG1"
abbrev RIG1 : ℕ
RIG1 = 0x52494731

-- the largest Int and the least
abbrev highest : ℤ
highest = pos 2147483647

abbrev lowest : ℤ
lowest = negsuc 2147483647

-- ── the answers to records taken one after another, each with the window that the one before left ──

abbrev answers : Window → List (List ℕ) → List WindowAnswer
answers s [] = []
answers s (r ∷ rs) = (taken s r).answer ∷ answers (taken s r).next rs

-- while fewer than w have come it is all of them, then the last w
pub two_of_three : answers (begun 2 0) (reading (pos 10) ∷ reading (pos 20) ∷ reading (pos 30) ∷ [])
    ≡ figures (pos 10) (pos 10) (pos 10) ∷ figures (pos 30) (pos 10) (pos 20) ∷ figures (pos 50) (pos 20) (pos 30) ∷ []
unfolding opened
two_of_three = refl

-- least and largest leave with their row
pub extremes_leave : answers (begun 2 0) (reading (negsuc 4) ∷ reading (pos 9) ∷ reading (pos 3) ∷ reading (pos 4) ∷ [])
    ≡ figures (negsuc 4) (negsuc 4) (negsuc 4) ∷ figures (pos 4) (negsuc 4) (pos 9) ∷ figures (pos 12) (pos 3) (pos 9) ∷ figures (pos 7) (pos 3) (pos 4) ∷ []
unfolding opened
extremes_leave = refl

-- two equal readings are two
pub equal_readings : answers (begun 2 0) (reading (pos 7) ∷ reading (pos 7) ∷ reading (pos 7) ∷ [])
    ≡ figures (pos 7) (pos 7) (pos 7) ∷ figures (pos 14) (pos 7) (pos 7) ∷ figures (pos 14) (pos 7) (pos 7) ∷ []
unfolding opened
equal_readings = refl

-- a window of one row
pub one-row : answers (begun 1 0) (reading (pos 5) ∷ reading (negsuc 5) ∷ []) ≡ figures (pos 5) (pos 5) (pos 5) ∷ figures (negsuc 5) (negsuc 5) (negsuc 5) ∷ []
unfolding opened
one-row = refl

-- a full window stays as it is at a refused record, which pushes none out
pub refused_between : answers (begun 2 0) (reading (pos 10) ∷ reading (pos 20) ∷ [] ∷ card (Text RIG1 ∷ []) ∷ reading (pos 30) ∷ [])
    ≡ figures (pos 10) (pos 10) (pos 10) ∷ figures (pos 30) (pos 10) (pos 20) ∷ refused 24 ∷ refused 24 ∷ figures (pos 50) (pos 20) (pos 30) ∷ []
unfolding opened
refused_between = refl

-- a refused first record does not count, not even as 0
pub refused-first : answers (begun 3 0) (card (Loc (record { 0 = 2 }) ∷ []) ∷ reading (pos 4) ∷ []) ≡ refused 24 ∷ figures (pos 4) (pos 4) (pos 4) ∷ []
unfolding opened
refused-first = refl

-- the widest window has sixteen rows: the eighteenth record meets those from the third on
pub sixteen-rows : answers (record { width = 16; column = 0; ints = negsuc 0 ∷ pos 1 ∷ replicate 14 (pos 2) }) (reading (pos 3) ∷ reading (pos 4) ∷ [])
    ≡ figures (pos 32) (pos 1) (pos 3) ∷ figures (pos 35) (pos 2) (pos 4) ∷ []
unfolding opened
sixteen-rows = refl

-- sums are whole, above and below
pub sum-above : (taken (record { width = 16; column = 0; ints = replicate 15 highest }) (reading highest)).answer ≡ figures (pos 34359738352) highest highest
unfolding opened
sum-above = refl

pub sum_below : (taken (record { width = 16; column = 0; ints = replicate 16 lowest }) (reading lowest)).answer ≡ figures (negsuc 34359738367) lowest lowest
unfolding opened
sum_below = refl

-- rows of other sites, names, widths and kinds follow each other: the column is the second
pub others_follow : answers (begun 4 1)
    (card (Text RIG1 ∷ Int (pos 36) ∷ [])
    ∷ row_bytes (site 0) 0x73616c65 (Int (pos 1) ∷ Int (negsuc 1) ∷ Text RIG1 ∷ [])
    ∷ row_bytes (site 7) 0x20202020 (Loc (record { 0 = 7 }) ∷ Int (pos 40) ∷ Int (pos 9) ∷ Int (pos 8) ∷ [])
    ∷ [])
    ≡ figures (pos 36) (pos 36) (pos 36) ∷ figures (pos 34) (negsuc 1) (pos 36) ∷ figures (pos 74) (negsuc 1) (pos 40) ∷ []
unfolding opened
others_follow = refl

-- ── the window that is left ──

pub begun-empty : begun 3 2 ≡ record { width = 3; column = 2; ints = [] }
begun-empty = refl

pub oldest_goes : (taken (record { width = 2; column = 0; ints = pos 10 ∷ pos 20 ∷ [] }) (reading (pos 30))).next ≡ record { width = 2; column = 0; ints = pos 20 ∷ pos 30 ∷ [] }
unfolding opened
oldest_goes = refl

pub room-is-left : (taken (record { width = 3; column = 0; ints = pos 10 ∷ pos 20 ∷ [] }) (reading (pos 30))).next ≡ record { width = 3; column = 0; ints = pos 10 ∷ pos 20 ∷ pos 30 ∷ [] }
unfolding opened
room-is-left = refl

-- ── 23 ──

pub no-width : begin_number 0 ≡ 23
no-width = refl

pub narrowest : begin_number 1 ≡ 0
narrowest = refl

pub widest : begin_number 16 ≡ 0
widest = refl

pub too_wide : begin_number 17 ≡ 23
too_wide = refl

-- a state of just w rows is one; of one more it is none
pub just_full : window_ok (record { width = 2; column = 0; ints = pos 1 ∷ pos 2 ∷ [] }) ≡ true
just_full = refl

pub over-full : window_ok (record { width = 2; column = 0; ints = pos 1 ∷ pos 2 ∷ pos 3 ∷ [] }) ≡ false
over-full = refl

-- each record is refused, the window stays, and 23 comes before 24
pub width-zero : taken (begun 0 0) (reading (pos 1)) ≡ not_taken 23 (begun 0 0)
unfolding opened
width-zero = refl

pub width-seventeen : taken (begun 17 0) (reading (pos 1)) ≡ not_taken 23 (begun 17 0)
unfolding opened
width-seventeen = refl

pub more_than_w : taken (record { width = 1; column = 0; ints = pos 1 ∷ pos 2 ∷ [] }) (reading (pos 3)) ≡ not_taken 23 (record { width = 1; column = 0; ints = pos 1 ∷ pos 2 ∷ [] })
unfolding opened
more_than_w = refl

pub window-first : (taken (begun 0 9) []).answer ≡ refused 23
unfolding opened
window-first = refl

pub more-first : (taken (record { width = 1; column = 0; ints = pos 1 ∷ pos 2 ∷ [] }) []).answer ≡ refused 23
unfolding opened
more-first = refl

-- ── 24 ──

-- a column above 3 is no 23: every record is 24
pub column-four : (taken (begun 1 4) (card (Int (pos 1) ∷ Int (pos 2) ∷ Int (pos 3) ∷ Int (pos 4) ∷ []))).answer ≡ refused 24
unfolding opened
column-four = refl

pub column-three : counted_int 3 (card (Int (pos 1) ∷ Int (pos 2) ∷ Int (pos 3) ∷ Int (pos 4) ∷ [])) ≡ Some (pos 4)
unfolding opened
column-three = refl

-- columns count from 0
pub column-zero : counted_int 0 (card (Int (pos 1) ∷ Int (pos 2) ∷ [])) ≡ Some (pos 1)
unfolding opened
column-zero = refl

-- a column that the row does not have, though it has Ints
pub column_absent : counted_int 2 (card (Int (pos 1) ∷ Int (pos 2) ∷ [])) ≡ None
unfolding opened
column_absent = refl

pub text_there : counted_int 1 (card (Int (pos 1) ∷ Text RIG1 ∷ [])) ≡ None
unfolding opened
text_there = refl

pub loc_there : counted_int 1 (card (Int (pos 1) ∷ Loc (record { 0 = 3 }) ∷ [])) ≡ None
unfolding opened
loc_there = refl

-- 103 bytes, 105, and two records at once
pub too_short : counted_int 0 (take 103 (reading (pos 1))) ≡ None
unfolding opened
too_short = refl

pub too_long : counted_int 0 (reading (pos 1) ++ (0 ∷ [])) ≡ None
unfolding opened
too_long = refl

pub two_at_once : counted_int 0 (reading (pos 1) ++ reading (pos 2)) ≡ None
unfolding opened
two_at_once = refl

-- check 3: an unknown kind
pub unknown_kind : counted_int 0 (set (reading (pos 1)) 0 4) ≡ None
unfolding opened
unknown_kind = refl

-- check 4: a site above 7, a byte of no name, and every stretch of unused bytes
pub wrong_site : counted_int 0 (set (reading (pos 1)) 1 8) ≡ None
unfolding opened
wrong_site = refl

pub wrong_name : counted_int 0 (set (reading (pos 1)) 4 0x1f) ≡ None
unfolding opened
wrong_name = refl

pub behind_the_site : counted_int 0 (set (reading (pos 1)) 2 1) ≡ None
unfolding opened
behind_the_site = refl

pub behind_the_name : counted_int 0 (set (reading (pos 1)) 8 1) ≡ None
unfolding opened
behind_the_name = refl

pub before_the_row : counted_int 0 (set (reading (pos 1)) 55 1) ≡ None
unfolding opened
before_the_row = refl

pub in_the_value : counted_int 0 (set (reading (pos 1)) 57 1) ≡ None
unfolding opened
in_the_value = refl

pub behind_the_row : counted_int 0 (set (reading (pos 1)) 88 1) ≡ None
unfolding opened
behind_the_row = refl

pub last_byte : counted_int 0 (set (reading (pos 1)) 103 1) ≡ None
unfolding opened
last_byte = refl

-- and what is wrong in another column: a gap, a variable, a Loc of 8, a byte of no text
pub gap : counted_int 0 (set (card (Int (pos 1) ∷ Int (pos 0) ∷ Int (pos 3) ∷ [])) 64 0) ≡ None
unfolding opened
gap = refl

pub variable : counted_int 0 (set (card (Int (pos 1) ∷ Int (pos 0) ∷ [])) 64 4) ≡ None
unfolding opened
variable = refl

pub wrong_loc : counted_int 0 (card (Int (pos 1) ∷ Loc (record { 0 = 8 }) ∷ [])) ≡ None
unfolding opened
wrong_loc = refl

pub wrong_text : counted_int 0 (set (card (Int (pos 1) ∷ Text RIG1 ∷ [])) 68 0x1f) ≡ None
unfolding opened
wrong_text = refl

-- no row, though nothing breaks a check: an insert of 1 whose next is node 1, at Loc 0; a table of CARD; a start; a pick
pub insert : counted_int 0 (set (set (reading (pos 1)) 0 16) 16 3) ≡ None
unfolding opened
insert = refl

pub table : counted_int 0 (table_bytes (record { site = site 1; name = 0x43415244; content = record { columns = 1 ∷ []; rows = [] } })) ≡ None
unfolding opened
table = refl

pub start : counted_int 0 (32 ∷ 1 ∷ replicate 102 0) ≡ None
unfolding opened
start = refl

pub pick : counted_int 0 (33 ∷ replicate 103 0) ≡ None
unfolding opened
pick = refl

-- ── the whole list ──

-- w of 3 and five records, the third refused: the last three good ones up to the fifth
pub last-three : answer_after 3 0 (reading (pos 1) ∷ reading (pos 20) ∷ [] ∷ reading (pos 300) ∷ []) (reading (pos 4000)) ≡ figures (pos 4320) (pos 20) (pos 4000)
unfolding opened
last-three = refl

-- all while fewer have come
pub all_so_far : answer_after 3 0 (reading (pos 1) ∷ [] ∷ []) (reading (pos 20)) ≡ figures (pos 21) (pos 1) (pos 20)
unfolding opened
all_so_far = refl

pub refused_itself : answer_after 3 0 (reading (pos 1) ∷ []) (card (Text RIG1 ∷ [])) ≡ refused 24
unfolding opened
refused_itself = refl

-- 23 for every record, also for one that would be 24
pub never-begun : answer_after 17 0 [] (reading (pos 1)) ≡ refused 23
unfolding opened
never-begun = refl

pub none-begun : answer_after 0 0 [] (reading (pos 1)) ≡ refused 23
unfolding opened
none-begun = refl

pub width-judged-first : answer_after 17 0 [] [] ≡ refused 23
unfolding opened
width-judged-first = refl

-- all four, and the windows after each
abbrev four : List (List ℕ)
four = reading (pos 10) ∷ reading (pos 20) ∷ [] ∷ reading (pos 30) ∷ []

pub answers_since_lem : answers_since 2 0 four ≡ figures (pos 10) (pos 10) (pos 10) ∷ figures (pos 30) (pos 10) (pos 20) ∷ refused 24 ∷ figures (pos 50) (pos 20) (pos 30) ∷ []
unfolding opened
answers_since_lem = refl

abbrev holding : List ℤ → Window
holding l = record { width = 2; column = 0; ints = l }

pub windows_since_lem : windows_since 2 0 four ≡ holding (pos 10 ∷ []) ∷ holding (pos 10 ∷ pos 20 ∷ []) ∷ holding (pos 10 ∷ pos 20 ∷ []) ∷ holding (pos 20 ∷ pos 30 ∷ []) ∷ []
unfolding opened
windows_since_lem = refl

pub windows-never : windows_since 0 1 (reading (pos 10) ∷ []) ≡ begun 0 1 ∷ []
unfolding opened
windows-never = refl

-- ── bytes ──

-- w of 3, column 1, and 36 and -2 in it
abbrev two : Window
two = record { width = 3; column = 1; ints = pos 36 ∷ negsuc 1 ∷ [] }

abbrev two_bytes : List ℕ
two_bytes =
    3 ∷ replicate 7 0
    ++ (1 ∷ replicate 7 0
    ++ (2 ∷ replicate 7 0
    ++ (36 ∷ 0 ∷ 0 ∷ 0 ∷ 254 ∷ 255 ∷ 255 ∷ 255 ∷ replicate 56 0)))

-- a record that counts there
abbrev five : List ℕ
five = card (Text RIG1 ∷ Int (pos 5) ∷ [])

pub two-put : window_bytes two ≡ two_bytes
unfolding opened
two-put = refl

pub two-read : window_in two_bytes ≡ two
unfolding opened
two-read = refl

pub two_state : is_state two_bytes ≡ true
unfolding opened
two_state = refl

-- sixteen rows, the lowest Int and the highest among them
abbrev full : Window
full = record { width = 16; column = 3; ints = lowest ∷ highest ∷ replicate 14 (negsuc 0) }

pub full-read : window_in (window_bytes full) ≡ full
unfolding opened
full-read = refl

pub full_state : is_state (window_bytes full) ≡ true
unfolding opened
full_state = refl

-- no state: w of 0, w of 17, w of 1 with two rows; w or the number of rows beyond its first byte; a byte that is not in use; bytes never begun
pub state_of_none : is_state (set two_bytes 0 0) ≡ false
unfolding opened
state_of_none = refl

pub state_too_wide : is_state (set two_bytes 0 17) ≡ false
unfolding opened
state_too_wide = refl

pub state_over-full : is_state (set two_bytes 0 1) ≡ false
unfolding opened
state_over-full = refl

pub state_high-width : is_state (set two_bytes 7 1) ≡ false
unfolding opened
state_high-width = refl

pub state_high-rows : is_state (set two_bytes 23 1) ≡ false
unfolding opened
state_high-rows = refl

pub state_unused : is_state (set two_bytes 32 1) ≡ false
unfolding opened
state_unused = refl

pub state_last_byte : is_state (set two_bytes 87 1) ≡ false
unfolding opened
state_last_byte = refl

pub state_never-begun : is_state (replicate 88 0) ≡ false
unfolding opened
state_never-begun = refl

-- just w rows are fine, and so is a column above 3, of which every record is 24
pub state_full : is_state (set two_bytes 0 2) ≡ true
unfolding opened
state_full = refl

pub state_column-four : answer_for (set two_bytes 8 4) five ≡ refused 24
unfolding opened
state_column-four = refl

pub state_high-column : answer_for (set two_bytes 15 1) five ≡ refused 24
unfolding opened
state_high-column = refl

-- a beginning fills all 88 bytes; a refused one leaves them
pub bytes-begun : bytes_begun 3 256 (replicate 88 7) ≡ 3 ∷ replicate 7 0 ++ (0 ∷ 1 ∷ replicate 78 0)
unfolding opened
bytes-begun = refl

pub bytes-not-begun : bytes_begun 17 0 two_bytes ≡ two_bytes
unfolding opened
bytes-not-begun = refl

-- a record that counts: there is room for it, or the oldest goes
pub bytes-answer : answer_for two_bytes five ≡ figures (pos 39) (negsuc 1) (pos 36)
unfolding opened
bytes-answer = refl

pub bytes_after_lem : bytes_after two_bytes five ≡ set (set two_bytes 16 3) 32 5
unfolding opened
bytes_after_lem = refl

pub bytes-slid : bytes_after (set two_bytes 0 2) five ≡ window_bytes (record { width = 2; column = 1; ints = negsuc 1 ∷ pos 5 ∷ [] })
unfolding opened
bytes-slid = refl

-- refused: by 24, and by 23, which comes first; every byte stays
pub bytes_24 : bytes_after two_bytes (reading (pos 5)) ≡ two_bytes
unfolding opened
bytes_24 = refl

pub answer_23 : answer_for (set two_bytes 32 1) five ≡ refused 23
unfolding opened
answer_23 = refl

pub bytes_23 : bytes_after (set two_bytes 32 1) five ≡ set two_bytes 32 1
unfolding opened
bytes_23 = refl

pub bytes-first : answer_for (replicate 88 0) [] ≡ refused 23
unfolding opened
bytes-first = refl
