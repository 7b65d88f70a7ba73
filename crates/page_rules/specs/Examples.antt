-- Worked pages, by computation.
use Rattle.std.specs.Prelude.{ℕ, ◌≡◌, refl, List, [], ◌∷◌, ◌++◌, pos, negsuc, replicate, None, Some}
use Rattle.values.specs.declared.Site.{Site}
use Rattle.values.specs.declared.Value.TheVariants.{Int, Text, Loc}
use Rattle.value_decimal.specs.Decimals.{decimal, signed, blanks}
use Rattle.value_decimal.specs.Reading.{read_number}
use Rattle.nets.specs.Nets.{Table, Net}
use Rattle.nets.specs.Tables.{distinct}
use Rattle.nets.specs.Sound.{sound}
use Rattle.page_rules.specs.Pages.{cell, line_of, row_cell, sum_cell, page_of, no_page, a_page, page, page_length, page_answer, buffer_after}
use Rattle.page_rules.specs.Readable.{cell_at}

-- to unfold this is to unfold all definitions of a page
opened : Unit {0}
unfolding decimal cell line_of sum_cell page_of page distinct sound
opened = tt

-- ── numbers ──

pub zero_is : signed (pos 0) ≡ 0x30 ∷ []
unfolding opened
zero_is = refl

pub nine_is : signed (pos 9) ≡ 0x39 ∷ []
unfolding opened
nine_is = refl

pub ten-is : signed (pos 10) ≡ 0x31 ∷ 0x30 ∷ []
unfolding opened
ten-is = refl

-- "18446744073709551615", the largest number of 64 bits
pub largest_is : decimal 18446744073709551615 ≡ 0x31 ∷ 0x38 ∷ 0x34 ∷ 0x34 ∷ 0x36 ∷ 0x37 ∷ 0x34 ∷ 0x34 ∷ 0x30 ∷ 0x37 ∷ 0x33 ∷ 0x37 ∷ 0x30 ∷ 0x39 ∷ 0x35 ∷ 0x35 ∷ 0x31 ∷ 0x36 ∷ 0x31 ∷ 0x35 ∷ []
unfolding opened
largest_is = refl

-- "-34359738368", the least sum: twelve places
abbrev least_sum : List ℕ
least_sum = 0x2d ∷ 0x33 ∷ 0x34 ∷ 0x33 ∷ 0x35 ∷ 0x39 ∷ 0x37 ∷ 0x33 ∷ 0x38 ∷ 0x33 ∷ 0x36 ∷ 0x38 ∷ []

pub least_sum_lem : signed (negsuc 34359738367) ≡ least_sum
unfolding opened
least_sum_lem = refl

pub least_sum-read : read_number (0x20 ∷ least_sum) ≡ Some (negsuc 34359738367)
least_sum-read = refl

pub zero-read : read_number (0x30 ∷ []) ≡ Some (pos 0)
zero-read = refl

pub blanks_skipped : read_number (blanks 11 ++ (0x33 ∷ 0x36 ∷ [])) ≡ Some (pos 36)
blanks_skipped = refl

-- no digit, a blank behind, a minus alone, a minus before blanks, a plus, a line feed before: no number
pub blanks-read : read_number (blanks 13) ≡ None
blanks-read = refl

pub blank_behind : read_number (0x33 ∷ 0x20 ∷ []) ≡ None
blank_behind = refl

pub minus_alone : read_number (0x20 ∷ 0x2d ∷ []) ≡ None
minus_alone = refl

pub minus_apart : read_number (0x2d ∷ 0x20 ∷ 0x33 ∷ []) ≡ None
minus_apart = refl

pub plus_read : read_number (0x2b ∷ 0x33 ∷ []) ≡ None
plus_read = refl

pub feed_read : read_number (0x0a ∷ 0x33 ∷ []) ≡ None
feed_read = refl

-- the bytes before and after the digits are none
pub slash_read : read_number (0x2f ∷ []) ≡ None
slash_read = refl

pub colon_read : read_number (0x3a ∷ []) ≡ None
colon_read = refl

-- ── a page ──

abbrev site : ℕ → Site
site s = record { 0 = s }

-- "RIG1" and "RIG2"
abbrev RIG1 : ℕ
RIG1 = 0x52494731

abbrev RIG2 : ℕ
RIG2 = 0x52494732

-- CARD of (Text, Int, Loc): RIG1 36 @3, RIG2 -40 @0
abbrev card : Table
card =
    record {
      site = site 1;
      name = 0x43415244;
      content =
          record {
            columns = 2 ∷ 1 ∷ 3 ∷ [];
            rows = (Text RIG1 ∷ Int (pos 36) ∷ Loc (record { 0 = 3 }) ∷ []) ∷ (Text RIG2 ∷ Int (negsuc 39) ∷ Loc (record { 0 = 0 }) ∷ []) ∷ [];
          };
    }

-- the three lines: RIG1 36 @3; RIG2 -40 @0; and -4
abbrev card_page : List ℕ
card_page =
    0x52 ∷ 0x49 ∷ 0x47 ∷ 0x31 ∷ blanks 9 ++ (blanks 11 ++ (0x33 ∷ 0x36 ∷ 0x40 ∷ 0x33 ∷ blanks 11 ++ (blanks 13 ++ (0x0a ∷ []))))
    ++ (0x52 ∷ 0x49 ∷ 0x47 ∷ 0x32 ∷ blanks 9 ++ (blanks 10 ++ (0x2d ∷ 0x34 ∷ 0x30 ∷ 0x40 ∷ 0x30 ∷ blanks 11 ++ (blanks 13 ++ (0x0a ∷ []))))
    ++ (blanks 13 ++ (blanks 11 ++ (0x2d ∷ 0x34 ∷ blanks 26 ++ (0x0a ∷ [])))))

pub card-page : page_of card.content ≡ card_page
unfolding opened
card-page = refl

-- sums are whole: sixteen times the least Int
pub sum-whole : sum_cell (record { columns = 1 ∷ []; rows = replicate 16 (Int (negsuc 2147483647) ∷ []) }) 0 ≡ 0x20 ∷ least_sum
unfolding opened
sum-whole = refl

-- "34359738352", the largest
pub sum_largest : sum_cell (record { columns = 3 ∷ 1 ∷ []; rows = replicate 16 (Loc (record { 0 = 7 }) ∷ Int (pos 2147483647) ∷ []) }) 1 ≡ 0x20 ∷ 0x20 ∷ 0x33 ∷ 0x34 ∷ 0x33 ∷ 0x35 ∷ 0x39 ∷ 0x37 ∷ 0x33 ∷ 0x38 ∷ 0x33 ∷ 0x35 ∷ 0x32 ∷ []
unfolding opened
sum_largest = refl

-- four columns fill the line: 1, "  A ", @7, -2147483648
pub four-cells : line_of (row_cell (Int (pos 1) ∷ Text 0x20204120 ∷ Loc (record { 0 = 7 }) ∷ Int (negsuc 2147483647) ∷ []))
    ≡ 0x20 ∷ 0x20 ∷ 0x20 ∷ 0x20 ∷ 0x20 ∷ 0x20 ∷ 0x20 ∷ 0x20 ∷ 0x20 ∷ 0x20 ∷ 0x20 ∷ 0x20 ∷ 0x31
    ∷ 0x20 ∷ 0x20 ∷ 0x41 ∷ 0x20 ∷ 0x20 ∷ 0x20 ∷ 0x20 ∷ 0x20 ∷ 0x20 ∷ 0x20 ∷ 0x20 ∷ 0x20 ∷ 0x20
    ∷ 0x40 ∷ 0x37 ∷ 0x20 ∷ 0x20 ∷ 0x20 ∷ 0x20 ∷ 0x20 ∷ 0x20 ∷ 0x20 ∷ 0x20 ∷ 0x20 ∷ 0x20 ∷ 0x20
    ∷ 0x20 ∷ 0x20 ∷ 0x2d ∷ 0x32 ∷ 0x31 ∷ 0x34 ∷ 0x37 ∷ 0x34 ∷ 0x38 ∷ 0x33 ∷ 0x36 ∷ 0x34 ∷ 0x38
    ∷ 0x0a ∷ []
unfolding opened
four-cells = refl

-- read off the page: -40 in the second line, -4 in the last
pub value_on_page : read_number (cell_at card_page 1 1) ≡ Some (negsuc 39)
value_on_page = refl

pub sum_on_page : read_number (cell_at card_page 2 1) ≡ Some (negsuc 3)
sum_on_page = refl

-- without rows the last line stands alone, with 0 in Int columns
pub no_rows : page_of (record { columns = 1 ∷ 2 ∷ 3 ∷ 1 ∷ []; rows = [] }) ≡ blanks 12 ++ (0x30 ∷ blanks 38 ++ (0x30 ∷ 0x0a ∷ []))
unfolding opened
no_rows = refl

pub no-int-column : page_of (record { columns = 2 ∷ []; rows = [] }) ≡ blanks 52 ++ (0x0a ∷ [])
unfolding opened
no-int-column = refl

-- ── the call ──

abbrev net_of : List Table → Net
net_of ts = record { aliases = []; tables = ts; nodes = []; threads = [] }

-- a buffer of just the page's length is enough; what follows is unchanged
pub enough : page (net_of (card ∷ [])) (site 1) 0x43415244 (replicate 159 7) ≡ a_page card_page
unfolding opened
enough = refl

-- with two bytes more
abbrev longer : List ℕ
longer = replicate 159 7 ++ (8 ∷ 9 ∷ [])

pub rest-stays : buffer_after longer (page (net_of (card ∷ [])) (site 1) 0x43415244 longer) ≡ card_page ++ (8 ∷ 9 ∷ [])
unfolding opened
rest-stays = refl

pub length_answered : page_answer (page (net_of (card ∷ [])) (site 1) 0x43415244 longer) ≡ page_length 159
unfolding opened
length_answered = refl

pub too_short : page (net_of (card ∷ [])) (site 1) 0x43415244 (replicate 158 7) ≡ no_page 22 (159 ∷ [])
unfolding opened
too_short = refl

pub short-stays : buffer_after (replicate 158 7) (page (net_of (card ∷ [])) (site 1) 0x43415244 (replicate 158 7)) ≡ replicate 158 7
unfolding opened
short-stays = refl

-- 14 comes before 22: another site, another name, a site that no net has
pub other-site : page (net_of (card ∷ [])) (site 0) 0x43415244 [] ≡ no_page 14 []
unfolding opened
other-site = refl

pub other_name : page (net_of (card ∷ [])) (site 1) 0x63617264 [] ≡ no_page 14 []
unfolding opened
other_name = refl

pub no_such_site : page (net_of (card ∷ [])) (site 9) 0x43415244 [] ≡ no_page 14 []
unfolding opened
no_such_site = refl

-- 10 comes before 14: two tables of one name
pub unsound_first : page (net_of (card ∷ card ∷ [])) (site 0) 0x43415244 [] ≡ no_page 10 []
unfolding opened
unsound_first = refl
