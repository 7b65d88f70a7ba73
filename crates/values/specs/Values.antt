-- Values, their kinds and ranges, their exact equality, and their order in matching and predicates. `Site`, `Locality` and `Value` are the
-- code's own types.
use Rattle.std.specs.Prelude.{ℕ, ◌/◌, ◌%◌, ◌-◌, ◌^◌, Bool, false, cond, ◌&&◌, List, [], ◌∷◌, map, eqb, leb, ltb, ℤ, pos, negsuc, None, Some, Option}
use Rattle.std.specs.declared.cmp.Ordering.{Ordering}
use Rattle.std.specs.declared.cmp.Ordering.TheVariants.{Less, Equal, Greater}
use Rattle.std.specs.Ordering.{nat_cmp, int_cmp}
use Rattle.std.specs.Int.Signed.{le_z}
use Rattle.values.specs.declared.Site.{Site}
use Rattle.values.specs.declared.Locality.{Locality}
use Rattle.values.specs.declared.Value.{Value}
use Rattle.values.specs.declared.Value.TheVariants.{Int, Text, Loc}
use Rattle.values.specs.Lists.{agree}
use Rattle.std.specs.List.{list_all}

-- ── sites and localities ──

abbrev pub same_site : Site → Site → Bool
same_site s t = eqb s.0 t.0

abbrev pub site_ok : Site → Bool
site_ok s = ltb s.0 8

abbrev pub same_locality : Locality → Locality → Bool
same_locality l m = eqb l.0 m.0

abbrev pub locality_ok : Locality → Bool
locality_ok l = ltb l.0 8

-- ── kinds and ranges ──

-- a kind of value: 1 Int, 2 Text, 3 Loc, as the tags and a table record's columns number them
abbrev pub kind_of : Value → ℕ
kind_of (Int i) = 1
kind_of (Text t) = 2
kind_of (Loc l) = 3

-- a signed number of 32 bits: -2147483648 to 2147483647 (`negsuc n` is -(n + 1))
abbrev pub in32 : ℤ → Bool
in32 i = le_z (negsuc 2147483647) i && le_z i (pos 2147483647)

-- the four bytes of a text, which is one number, its first byte the highest
abbrev pub bytes_of : ℕ → List ℕ
bytes_of t = t / 2 ^ 24 % 256 ∷ t / 2 ^ 16 % 256 ∷ t / 2 ^ 8 % 256 ∷ t % 256 ∷ []

-- four bytes 0x20..0x7E: a text or a table's name
abbrev pub is_text : ℕ → Bool
is_text t = ltb t (2 ^ 32) && list_all (λ b. leb 0x20 b && leb b 0x7e) (bytes_of t)

-- a value in its range
abbrev pub in_range : Value → Bool
in_range (Int i) = in32 i
in_range (Text t) = is_text t
in_range (Loc l) = locality_ok l

-- ── one value, in kind and bytes ──

abbrev pub same_int : ℤ → ℤ → Bool
same_int (pos m) (pos n) = eqb m n
same_int (pos m) (negsuc n) = false
same_int (negsuc m) (pos n) = false
same_int (negsuc m) (negsuc n) = eqb m n

abbrev pub same_value : Value → Value → Bool
same_value (Int i) (Int j) = same_int i j
same_value (Int i) (Text u) = false
same_value (Int i) (Loc m) = false
same_value (Text t) (Int j) = false
same_value (Text t) (Text u) = eqb t u
same_value (Text t) (Loc m) = false
same_value (Loc l) (Int j) = false
same_value (Loc l) (Text u) = false
same_value (Loc l) (Loc m) = same_locality l m

-- one row, value by value
abbrev pub same_row : List Value → List Value → Bool
same_row r s = agree same_value r s

-- ── the order of matching and predicates ──

-- how two values stand to each other; values of unlike kinds have no order
abbrev pub Order : Type 0
Order = Option Ordering

abbrev pub number_order : ℕ → ℕ → Order
number_order m n = Some (nat_cmp m n)

abbrev pub int_order : ℤ → ℤ → Order
int_order i j = Some (int_cmp i j)

-- a..z read as A..Z
abbrev pub upper : ℕ → ℕ
upper b = cond (leb 0x61 b && leb b 0x7a) (b - 0x20) b

abbrev pub or_next : Order → Order → Order
or_next None o = None
or_next (Some Less) o = Some Less
or_next (Some Equal) o = o
or_next (Some Greater) o = Some Greater

-- byte by byte, the first difference deciding
abbrev pub bytes_order : List ℕ → List ℕ → Order
bytes_order [] [] = Some Equal
bytes_order [] (b ∷ l) = Some Less
bytes_order (a ∷ k) [] = Some Greater
bytes_order (a ∷ k) (b ∷ l) = or_next (number_order a b) (bytes_order k l)

unfoldable pub text_order : ℕ → ℕ → Order
text_order t u = bytes_order (map upper (bytes_of t)) (map upper (bytes_of u))

-- Ints and Locs by number, Texts byte by byte
abbrev pub order : Value → Value → Order
order (Int i) (Int j) = int_order i j
order (Int i) (Text u) = None
order (Int i) (Loc m) = None
order (Text t) (Int j) = None
order (Text t) (Text u) = text_order t u
order (Text t) (Loc m) = None
order (Loc l) (Int j) = None
order (Loc l) (Text u) = None
order (Loc l) (Loc m) = number_order l.0 m.0
