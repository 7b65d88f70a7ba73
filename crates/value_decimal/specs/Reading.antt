-- How a number is read: blanks, then perhaps a minus, then digits to the end. No definition of printing is used here.
use Rattle.std.specs.Prelude.{ℕ, ◌+◌, ◌-◌, ◌*◌, Bool, cond, ◌&&◌, List, [], ◌∷◌, eqb, leb, ℤ, pos, neg_ℤ, Option, None, Some}

abbrev pub is_digit : ℕ → Bool
is_digit c = leb 0x30 c && leb c 0x39

-- from the left: a further digit makes ten times the number read so far, and itself; anything else is no number
abbrev pub read_on : ℕ → List ℕ → Option ℕ
read_on n [] = Some n
read_on n (c ∷ l) = cond (is_digit c) (read_on (10 * n + (c - 0x30)) l) None

-- one digit or more
abbrev pub read_digits : List ℕ → Option ℕ
read_digits [] = None
read_digits (c ∷ l) = read_on 0 (c ∷ l)

abbrev pub positive : Option ℕ → Option ℤ
positive None = None
positive (Some n) = Some (pos n)

abbrev pub negative : Option ℕ → Option ℤ
negative None = None
negative (Some n) = Some (neg_ℤ (pos n))

abbrev pub read_signed : List ℕ → Option ℤ
read_signed [] = None
read_signed (c ∷ l) = cond (eqb c 0x2d) (negative (read_digits l)) (positive (read_digits (c ∷ l)))

-- blanks in front are skipped
abbrev pub read_number : List ℕ → Option ℤ
read_number [] = None
read_number (c ∷ l) = cond (eqb c 0x20) (read_number l) (read_signed (c ∷ l))
