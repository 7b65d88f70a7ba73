-- Numbers as they are printed: decimal digits in ASCII, a minus before them where the number is below zero.
use Rattle.std.specs.Prelude.{ℕ, zero, suc, ◌+◌, ◌/◌, ◌%◌, Bool, true, false, cond, List, [], ◌∷◌, ◌++◌, ltb, ℤ, pos, negsuc, replicate}

-- the digit of a number below ten
abbrev pub digit : ℕ → ℕ
digit d = 0x30 + d

-- one digit for a number below ten; for any other the digits of its tenth, then its last one. `more` gives the former; as a function, it is computed only where it is needed
abbrev pub one_or_more : Bool → ℕ → (ℕ → List ℕ) → List ℕ
one_or_more true n more = digit n ∷ []
one_or_more false n more = more (n / 10) ++ (digit (n % 10) ∷ [])

-- a number's digits, where it has no more than `k`
abbrev pub digits_within : ℕ → ℕ → List ℕ
digits_within zero n = []
digits_within (suc k) n = one_or_more (ltb n 10) n (digits_within k)

-- `suc n` digits are enough for `n`
unfoldable pub decimal : ℕ → List ℕ
decimal n = digits_within (suc n) n

-- with a minus directly before the digits, or without one
abbrev pub number : Bool → ℕ → List ℕ
number negative n = cond negative (0x2d ∷ decimal n) (decimal n)

-- a whole number (`negsuc n` is -(n + 1))
abbrev pub signed : ℤ → List ℕ
signed (pos n) = number false n
signed (negsuc n) = number true (suc n)

abbrev pub blanks : ℕ → List ℕ
blanks n = replicate n 0x20
