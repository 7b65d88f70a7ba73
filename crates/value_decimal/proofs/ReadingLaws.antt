-- What is printed reads back as the number: digits, with a minus, with blanks in front.
use Prim.Native.Nat.{ℕ, zero, suc, ◌+◌, ◌-◌, ◌*◌, ◌/◌, ◌%◌, ◌<◌}
use mathlib.Core.Path.{◌≡◌, refl, sym, ap, ◌∙◌}
use mathlib.Core.Bool.{Bool, true, false, cond}
use mathlib.Core.List.{List, [], ◌∷◌, ◌++◌, append-nil, append_assoc}
use Rattle.std.specs.Prelude.{Some}
use native.Mathlib.Omega.{arith}
use lib.Dec.{eqb}
use lib.IntN.{ℤ, pos, negsuc}
use borrow.Author.Tests.{le-leb, ne_eqb}
use Rattle.value_decimal.specs.Decimals.{digit, decimal, signed, blanks}
use Rattle.value_decimal.specs.Reading.{is_digit, read_on, read_digits, positive, negative, read_signed, read_number}
use Rattle.value_decimal.proofs.DecimalLaws.{decimal-one, decimal-more, by_tenths}

a_digit : (d : ℕ) → d < 10 → is_digit (digit d) ≡ true
a_digit d h = rw (le-leb 0x30 (digit d) (omega arith), le-leb (digit d) 0x39 (omega arith)) refl

-- one digit more
read-digit : (n d : ℕ) (l : List ℕ) → d < 10 → read_on n (digit d ∷ l) ≡ read_on (10 * n + d) l
read-digit n d l h =
    let e : digit d - 0x30 ≡ d = omega arith in
    rw (a_digit d h, e) refl

-- ── a number's digits read as the number, whatever follows ──

abbrev Reads : ℕ → Type 0
Reads n = (l : List ℕ) → read_on 0 (decimal n ++ l) ≡ read_on n l

read_one : (n : ℕ) → n < 10 → Reads n
read_one n h l =
    let e : 10 * 0 + n ≡ n = omega arith in
    rw (decimal-one n h) (read-digit 0 n l h ∙ ap (λ (m : ℕ). read_on m l) e)

read_more : (n : ℕ) → 9 < n → Reads (n / 10) → Reads n
read_more n h i l =
    let e : 10 * (n / 10) + n % 10 ≡ n = omega arith in
    rw (decimal-more n h, append_assoc) (i (digit (n % 10) ∷ l) ∙ read-digit (n / 10) (n % 10) l (omega arith) ∙ ap (λ (m : ℕ). read_on m l) e)

digits-read : (n : ℕ) → read_on 0 (decimal n) ≡ Some n
digits-read n = ap (read_on 0) (sym (append-nil (decimal n))) ∙ by_tenths Reads read_one read_more n []

-- ── the first digit: no blank, and no minus ──

pub record Begins (l : List ℕ) : Type 0 where
  pub first : ℕ
  pub rest : List ℕ
  pub small : first < 10
  pub whole : l ≡ digit first ∷ rest

pub first-digit : (n : ℕ) → Begins (decimal n)
first-digit =
    by_tenths
    (λ n. Begins (decimal n))
    (λ n h. record { first = n; rest = []; small = h; whole = decimal-one n h })
    (λ n h i. record { first = i.first; rest = i.rest ++ (digit (n % 10) ∷ []); small = i.small; whole = decimal-more n h ∙ ap (λ (l : List ℕ). l ++ (digit (n % 10) ∷ [])) i.whole })

read-digits : (n : ℕ) → read_digits (decimal n) ≡ Some n
read-digits n =
    let b = first-digit n in
    ap read_digits b.whole ∙ ap (read_on 0) (sym b.whole) ∙ digits-read n

-- a digit is neither a minus nor a blank
not_minus : (d : ℕ) → eqb (digit d) 0x2d ≡ false
not_minus d = ne_eqb (digit d) 0x2d (λ e. omega arith)

not_blank : (d : ℕ) → eqb (digit d) 0x20 ≡ false
not_blank d = ne_eqb (digit d) 0x20 (λ e. omega arith)

read-positive : (n : ℕ) → read_signed (decimal n) ≡ Some (pos n)
read-positive n =
    let b = first-digit n in
    ap read_signed b.whole
    ∙ ap (λ (t : Bool). cond t (negative (read_digits b.rest)) (positive (read_digits (digit b.first ∷ b.rest)))) (not_minus b.first)
    ∙ ap (λ (l : List ℕ). positive (read_digits l)) (sym b.whole)
    ∙ ap positive (read-digits n)

signed-read : (z : ℤ) → read_signed (signed z) ≡ Some z
signed-read (pos n) = read-positive n
signed-read (negsuc n) = ap negative (read-digits (suc n))

-- ── blanks in front ──

first-seen : (z : ℤ) → read_number (signed z) ≡ read_signed (signed z)
first-seen (pos n) =
    let b = first-digit n in
    ap read_number b.whole
    ∙ ap (λ (t : Bool). cond t (read_number b.rest) (read_signed (digit b.first ∷ b.rest))) (not_blank b.first)
    ∙ ap read_signed (sym b.whole)
first-seen (negsuc n) = refl

pub number_read : (k : ℕ) (z : ℤ) → read_number (blanks k ++ signed z) ≡ Some z
number_read zero z = first-seen z ∙ signed-read z
number_read (suc k) z = number_read k z
