-- The digits of a number, one by one: a number below ten is one digit, any other has those of its tenth before its last one.
use Prim.Native.Nat.{ℕ, zero, suc, ◌/◌, ◌%◌, ◌^◌, ◌≤◌, ◌<◌}
use mathlib.Core.Path.{◌≡◌, refl, ap, subst}
use mathlib.Core.Bool.{Bool, true, false}
use mathlib.Core.List.{List, [], ◌∷◌, ◌++◌}
use native.Mathlib.Nat.{pow-suc, zero-lt-suc, div-lt_iff_lt-mul}
use native.Mathlib.Omega.{arith}
use lib.Dec.{ltb}
use lib.IntN.{ℤ, pos, negsuc, nat_abs}
use lib.ListN.{length, length-append}
use mir.Syntax.{w32, w64}
use mir.Val.{Fits, SFits}
use borrow.Author.Tests.{ltb-true, ltb-false, lt-ltb, le-ltb}
use Rattle.values.proofs.Ints.{size}
use Rattle.value_decimal.specs.Decimals.{digit, one_or_more, digits_within, decimal, signed}

-- how many there may be is no matter, where it is enough
enough : (k j n : ℕ) → n < k → n < j → digits_within k n ≡ digits_within j n
enough zero j n a b = absurd (omega arith)
enough (suc k) zero n a b = absurd (omega arith)
enough (suc k) (suc j) n a b = go (λ p q. enough k j (n / 10) p q) (ltb n 10) refl
  where
    go : (n / 10 < k → n / 10 < j → digits_within k (n / 10) ≡ digits_within j (n / 10)) → (t : Bool) → ltb n 10 ≡ t →
        one_or_more t n (digits_within k) ≡ one_or_more t n (digits_within j)
    go h true e = refl
    go h false e =
        let l = ltb-false n 10 e in
        ap (λ (ds : List ℕ). ds ++ (digit (n % 10) ∷ [])) (h (omega arith) (omega arith))

pub decimal-one : (n : ℕ) → n < 10 → decimal n ≡ digit n ∷ []
unfolding decimal
decimal-one n h = rw (lt-ltb n 10 h)

pub decimal-more : (n : ℕ) → 9 < n → decimal n ≡ decimal (n / 10) ++ (digit (n % 10) ∷ [])
unfolding decimal
decimal-more n h =
    let l : 10 ≤ n = omega arith in
    rw (le-ltb n 10 l) (ap (λ (ds : List ℕ). ds ++ (digit (n % 10) ∷ [])) (enough n (suc (n / 10)) (n / 10) (omega arith) (omega arith)))

-- what holds of all numbers below ten, and of a number whenever of its tenth, holds of all
module _ (P : ℕ → Type 0) (one : (n : ℕ) → n < 10 → P n) (more : (n : ℕ) → 9 < n → P (n / 10) → P n) where
  tenths : (k n : ℕ) → n < k → P n
  tenths zero n h = absurd (omega arith)
  tenths (suc k) n h = go (λ l. tenths k (n / 10) l) (ltb n 10) refl
    where
      go : (n / 10 < k → P (n / 10)) → (t : Bool) → ltb n 10 ≡ t → P n
      go i true e = one n (ltb-true n 10 e)
      go i false e =
          let l = ltb-false n 10 e in
          more n (omega arith) (i (omega arith))

  pub by_tenths : (n : ℕ) → P n
  by_tenths n = tenths (suc n) n (omega arith)

-- ── how many ──

pub some-digit : (n : ℕ) → 1 ≤ length (decimal n)
some-digit = by_tenths (λ n. 1 ≤ length (decimal n)) (λ n h. rw (decimal-one n h) (omega arith)) (λ n h i. rw (decimal-more n h, length-append) (omega arith))

-- no more than places that are enough for the number
few-digits : (k n : ℕ) → n < 10 ^ suc k → length (decimal n) ≤ suc k
few-digits zero n h = rw (decimal-one n (rw (pow-suc 10 0) at h)) (omega arith)
few-digits (suc k) n h = go (λ l. few-digits k (n / 10) l) (ltb n 10) refl
  where
    go : (n / 10 < 10 ^ suc k → length (decimal (n / 10)) ≤ suc k) → (t : Bool) → ltb n 10 ≡ t → length (decimal n) ≤ suc (suc k)
    go i true e = rw (decimal-one n (ltb-true n 10 e)) (omega arith)
    go i false e =
        let j = i ((div-lt_iff_lt-mul (zero-lt-suc 9)).1 (subst (λ (x : ℕ). n < x) (pow-suc 10 (suc k)) h)) in
        rw (decimal-more n (omega (arith, ltb-false n 10 e)), length-append) (omega arith)

-- one place more for a minus
pub few-places : (k : ℕ) (z : ℤ) → nat_abs z < 10 ^ suc k → length (signed z) ≤ suc (suc k)
few-places k (pos n) h = omega (arith, few-digits k n h)
few-places k (negsuc n) h = omega (arith, few-digits k (suc n) h)

-- a number of 64 bits has twenty digits at most
pub few-wide : (n : ℕ) → Fits w64 n → length (decimal n) ≤ 20
few-wide n p = few-digits 19 n (omega (arith, p.fits))

-- a signed number of 32 bits has ten, and a minus
pub few-int : (z : ℤ) → SFits w32 z → length (signed z) ≤ 11
few-int z p = few-places 9 z (omega (arith, size z, p.sfits))
