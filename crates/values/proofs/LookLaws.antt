-- How many places of two lists are looked at (`looked_at`), beside whether the lists agree. Assumes nothing.
use Prim.Native.Nat.{ℕ, zero, suc, ◌≤◌, ◌<◌}
use mathlib.Core.Path.{◌≡◌, refl, ap, ap₂, ◌∙◌, subst}
use mathlib.Core.Bool.{Bool, true, false, cond, ◌&&◌}
use mathlib.Core.List.{List, [], ◌∷◌}
use native.Mathlib.Omega.{arith}
use borrow.Author.Tests.{ltb-true, ltb-false}
use lib.Dec.{T, ltb}
use lib.ListN.{length, get_or}
use Rattle.values.specs.Lists.{agree, look_on, looked_at, firsts}

module _ {A B : Type 0} (p : A → B → Bool) where
  -- no more than the first list has, and no more than the second
  pub looked-first : (k : List A) (l : List B) → looked_at p k l ≤ length k
  looked-first [] l = omega arith
  looked-first (a ∷ k) [] = omega arith
  looked-first (a ∷ k) (b ∷ l) = go (p a b) (looked-first k l)
    where
      go : (t : Bool) → looked_at p k l ≤ length k → look_on t (looked_at p k l) ≤ suc (length k)
      go true h = omega arith
      go false h = omega arith

  pub looked-second : (k : List A) (l : List B) → looked_at p k l ≤ length l
  looked-second [] l = omega arith
  looked-second (a ∷ k) [] = omega arith
  looked-second (a ∷ k) (b ∷ l) = go (p a b) (looked-second k l)
    where
      go : (t : Bool) → looked_at p k l ≤ length l → look_on t (looked_at p k l) ≤ suc (length l)
      go true h = omega arith
      go false h = omega arith

  -- lists that agree are looked at whole
  pub looked-whole : (k : List A) (l : List B) → agree p k l ≡ true → looked_at p k l ≡ length k
  looked-whole [] l h = refl
  looked-whole (a ∷ k) [] h = cc
  looked-whole (a ∷ k) (b ∷ l) h = go (p a b) (looked-whole k l) h
    where
      go : (t : Bool) → (agree p k l ≡ true → looked_at p k l ≡ length k) → (t && agree p k l) ≡ true → look_on t (looked_at p k l) ≡ suc (length k)
      go true whole h = ap suc (whole h)
      go false whole h = cc

  module _ (y : A) (z : B) where
    -- each place looked at but the last one passes; `y` and `z` are what is read past an end
    pub looked-before : (k : List A) (l : List B) (i : ℕ) → suc i < looked_at p k l → p (get_or k i y) (get_or l i z) ≡ true
    looked-before [] l i h = absurd (omega arith)
    looked-before (a ∷ k) [] i h = absurd (omega arith)
    looked-before (a ∷ k) (b ∷ l) zero h = go (p a b) refl h
      where
        go : (t : Bool) → p a b ≡ t → 1 < look_on t (looked_at p k l) → p a b ≡ true
        go true e h = e
        go false e h = absurd (omega arith)
    looked-before (a ∷ k) (b ∷ l) (suc i) h = go (p a b) (looked-before k l i) h
      where
        go : (t : Bool) → (suc i < looked_at p k l → p (get_or k i y) (get_or l i z) ≡ true) → suc (suc i) < look_on t (looked_at p k l) → p (get_or k i y) (get_or l i z) ≡ true
        go true rest h = rest (omega arith)
        go false rest h = absurd (omega arith)

    -- the last of the first `n` places fails
    pub record Failing (k : List A) (l : List B) (n : ℕ) : Type 0 where
      pub at : ℕ
      pub counts : n ≡ suc at
      pub fails : p (get_or k at y) (get_or l at z) ≡ false

    failing-first : (a : A) (k : List A) (b : B) (l : List B) → p a b ≡ false → Failing (a ∷ k) (b ∷ l) 1
    failing-first a k b l e = record { at = 0; counts = refl; fails = e }

    failing-next : (a : A) (k : List A) (b : B) (l : List B) {n : ℕ} → Failing k l n → Failing (a ∷ k) (b ∷ l) (suc n)
    failing-next a k b l f = record { at = suc f.at; counts = ap suc f.counts; fails = f.fails }

    -- so does the last one looked at where places of both are left,
    pub looked-left : (k : List A) (l : List B) → looked_at p k l < length k → looked_at p k l < length l → Failing k l (looked_at p k l)
    looked-left [] l h i = absurd (omega arith)
    looked-left (a ∷ k) [] h i = absurd (omega arith)
    looked-left (a ∷ k) (b ∷ l) h i = go (p a b) refl (looked-left k l) h i
      where
        go : (t : Bool) → p a b ≡ t → (looked_at p k l < length k → looked_at p k l < length l → Failing k l (looked_at p k l)) →
            look_on t (looked_at p k l) < suc (length k) → look_on t (looked_at p k l) < suc (length l) → Failing (a ∷ k) (b ∷ l) (look_on t (looked_at p k l))
        go true e rest h i = failing-next a k b l (rest (omega arith) (omega arith))
        go false e rest h i = failing-first a k b l e

    -- and where lists of one length do not agree
    pub looked-early : (k : List A) (l : List B) → length k ≡ length l → agree p k l ≡ false → Failing k l (looked_at p k l)
    looked-early [] [] same h = absurd (subst T h tt)
    looked-early [] (b ∷ l) same h = absurd (omega arith)
    looked-early (a ∷ k) [] same h = absurd (omega arith)
    looked-early (a ∷ k) (b ∷ l) same h = go (p a b) refl (looked-early k l (omega arith)) h
      where
        go : (t : Bool) → p a b ≡ t → (agree p k l ≡ false → Failing k l (looked_at p k l)) → (t && agree p k l) ≡ false → Failing (a ∷ k) (b ∷ l) (look_on t (looked_at p k l))
        go true e rest h = failing-next a k b l (rest h)
        go false e rest h = failing-first a k b l e

-- two pairs of lists whose tests answer alike, place by place: as many places are looked at, and the pairs agree alike
module _ {A B C D : Type 0} (p : A → B → Bool) (q : C → D → Bool) where
  pub looked-alike : (k : List A) (l : List B) (k' : List C) (l' : List D) (y : A) (z : B) (y' : C) (z' : D) → length k ≡ length k' → length l ≡ length l' →
      ((i : ℕ) → i < length k → i < length l → p (get_or k i y) (get_or l i z) ≡ q (get_or k' i y') (get_or l' i z')) → looked_at p k l ≡ looked_at q k' l'
  looked-alike [] l [] l' y z y' z' ek el h = refl
  looked-alike [] l (c ∷ k') l' y z y' z' ek el h = absurd (omega arith)
  looked-alike (a ∷ k) l [] l' y z y' z' ek el h = absurd (omega arith)
  looked-alike (a ∷ k) [] (c ∷ k') [] y z y' z' ek el h = refl
  looked-alike (a ∷ k) [] (c ∷ k') (d ∷ l') y z y' z' ek el h = absurd (omega arith)
  looked-alike (a ∷ k) (b ∷ l) (c ∷ k') [] y z y' z' ek el h = absurd (omega arith)
  looked-alike (a ∷ k) (b ∷ l) (c ∷ k') (d ∷ l') y z y' z' ek el h =
      ap₂ look_on (h 0 (omega arith) (omega arith)) (looked-alike k l k' l' y z y' z' (omega arith) (omega arith) (λ i r s. h (suc i) (omega arith) (omega arith)))

  pub agree-alike : (k : List A) (l : List B) (k' : List C) (l' : List D) (y : A) (z : B) (y' : C) (z' : D) → length k ≡ length k' → length l ≡ length l' →
      ((i : ℕ) → i < length k → i < length l → p (get_or k i y) (get_or l i z) ≡ q (get_or k' i y') (get_or l' i z')) → agree p k l ≡ agree q k' l'
  agree-alike [] [] [] [] y z y' z' ek el h = refl
  agree-alike [] [] [] (d ∷ l') y z y' z' ek el h = absurd (omega arith)
  agree-alike [] (b ∷ l) [] [] y z y' z' ek el h = absurd (omega arith)
  agree-alike [] (b ∷ l) [] (d ∷ l') y z y' z' ek el h = refl
  agree-alike [] l (c ∷ k') l' y z y' z' ek el h = absurd (omega arith)
  agree-alike (a ∷ k) l [] l' y z y' z' ek el h = absurd (omega arith)
  agree-alike (a ∷ k) [] (c ∷ k') [] y z y' z' ek el h = refl
  agree-alike (a ∷ k) [] (c ∷ k') (d ∷ l') y z y' z' ek el h = absurd (omega arith)
  agree-alike (a ∷ k) (b ∷ l) (c ∷ k') [] y z y' z' ek el h = absurd (omega arith)
  agree-alike (a ∷ k) (b ∷ l) (c ∷ k') (d ∷ l') y z y' z' ek el h =
      ap₂ ◌&&◌ (h 0 (omega arith) (omega arith)) (agree-alike k l k' l' y z y' z' (omega arith) (omega arith) (λ i r s. h (suc i) (omega arith) (omega arith)))

-- the parts in use of two arrays: what stands in one past the end of the other is not looked at
module _ {A B C D : Type 0} (p : A → B → Bool) (f : C → A) (y : C) (g : D → B) (z : D) where
  pub looked_shorter : (m n : ℕ) (k : List C) (l : List D) → m ≤ n → looked_at p (firsts f y m k) (firsts g z m l) ≡ looked_at p (firsts f y m k) (firsts g z n l)
  looked_shorter zero n k l h = refl
  looked_shorter (suc m) zero k l h = absurd (omega arith)
  looked_shorter (suc m) (suc n) [] [] h = ap (look_on (p (f y) (g z))) (looked_shorter m n [] [] (omega arith))
  looked_shorter (suc m) (suc n) [] (d ∷ l) h = ap (look_on (p (f y) (g d))) (looked_shorter m n [] l (omega arith))
  looked_shorter (suc m) (suc n) (c ∷ k) [] h = ap (look_on (p (f c) (g z))) (looked_shorter m n k [] (omega arith))
  looked_shorter (suc m) (suc n) (c ∷ k) (d ∷ l) h = ap (look_on (p (f c) (g d))) (looked_shorter m n k l (omega arith))

  pub looked-longer : (m n : ℕ) (k : List C) (l : List D) → n ≤ m → looked_at p (firsts f y n k) (firsts g z n l) ≡ looked_at p (firsts f y m k) (firsts g z n l)
  looked-longer zero zero k l h = refl
  looked-longer (suc m) zero [] l h = refl
  looked-longer (suc m) zero (c ∷ k) l h = refl
  looked-longer zero (suc n) k l h = absurd (omega arith)
  looked-longer (suc m) (suc n) [] [] h = ap (look_on (p (f y) (g z))) (looked-longer m n [] [] (omega arith))
  looked-longer (suc m) (suc n) [] (d ∷ l) h = ap (look_on (p (f y) (g d))) (looked-longer m n [] l (omega arith))
  looked-longer (suc m) (suc n) (c ∷ k) [] h = ap (look_on (p (f c) (g z))) (looked-longer m n k [] (omega arith))
  looked-longer (suc m) (suc n) (c ∷ k) (d ∷ l) h = ap (look_on (p (f c) (g d))) (looked-longer m n k l (omega arith))

  -- up to the shorter one
  pub looked-both : (m n s : ℕ) (k : List C) (l : List D) → s ≡ cond (ltb m n) m n → looked_at p (firsts f y s k) (firsts g z s l) ≡ looked_at p (firsts f y m k) (firsts g z n l)
  looked-both m n s k l h = go (ltb m n) refl h
    where
      go : (b : Bool) → ltb m n ≡ b → s ≡ cond b m n → looked_at p (firsts f y s k) (firsts g z s l) ≡ looked_at p (firsts f y m k) (firsts g z n l)
      go true q e = ap (λ (i : ℕ). looked_at p (firsts f y i k) (firsts g z i l)) e ∙ looked_shorter m n k l (omega (arith, ltb-true m n q))
      go false q e = ap (λ (i : ℕ). looked_at p (firsts f y i k) (firsts g z i l)) e ∙ looked-longer m n k l (ltb-false m n q)
