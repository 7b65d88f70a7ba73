-- The part of an array that is in use, seen as a list (`firsts`): its length, its places, stores behind it and in it, and a function of its elements.
use Prim.Native.Nat.{ℕ, zero, suc, ◌+◌, ◌<◌, ◌≤◌}
use mathlib.Core.Path.{◌≡◌, refl, ap, ap₂}
use mathlib.Core.Bool.{Bool, ◌&&◌, ◌||◌}
use mathlib.Core.List.{List, [], ◌∷◌, ◌++◌, map}
use native.Mathlib.Omega.{arith}
use native.Mathlib.Numerals.{add-one}
use lib.Dec.{T}
use lib.ListN.{length, take, drop, get_or, set}
use Rattle.values.specs.Lists.{firsts}
use Rattle.std.specs.List.{list_all, list_any}
use Rattle.values.proofs.Bools.{and_l, and_r}

module _ {A B : Type 0} (f : A → B) (z : A) where
  -- as long as the count says
  pub length-firsts : (n : ℕ) (l : List A) → length (firsts f z n l) ≡ n
  length-firsts zero l = refl
  length-firsts (suc n) [] = ap suc (length-firsts n [])
  length-firsts (suc n) (a ∷ l) = ap suc (length-firsts n l)

  -- what stands at a place in use, and the rest after it
  pub firsts_cons : (n : ℕ) (l : List A) (i : ℕ) → i < n → drop i (firsts f z n l) ≡ f (get_or l i z) ∷ drop (i + 1) (firsts f z n l)
  firsts_cons n l i h = rw add-one (go n l i h)
    where
      go : (m : ℕ) (k : List A) (j : ℕ) → j < m → drop j (firsts f z m k) ≡ f (get_or k j z) ∷ drop (suc j) (firsts f z m k)
      go zero k j h = absurd (omega arith)
      go (suc m) [] zero h = refl
      go (suc m) (a ∷ k) zero h = refl
      go (suc m) [] (suc j) h = go m [] j (omega arith)
      go (suc m) (a ∷ k) (suc j) h = go m k j (omega arith)

  pub firsts_at : (n : ℕ) (l : List A) (i : ℕ) (d : B) → i < n → get_or (firsts f z n l) i d ≡ f (get_or l i z)
  firsts_at zero l i d h = absurd (omega arith)
  firsts_at (suc n) [] zero d h = refl
  firsts_at (suc n) (a ∷ l) zero d h = refl
  firsts_at (suc n) [] (suc i) d h = firsts_at n [] i d (omega arith)
  firsts_at (suc n) (a ∷ l) (suc i) d h = firsts_at n l i d (omega arith)

  -- at the end nothing is left
  pub firsts_end : (n : ℕ) (l : List A) (i : ℕ) → n ≤ i → drop i (firsts f z n l) ≡ []
  firsts_end zero l zero h = refl
  firsts_end zero l (suc i) h = refl
  firsts_end (suc n) l zero h = absurd (omega arith)
  firsts_end (suc n) [] (suc i) h = firsts_end n [] i (omega arith)
  firsts_end (suc n) (a ∷ l) (suc i) h = firsts_end n l i (omega arith)

  -- one more in use
  pub firsts-next : (n : ℕ) (l : List A) → firsts f z (n + 1) l ≡ firsts f z n l ++ (f (get_or l n z) ∷ [])
  firsts-next n l = rw add-one (go n l)
    where
      go : (m : ℕ) (k : List A) → firsts f z (suc m) k ≡ firsts f z m k ++ (f (get_or k m z) ∷ [])
      go zero [] = refl
      go zero (a ∷ k) = refl
      go (suc m) [] = ap (f z ∷◌) (go m [])
      go (suc m) (a ∷ k) = ap (f a ∷◌) (go m k)

  -- a store at a place that is not in use
  pub firsts-past : (n : ℕ) (l : List A) (i : ℕ) (a : A) → n ≤ i → firsts f z n (set l i a) ≡ firsts f z n l
  firsts-past zero l i a h = refl
  firsts-past (suc n) [] i a h = refl
  firsts-past (suc n) (b ∷ l) zero a h = absurd (omega arith)
  firsts-past (suc n) (b ∷ l) (suc i) a h = ap (f b ∷◌) (firsts-past n l i a (omega arith))

  -- one more, stored behind those in use
  pub firsts_push : (n : ℕ) (l : List A) (a : A) → n < length l → firsts f z (n + 1) (set l n a) ≡ firsts f z n l ++ (f a ∷ [])
  firsts_push n l a h = rw add-one (go n l h)
    where
      go : (m : ℕ) (k : List A) → m < length k → firsts f z (suc m) (set k m a) ≡ firsts f z m k ++ (f a ∷ [])
      go m [] h = absurd (omega arith)
      go zero (b ∷ k) h = refl
      go (suc m) (b ∷ k) h = ap (f b ∷◌) (go m k (omega arith))

  -- one changed in its place
  pub firsts-set : (n : ℕ) (l : List A) (i : ℕ) (a : A) → i < length l → firsts f z n (set l i a) ≡ set (firsts f z n l) i (f a)
  firsts-set zero l i a h = refl
  firsts-set (suc n) [] i a h = absurd (omega arith)
  firsts-set (suc n) (b ∷ l) zero a h = refl
  firsts-set (suc n) (b ∷ l) (suc i) a h = ap (f b ∷◌) (firsts-set n l i a (omega arith))

-- what is in use, as a part of the array
pub take_firsts : {A : Type 0} (z : A) (n : ℕ) (l : List A) → n ≤ length l → take n l ≡ firsts (λ (a : A). a) z n l
take_firsts z zero l h = refl
take_firsts z (suc n) [] h = absurd (omega arith)
take_firsts z (suc n) (a ∷ l) h = ap (a ∷◌) (take_firsts z n l (omega arith))

-- a function of what is in use
pub map-firsts : {A B C : Type 0} (g : B → C) (f : A → B) (z : A) (n : ℕ) (l : List A) → map g (firsts f z n l) ≡ firsts (λ (a : A). g (f a)) z n l
map-firsts g f z zero l = refl
map-firsts g f z (suc n) [] = ap (g (f z) ∷◌) (map-firsts g f z n [])
map-firsts g f z (suc n) (a ∷ l) = ap (g (f a) ∷◌) (map-firsts g f z n l)

-- two arrays with the same to be seen at each place in use
pub firsts_same : {A B C : Type 0} (f : A → C) (y : A) (g : B → C) (z : B) (n : ℕ) (k : List A) (l : List B) →
    ((i : ℕ) → i < n → f (get_or k i y) ≡ g (get_or l i z)) → firsts f y n k ≡ firsts g z n l
firsts_same f y g z zero k l h = refl
firsts_same f y g z (suc n) [] [] h = ap₂ ◌∷◌ (h 0 (omega arith)) (firsts_same f y g z n [] [] (λ i q. h (suc i) (omega arith)))
firsts_same f y g z (suc n) [] (b ∷ l) h = ap₂ ◌∷◌ (h 0 (omega arith)) (firsts_same f y g z n [] l (λ i q. h (suc i) (omega arith)))
firsts_same f y g z (suc n) (a ∷ k) [] h = ap₂ ◌∷◌ (h 0 (omega arith)) (firsts_same f y g z n k [] (λ i q. h (suc i) (omega arith)))
firsts_same f y g z (suc n) (a ∷ k) (b ∷ l) h = ap₂ ◌∷◌ (h 0 (omega arith)) (firsts_same f y g z n k l (λ i q. h (suc i) (omega arith)))

-- what holds of all that is in use holds at each place
pub all_firsts : {A B : Type 0} (p : B → Bool) (f : A → B) (z : A) (n : ℕ) (l : List A) (i : ℕ) → i < n → T (list_all p (firsts f z n l)) → T (p (f (get_or l i z)))
all_firsts p f z zero l i h t = absurd (omega arith)
all_firsts p f z (suc n) [] zero h t = and_l (p (f z)) (list_all p (firsts f z n [])) t
all_firsts p f z (suc n) (a ∷ l) zero h t = and_l (p (f a)) (list_all p (firsts f z n l)) t
all_firsts p f z (suc n) [] (suc i) h t = all_firsts p f z n [] i (omega arith) (and_r (p (f z)) (list_all p (firsts f z n [])) t)
all_firsts p f z (suc n) (a ∷ l) (suc i) h t = all_firsts p f z n l i (omega arith) (and_r (p (f a)) (list_all p (firsts f z n l)) t)

-- ── the first `n` of an array that has as many ──

module _ {A B : Type 0} (f : A → B) (z : A) where
  pub firsts_taken : (n : ℕ) (l : List A) → n ≤ length l → firsts f z n l ≡ map f (take n l)
  firsts_taken zero l h = refl
  firsts_taken (suc n) [] h = absurd (omega arith)
  firsts_taken (suc n) (a ∷ l) h = ap (f a ∷◌) (firsts_taken n l (omega arith))

  module _ (p : B → Bool) where
    pub all_taken : (n : ℕ) (l : List A) → n ≤ length l → list_all p (firsts f z n l) ≡ list_all (λ a. p (f a)) (take n l)
    all_taken zero l h = refl
    all_taken (suc n) [] h = absurd (omega arith)
    all_taken (suc n) (a ∷ l) h = ap (p (f a) &&◌) (all_taken n l (omega arith))

    pub any_taken : (n : ℕ) (l : List A) → n ≤ length l → list_any p (firsts f z n l) ≡ list_any (λ a. p (f a)) (take n l)
    any_taken zero l h = refl
    any_taken (suc n) [] h = absurd (omega arith)
    any_taken (suc n) (a ∷ l) h = ap (p (f a) ||◌) (any_taken n l (omega arith))
