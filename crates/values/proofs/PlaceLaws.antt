-- Searches: the first element that passes a test, its place, and whether any passes; and tests of every element. `t` is what the test of an
-- element answered, `b` or `w` what the whole comes to. Assumes nothing.
use Prim.Native.Nat.{ℕ, zero, suc, ◌+◌, ◌<◌, ◌≤◌}
use mathlib.Core.Path.{◌≡◌, refl, ap, sym, ◌∙◌, subst}
use mathlib.Core.Bool.{Bool, true, false}
use mathlib.Core.List.{List, [], ◌∷◌}
use Rattle.std.specs.Prelude.{Option, None, Some, is_some, cond}
use native.Mathlib.Omega.{arith}
use lib.Dec.{T, eqb, ltb, leb-suc-suc}
use lib.ListN.{length, drop, get_or}
use borrow.Author.Tests.{lt-ltb, eqb-true, eqb-false}
use Rattle.values.specs.Lists.{place_of, next_place, places}
use Rattle.std.specs.List.{find, list_all}
use Rattle.values.proofs.Bools.{and_l, and_r}

-- ── loops: what is left decides ──

-- the place of the first that passes
module _ {A : Type 0} (p : A → Bool) (xs : List A) (i : ℕ) (left : place_of p xs ≡ i + place_of p (drop i xs)) where
  module _ {x : A} {xs' : List A} {t : Bool} (e : drop i xs ≡ x ∷ xs') (q : t ≡ p x) where
    here : place_of p (drop i xs) ≡ next_place t (place_of p xs')
    here = ap (place_of p) e ∙ ap (λ (u : Bool). next_place u (place_of p xs')) (sym q)

    pub place_here : t ≡ true → i ≡ place_of p xs
    place_here h = let z : place_of p (drop i xs) ≡ 0 = here ∙ rw h in omega arith

    pub place-more : t ≡ false → place_of p xs ≡ i + 1 + place_of p xs'
    place-more h = let z : place_of p (drop i xs) ≡ suc (place_of p xs') = here ∙ rw h in omega arith

  pub place-ends : drop i xs ≡ [] → i ≡ place_of p xs
  place-ends e = let z : place_of p (drop i xs) ≡ 0 = ap (place_of p) e in omega arith

-- the first that passes
module _ {A : Type 0} (p : A → Bool) (w : Option A) {xs : List A} (left : find p xs ≡ w) where
  module _ {x : A} {xs' : List A} {t : Bool} (e : xs ≡ x ∷ xs') (q : t ≡ p x) where
    first-is : cond t (Some x) (find p xs') ≡ w
    first-is = ap (λ (u : Bool). cond u (Some x) (find p xs')) q ∙ sym (ap (find p) e) ∙ left

    pub find-here : t ≡ true → Some x ≡ w
    find-here h = sym (ap (λ (u : Bool). cond u (Some x) (find p xs')) h) ∙ first-is

    pub find-more : t ≡ false → find p xs' ≡ w
    find-more h = sym (ap (λ (u : Bool). cond u (Some x) (find p xs')) h) ∙ first-is

  pub find-ends : xs ≡ [] → None ≡ w
  find-ends e = sym (ap (find p) e) ∙ left

-- ── the place and what stands there ──

module _ {A : Type 0} (p : A → Bool) where
  -- found, or the place is past the end
  pub find-place : (l : List A) → ltb (place_of p l) (length l) ≡ is_some (find p l)
  find-place [] = refl
  find-place (a ∷ l) = go (p a) (find-place l)
    where
      go : (b : Bool) → ltb (place_of p l) (length l) ≡ is_some (find p l) → ltb (next_place b (place_of p l)) (suc (length l)) ≡ is_some (cond b (Some a) (find p l))
      go true ih = lt-ltb 0 (suc (length l)) (omega arith)
      go false ih = leb-suc-suc (suc (place_of p l)) (length l) ∙ ih

  -- what is found stands at the place
  pub place_found : (l : List A) (d : A) → place_of p l < length l → find p l ≡ Some (get_or l (place_of p l) d)
  place_found [] d h = absurd (omega arith)
  place_found (a ∷ l) d h = go (p a) h (place_found l d)
    where
      go : (b : Bool) → next_place b (place_of p l) < suc (length l) → (place_of p l < length l → find p l ≡ Some (get_or l (place_of p l) d)) →
          cond b (Some a) (find p l) ≡ Some (get_or (a ∷ l) (next_place b (place_of p l)) d)
      go true h ih = refl
      go false h ih = ih (omega arith)

-- ── tests ──

-- two tests that are the same at each element
pub all_same : {A : Type 0} (p q : A → Bool) (l : List A) → ((a : A) → p a ≡ q a) → list_all p l ≡ list_all q l
all_same p q [] h = refl
all_same p q (a ∷ l) h = rw (h a, all_same p q l h)

-- a test that holds at `n` numbers from `i` on holds at each of them
pub all-places : (p : ℕ → Bool) (i n : ℕ) → T (list_all p (places i n)) → (b : ℕ) → i ≤ b → b < i + n → T (p b)
all-places p i zero h b low high = absurd (omega arith)
all-places p i (suc n) h b low high = go (eqb i b) refl (λ k. all-places p (suc i) n (and_r (p i) (list_all p (places (suc i) n)) h) b k (omega arith))
  where
    go : (t : Bool) → eqb i b ≡ t → (suc i ≤ b → T (p b)) → T (p b)
    go true e ih = subst (λ (k : ℕ). T (p k)) (eqb-true i b e) (and_l (p i) (list_all p (places (suc i) n)) h)
    go false e ih = let d : i ≡ b → ⊥ = eqb-false i b e in ih (omega arith)
