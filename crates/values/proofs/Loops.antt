-- Loops that test or fold: what is left decides. `t` is what the test of this element answered, `b` or `w` what the whole comes to.
use Prim.Native.Nat.{ℕ, ◌+◌}
use mathlib.Core.Path.{◌≡◌, sym, ap, ap₂, ◌∙◌}
use mathlib.Core.Bool.{Bool, true, false, ◌&&◌, ◌||◌}
use mathlib.Core.List.{List, [], ◌∷◌, foldl}
use native.Mathlib.Omega.{arith}
use Rattle.values.specs.Lists.{agree, look_on, looked_at}
use Rattle.std.specs.List.{list_all, list_any}

-- a test of every element
module _ {A : Type 0} (p : A → Bool) (b : Bool) {xs : List A} (left : list_all p xs ≡ b) where
  module _ {x : A} {xs' : List A} {t : Bool} (e : xs ≡ x ∷ xs') (q : t ≡ p x) where
    here : (t && list_all p xs') ≡ b
    here = ap (λ (u : Bool). u && list_all p xs') q ∙ sym (ap (list_all p) e) ∙ left

    pub all_more : t ≡ true → list_all p xs' ≡ b
    all_more h = sym (ap (λ (u : Bool). u && list_all p xs') h) ∙ here

    pub all-fails : t ≡ false → false ≡ b
    all-fails h = sym (ap (λ (u : Bool). u && list_all p xs') h) ∙ here

  pub all-ends : xs ≡ [] → true ≡ b
  all-ends e = sym (ap (list_all p) e) ∙ left

-- a search for an element that passes
module _ {A : Type 0} (p : A → Bool) (b : Bool) {xs : List A} (left : list_any p xs ≡ b) where
  module _ {x : A} {xs' : List A} {t : Bool} (e : xs ≡ x ∷ xs') (q : t ≡ p x) where
    here₁ : (t || list_any p xs') ≡ b
    here₁ = ap (λ (u : Bool). u || list_any p xs') q ∙ sym (ap (list_any p) e) ∙ left

    pub any-more : t ≡ false → list_any p xs' ≡ b
    any-more h = sym (ap (λ (u : Bool). u || list_any p xs') h) ∙ here₁

    pub any_found : t ≡ true → true ≡ b
    any_found h = sym (ap (λ (u : Bool). u || list_any p xs') h) ∙ here₁

  pub any-ends : xs ≡ [] → false ≡ b
  any-ends e = sym (ap (list_any p) e) ∙ left

-- two lists that are to agree
module _ {A B : Type 0} (p : A → B → Bool) (b : Bool) {xs : List A} {ys : List B} (left : agree p xs ys ≡ b) where
  module _ {x : A} {y : B} {xs' : List A} {ys' : List B} {t : Bool} (e : xs ≡ x ∷ xs') (e' : ys ≡ y ∷ ys') (q : t ≡ p x y) where
    here₂ : (t && agree p xs' ys') ≡ b
    here₂ = ap (λ (u : Bool). u && agree p xs' ys') q ∙ sym (ap₂ (agree p) e e') ∙ left

    pub agree-more : t ≡ true → agree p xs' ys' ≡ b
    agree-more h = sym (ap (λ (u : Bool). u && agree p xs' ys') h) ∙ here₂

    pub agree-fails : t ≡ false → false ≡ b
    agree-fails h = sym (ap (λ (u : Bool). u && agree p xs' ys') h) ∙ here₂

  pub agree-ends : xs ≡ [] → ys ≡ [] → true ≡ b
  agree-ends e e' = sym (ap₂ (agree p) e e') ∙ left

-- how many places of two lists are looked at: `n` so far
module _ {A B : Type 0} (p : A → B → Bool) (n w : ℕ) {xs : List A} {ys : List B} (left : n + looked_at p xs ys ≡ w) where
  module _ {x : A} {y : B} {xs' : List A} {ys' : List B} {t : Bool} (e : xs ≡ x ∷ xs') (e' : ys ≡ y ∷ ys') (q : t ≡ p x y) where
    here₃ : n + look_on t (looked_at p xs' ys') ≡ w
    here₃ = ap (λ (u : Bool). n + look_on u (looked_at p xs' ys')) q ∙ sym (ap₂ (λ k l. n + looked_at p k l) e e') ∙ left

    pub looked-more : t ≡ true → (n + 1) + looked_at p xs' ys' ≡ w
    looked-more h = omega (arith, sym (ap (λ (u : Bool). n + look_on u (looked_at p xs' ys')) h) ∙ here₃)

    pub looked-fails : t ≡ false → n + 1 ≡ w
    looked-fails h = sym (ap (λ (u : Bool). n + look_on u (looked_at p xs' ys')) h) ∙ here₃

  pub looked-ends : xs ≡ [] → ys ≡ [] → n ≡ w
  looked-ends e e' = omega (arith, sym (ap₂ (λ k l. n + looked_at p k l) e e') ∙ left)

-- a fold from the left
module _ {A B : Type 0} (f : B → A → B) (a : B) (w : B) {xs : List A} (left : foldl f a xs ≡ w) where
  pub fold_more : {a' : B} {x : A} {xs' : List A} → xs ≡ x ∷ xs' → a' ≡ f a x → foldl f a' xs' ≡ w
  fold_more {xs' = xs'} e h = ap (λ (b : B). foldl f b xs') h ∙ sym (ap (foldl f a) e) ∙ left

  pub fold_ends : xs ≡ [] → a ≡ w
  fold_ends e = sym (ap (foldl f a) e) ∙ left
