-- Tests of each element of a list with those after it, and that no element passes, as loops make them: what is left decides. `t` is what the test
-- of this element answered, `b` what the whole comes to. Assumes nothing.
use mathlib.Core.Path.{◌≡◌, refl, sym, ap, ◌∙◌}
use mathlib.Core.Bool.{Bool, true, false, not, ◌&&◌, ◌||◌}
use mathlib.Core.List.{List, [], ◌∷◌}
use Rattle.std.specs.List.{list_all, list_any}
use Rattle.values.proofs.Bools.{and_swap}

module _ {A : Type 0} where
  -- each element passes with those after it
  abbrev pub tails : (A → List A → Bool) → List A → Bool
  tails p [] = true
  tails p (a ∷ l) = p a l && tails p l

  pub tails-and : (p q : A → List A → Bool) (l : List A) → tails (λ a r. p a r && q a r) l ≡ (tails p l && tails q l)
  tails-and p q [] = refl
  tails-and p q (a ∷ l) = ap (λ (t : Bool). (p a l && q a l) && t) (tails-and p q l) ∙ and_swap (p a l) (q a l) (tails p l) (tails q l)

  pub tails-all : (p : A → Bool) (l : List A) → tails (λ a r. p a) l ≡ list_all p l
  tails-all p [] = refl
  tails-all p (a ∷ l) = ap (λ (t : Bool). p a && t) (tails-all p l)

-- each element is tested with those after it
module _ {A : Type 0} (p : A → List A → Bool) (b : Bool) {xs : List A} (left : tails p xs ≡ b) where
  module _ {x : A} {xs' : List A} {t : Bool} (e : xs ≡ x ∷ xs') (q : t ≡ p x xs') where
    here : (t && tails p xs') ≡ b
    here = ap (λ (u : Bool). u && tails p xs') q ∙ sym (ap (tails p) e) ∙ left

    pub tails-more : t ≡ true → tails p xs' ≡ b
    tails-more h = sym (ap (λ (u : Bool). u && tails p xs') h) ∙ here

    pub tails-fails : t ≡ false → false ≡ b
    tails-fails h = sym (ap (λ (u : Bool). u && tails p xs') h) ∙ here

  pub tails-ends : xs ≡ [] → true ≡ b
  tails-ends e = sym (ap (tails p) e) ∙ left

-- no element passes
module _ {A : Type 0} (p : A → Bool) (b : Bool) {xs : List A} (left : not (list_any p xs) ≡ b) where
  module _ {x : A} {xs' : List A} {t : Bool} (e : xs ≡ x ∷ xs') (q : t ≡ p x) where
    here₂ : not (t || list_any p xs') ≡ b
    here₂ = ap (λ (u : Bool). not (u || list_any p xs')) q ∙ sym (ap (λ (l : List A). not (list_any p l)) e) ∙ left

    pub none_more : t ≡ false → not (list_any p xs') ≡ b
    none_more h = sym (ap (λ (u : Bool). not (u || list_any p xs')) h) ∙ here₂

    pub none_found : t ≡ true → false ≡ b
    none_found h = sym (ap (λ (u : Bool). not (u || list_any p xs')) h) ∙ here₂

  pub none-ends : xs ≡ [] → true ≡ b
  none-ends e = sym (ap (λ (l : List A). not (list_any p l)) e) ∙ left
