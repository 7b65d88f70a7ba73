-- The place of the first pair that fails, if there is one, tells whether two lists agree and how many places are looked at. Assumes nothing.
use Prim.Native.Nat.{ℕ, suc, ◌+◌, min}
use mathlib.Core.Path.{◌≡◌, refl, sym, ap, ◌∙◌}
use mathlib.Core.Bool.{Bool, true, false, not, cond, ◌&&◌}
use mathlib.Core.List.{List, [], ◌∷◌}
use native.Mathlib.Omega.{arith}
use lib.Dec.{eqb}
use lib.ListN.{length}
use Rattle.std.specs.Prelude.{Option, None, Some}
use Rattle.std.specs.List.{zip, position, position_from}
use Rattle.std.proofs.lemmas.Iterator.Adapters.{position_from-zero}
use Rattle.values.specs.Lists.{agree, look_on, looked_at}

-- whether lists of `m` and of `n` agree
abbrev pub agree_by : Option ℕ → ℕ → ℕ → Bool
agree_by None m n = eqb m n
agree_by (Some at) m n = false

-- how many places are looked at, where the first is numbered `i`
abbrev pub looked_by : Option ℕ → ℕ → ℕ → ℕ → ℕ
looked_by None i m n = i + min m n
looked_by (Some at) i m n = at + 1

agree_more : (o : Option ℕ) (m n : ℕ) → agree_by o m n ≡ agree_by o (suc m) (suc n)
agree_more None m n = grind arith
agree_more (Some at) m n = refl

looked_more : (o : Option ℕ) (i m n : ℕ) → looked_by o (i + 1) m n ≡ looked_by o i (suc m) (suc n)
looked_more None i m n = omega arith
looked_more (Some at) i m n = refl

module _ {A B : Type 0} (p : A → B → Bool) where
  -- the place of the first pair that fails, where the first is numbered `i`
  abbrev pub failing : ℕ → List A → List B → Option ℕ
  failing i k l = position_from (λ (x : A × B). not (p x.0 x.1)) i (zip k l)

  pub agree_is : (i : ℕ) (k : List A) (l : List B) → agree p k l ≡ agree_by (failing i k l) (length k) (length l)
  agree_is i [] [] = refl
  agree_is i [] (b ∷ l) = grind arith
  agree_is i (a ∷ k) [] = grind arith
  agree_is i (a ∷ k) (b ∷ l) = go (p a b) (agree_is (i + 1) k l)
    where
      go : (t : Bool) → agree p k l ≡ agree_by (failing (i + 1) k l) (length k) (length l) →
          (t && agree p k l) ≡ agree_by (cond (not t) (Some i) (failing (i + 1) k l)) (suc (length k)) (suc (length l))
      go true e = e ∙ agree_more (failing (i + 1) k l) (length k) (length l)
      go false e = refl

  pub looked_is : (i : ℕ) (k : List A) (l : List B) → i + looked_at p k l ≡ looked_by (failing i k l) i (length k) (length l)
  looked_is i [] [] = omega arith
  looked_is i [] (b ∷ l) = omega arith
  looked_is i (a ∷ k) [] = omega arith
  looked_is i (a ∷ k) (b ∷ l) = go (p a b) (looked_is (i + 1) k l)
    where
      go : (t : Bool) → (i + 1) + looked_at p k l ≡ looked_by (failing (i + 1) k l) (i + 1) (length k) (length l) →
          i + look_on t (looked_at p k l) ≡ looked_by (cond (not t) (Some i) (failing (i + 1) k l)) i (suc (length k)) (suc (length l))
      go true e = omega (arith, e, looked_more (failing (i + 1) k l) i (length k) (length l))
      go false e = refl

  module _ (k : List A) (l : List B) {o : Option ℕ} (found : o ≡ position (λ (x : A × B). not (p x.0 x.1)) (zip k l)) where
    counted : o ≡ failing 0 k l
    counted = found ∙ position_from-zero (λ (x : A × B). not (p x.0 x.1)) (zip k l)

    pub agree_at : {b : Bool} (q : Option ℕ) → o ≡ q → b ≡ agree_by q (length k) (length l) → b ≡ agree p k l
    agree_at q e h = h ∙ ap (λ r. agree_by r (length k) (length l)) (sym e ∙ counted) ∙ sym (agree_is 0 k l)

    pub looked-at : {n : ℕ} (q : Option ℕ) → o ≡ q → n ≡ looked_by q 0 (length k) (length l) → n ≡ looked_at p k l
    looked-at q e h = omega (arith, h, ap (λ r. looked_by r 0 (length k) (length l)) (sym e ∙ counted), looked_is 0 k l)
