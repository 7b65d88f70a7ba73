-- Two lists of different lengths do not agree.
use Prim.Native.Nat.{ℕ, suc}
use mathlib.Core.Path.{◌≡◌, refl, sym, ap, ◌∙◌}
use mathlib.Core.Bool.{Bool, true, false, ◌&&◌}
use mathlib.Core.List.{List, [], ◌∷◌}
use lib.ListN.{length}
use Rattle.values.specs.Lists.{agree, firsts}
use Rattle.values.proofs.Firsts.{length-firsts}

module _ {A B : Type 0} (p : A → B → Bool) where
  unlike : (k : List A) (l : List B) → (length k ≡ length l → ⊥) → false ≡ agree p k l
  unlike [] [] h = absurd (h refl)
  unlike [] (b ∷ l) h = refl
  unlike (a ∷ k) [] h = refl
  unlike (a ∷ k) (b ∷ l) h = go (p a b) (unlike k l (λ e. h (ap suc e)))
    where
      go : (t : Bool) → false ≡ agree p k l → false ≡ (t && agree p k l)
      go true e = e
      go false e = refl

  -- the parts in use of two arrays
  pub firsts-unlike : {C D : Type 0} (f : C → A) (y : C) (g : D → B) (z : D) (m n : ℕ) (k : List C) (l : List D)
      → (m ≡ n → ⊥) → false ≡ agree p (firsts f y m k) (firsts g z n l)
  firsts-unlike f y g z m n k l h = unlike (firsts f y m k) (firsts g z n l) (λ e. h (sym (length-firsts f y m k) ∙ e ∙ length-firsts g z n l))
