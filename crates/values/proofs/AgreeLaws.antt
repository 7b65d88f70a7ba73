-- Lists that agree by a test of equality are equal, and each agrees with itself. Assumes nothing.
use mathlib.Core.Path.{◌≡◌, refl, ap₂}
use mathlib.Core.Bool.{Bool}
use mathlib.Core.List.{List, [], ◌∷◌}
use lib.Dec.{T}
use Rattle.values.specs.Lists.{agree}
use Rattle.values.proofs.Bools.{and_l, and_r, and_in}

module _ {A : Type 0} (p : A → A → Bool) where
  pub agree_eq : ((a b : A) → T (p a b) → a ≡ b) → (k l : List A) → T (agree p k l) → k ≡ l
  agree_eq e [] [] h = refl
  agree_eq e [] (b ∷ l) h = absurd h
  agree_eq e (a ∷ k) [] h = absurd h
  agree_eq e (a ∷ k) (b ∷ l) h = ap₂ ◌∷◌ (e a b (and_l (p a b) (agree p k l) h)) (agree_eq e k l (and_r (p a b) (agree p k l) h))

  pub agree_refl : ((a : A) → T (p a a)) → (l : List A) → T (agree p l l)
  agree_refl e [] = tt
  agree_refl e (a ∷ l) = and_in (p a a) (agree p l l) (e a) (agree_refl e l)
