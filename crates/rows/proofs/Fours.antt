-- An array written out as four elements: its part in use, from the four places.
use Prim.Native.Nat.{ℕ, zero, suc, ◌<◌, ◌≤◌}
use mathlib.Core.Path.{◌≡◌, sym, ◌∙◌}
use mathlib.Core.List.{List, [], ◌∷◌, map}
use native.Mathlib.Omega.{arith}
use lib.ListN.{get_or}
use Rattle.values.specs.Lists.{firsts}
use Rattle.values.proofs.Firsts.{map-firsts, firsts_same}

-- seen through `f`, each element is `g` of what stands at its place in `l`
module _ {A B C D : Type 0} (f : A → D) (y : A) (g : C → D) (h : B → C) (z : B) (n : ℕ) (l : List B) {a b c d : A} where
  pub fours : n ≤ 4 → f a ≡ g (h (get_or l 0 z)) → f b ≡ g (h (get_or l 1 z)) → f c ≡ g (h (get_or l 2 z)) → f d ≡ g (h (get_or l 3 z))
      → firsts f y n (a ∷ b ∷ c ∷ d ∷ []) ≡ map g (firsts h z n l)
  fours short p q r s = firsts_same f y (λ (x : B). g (h x)) z n (a ∷ b ∷ c ∷ d ∷ []) l (λ i k. place i (omega arith)) ∙ sym (map-firsts g h z n l)
    where
      place : (i : ℕ) → i < 4 → f (get_or (a ∷ b ∷ c ∷ d ∷ []) i y) ≡ g (h (get_or l i z))
      place zero k = p
      place (suc zero) k = q
      place (suc (suc zero)) k = r
      place (suc (suc (suc zero))) k = s
      place (suc (suc (suc (suc i)))) k = absurd (omega arith)
