-- Arrays, seen through a function of their elements: lengths and stores.
use Prim.Native.Nat.{ℕ, zero, suc}
use mathlib.Core.Path.{◌≡◌, refl, sym, ap, ◌∙◌}
use mathlib.Core.List.{List, [], ◌∷◌, map}
use lib.ListN.{length, set, length-map}

-- the length of an array of structs: it is known of the machine values
pub long : {A B : Type 0} (f : A → B) (l : List A) (n : ℕ) → length (map f l) ≡ n → length l ≡ n
long f l n e = sym (length-map l f) ∙ e

pub map-set : {A B : Type 0} (f : A → B) (l : List A) (i : ℕ) (a : A) → map f (set l i a) ≡ set (map f l) i (f a)
map-set f [] i a = refl
map-set f (x ∷ l) zero a = refl
map-set {B = B} f (x ∷ l) (suc i) a = ap (λ (k : List B). f x ∷ k) (map-set f l i a)
