-- All flags of an array's elements, set by `q` of `h` of each; `q` fails past the end.
use Prim.Native.Nat.{ℕ, ◌≤◌}
use mathlib.Core.Path.{◌≡◌, refl, sym, ap, ◌∙◌, subst}
use mathlib.Core.Bool.{Bool, true, false, ◌&&◌}
use mathlib.Core.List.{List, map}
use borrow.Author.Tests.{ltb-false}
use lib.Dec.{ltb}
use lib.ListN.{length, get_or, get_or-map, get_or-eq_default}
use Rattle.values.proofs.FlagLaws.{Flagged}

pub flags-all : {A B : Type 0} (q : B → Bool) (h : A → B) (z : A) (vs : List A) {n : ℕ} {fs : List Bool} → q (h z) ≡ false → length vs ≡ n →
    Flagged (λ (k : ℕ). q (h (get_or vs k z))) n n fs → (k : ℕ) → get_or fs k false ≡ q (get_or (map h vs) k (h z))
flags-all {A} q h z vs {n} e r inv k = inv.flags k ∙ go (ltb k n) refl ∙ ap q (sym (get_or-map h vs k z))
  where
    go : (t : Bool) → ltb k n ≡ t → (t && q (h (get_or vs k z))) ≡ q (h (get_or vs k z))
    go true m = refl
    go false m = sym (ap (λ (a : A). q (h a)) (get_or-eq_default vs z (subst (λ (j : ℕ). j ≤ k) (sym r) (ltb-false k n m))) ∙ e)
