-- One pick as two bytes, lent or held back. Assumes nothing.
use Prim.Native.Nat.{ℕ, ◌≤◌}
use mathlib.Core.Path.{◌≡◌, refl, sym, subst}
use mathlib.Core.Bool.{Bool, true, false, cond}
use mathlib.Core.List.{List, [], ◌∷◌}
use native.Mathlib.Omega.{arith}
use lib.ListN.{length, take}
use lib.Seq.{length-take-le}
use Rattle.nets.specs.declared.Pick.{Pick}
use Rattle.step_bytes.specs.PickBytes.{picks_in}

abbrev pub bytes_of : Pick → List ℕ
bytes_of p = p.thread ∷ p.row ∷ []

module _ (p : Pick) {n : ℕ} where
  -- as many bytes as asked for
  pub long_of : n ≤ 2 → n ≡ length (take n (bytes_of p))
  long_of h = sym (length-take-le n (bytes_of p) h)

  -- a pick is lent only if the test said so
  pub sure_of : (b : Bool) → (b ≡ false → n ≡ 0) → 2 ≤ length (take n (bytes_of p)) → b ≡ true
  sure_of true none h = refl
  sure_of false none h = absurd (omega (arith, subst (λ (m : ℕ). 2 ≤ length (take m (bytes_of p))) (none refl) h))

  pub picks_of : (b : Bool) → n ≡ cond b 2 0 → picks_in (take n (bytes_of p)) ≡ cond b (p ∷ []) []
  picks_of true e = subst (λ (m : ℕ). picks_in (take m (bytes_of p)) ≡ p ∷ []) (sym e) refl
  picks_of false e = subst (λ (m : ℕ). picks_in (take m (bytes_of p)) ≡ []) (sym e) refl
