-- Sum, least and largest of a list of Ints, taken one by one.
use Prim.Native.Nat.{ℕ, ◌≤◌, ◌<◌, ◌+◌, ◌*◌}
use native.Mathlib.Omega.{arith}
use mathlib.Core.Path.{◌≡◌, ap, ◌∙◌}
use lib.IntN.{ℤ, ◌+ℤ◌}
use lib.Signed.{mag}
use mir.Syntax.{w32, w64}
use mir.Val.{SFits, of_z, to_z}
use Rattle.values.proofs.Ints.{back, mag_add, widened}

-- an i32 as the machine's tests read it
abbrev read : ℤ → ℤ
read z = to_z w32 (of_z w32 z)

-- the bits that hold the next choice
pub choice_next : (f : ℤ → ℤ → ℤ) (x z r : ℤ) → SFits w32 z → SFits w32 r → r ≡ f x (read z) → read r ≡ f x z
choice_next f x z r p q e = back w32 r q ∙ e ∙ ap (f x) (back w32 z p)

-- a sum of fewer than sixteen Ints and one more; y is the Int at 64 bits
module _ (x y z : ℤ) (i : ℕ) (p : SFits w32 z) (small : mag x ≤ i * 2147483648) where
  pub sum_next : y ≡ read z → i < 16 → to_z w64 (of_z w64 (x +ℤ to_z w64 (of_z w64 y))) ≡ x +ℤ z
  sum_next e few =
      let q : y ≡ z = e ∙ back w32 z p in
      rw (q, back w64 z (widened z p)) (back w64 (x +ℤ z) (record { sfits = omega (arith, mag_add x z, p.sfits) }))

  pub sum_small : mag (x +ℤ z) ≤ (i + 1) * 2147483648
  sum_small = omega (arith, mag_add x z, p.sfits)
