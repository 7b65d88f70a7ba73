-- What a cast of a signed number to bits without a sign keeps: a number that is not below zero.
use Prim.Native.Nat.{◌≤◌}
use native.Mathlib.Omega.{arith}
use mathlib.Core.Path.{◌≡◌, subst}
use mathlib.Core.Bool.{Bool, true, false}
use lib.Dec.{T}
use lib.IntN.{ℤ, pos, negsuc, nat_abs}
use lib.Signed.{non_neg, lt_z}
use mir.Syntax.{w32, w64}
use mir.Val.{SFits, Fits, of_z, to_z}
use Rattle.values.proofs.Ints.{back, size}

not-below : (z : ℤ) → lt_z z (pos 0) ≡ false → T (non_neg z)
not-below (pos n) e = tt
not-below (negsuc n) e = subst T e tt

-- `z as u64`, of 32 bits
pub above_cast : (z : ℤ) → SFits w32 z → lt_z (to_z w32 (of_z w32 z)) (pos 0) ≡ false → T (non_neg (to_z w32 (of_z w32 z))) × Fits w64 (nat_abs (to_z w32 (of_z w32 z)))
above_cast z p e = (not-below (to_z w32 (of_z w32 z)) e, rw (back w32 z p) (record { fits = omega (arith, size z) }))
