-- Signed numbers: what the machine's bits and tests say of the numbers. `mag z` is the measure of a range: z fits w where `mag z < 2 ^ hbits w`.
use Prim.Native.Nat.{ℕ, suc, ◌≤◌, ◌+◌, ◌-◌}
use native.Mathlib.Omega.{arith}
use mathlib.Core.Path.{◌≡◌, ap, ◌∙◌}
use mathlib.Core.Bool.{Bool, true, false, cond}
use lib.Dec.{T, leb, ltb, leb→le}
use lib.IntN.{ℤ, pos, negsuc, nat_abs, sub_ℕ, ◌+ℤ◌}
use lib.Signed.{mag}
use mir.Syntax.{Width, w32, w64}
use mir.Val.{SFits, of_z, to_z}
use mir.Facts.{to_z-of_z}
use Rattle.values.specs.Values.{in32}
use Rattle.values.proofs.Bools.{and_l}

-- a signed local holds bits: the number comes back where it fits
pub back : (w : Width) (z : ℤ) → SFits w z → to_z w (of_z w z) ≡ z
back w z p = to_z-of_z {w = w} {z = z} p

-- ── from 32 bits to 64 ──

pub widened : (z : ℤ) → SFits w32 z → SFits w64 z
widened z p = record { sfits = omega arith }

-- `z as i64`
abbrev pub wide : ℤ → ℤ
wide z = to_z w64 (of_z w64 (to_z w32 (of_z w32 z)))

pub wide_is : (z : ℤ) → SFits w32 z → wide z ≡ z
wide_is z p = ap (λ (y : ℤ). to_z w64 (of_z w64 y)) (back w32 z p) ∙ back w64 z (widened z p)

pub size : (z : ℤ) → nat_abs z ≤ suc (mag z)
size (pos n) = omega arith
size (negsuc n) = omega arith

-- ── sums ──

mag_sub : (a b : ℕ) → mag (sub_ℕ a b) ≤ a + b
mag_sub a b = go (ltb a b)
  where
    go : (t : Bool) → mag (cond t (negsuc (b - suc a)) (pos (a - b))) ≤ a + b
    go true = omega arith
    go false = omega arith

pub mag_add : (x y : ℤ) → mag (x +ℤ y) ≤ suc (mag x + mag y)
mag_add (pos a) (pos b) = omega arith
mag_add (pos a) (negsuc b) = omega (arith, mag_sub a (suc b))
mag_add (negsuc a) (pos b) = omega (arith, mag_sub b (suc a))
mag_add (negsuc a) (negsuc b) = omega arith

-- ── within 32 bits ──

pub in32_mag : (z : ℤ) → T (in32 z) → mag z ≤ 2147483647
in32_mag (pos n) h = leb→le n 2147483647 h
in32_mag (negsuc n) h = leb→le n 2147483647 (and_l (leb n 2147483647) true h)
