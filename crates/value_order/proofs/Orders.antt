-- Orders: what two tests decide, and the order of numbers in base 256.
use Prim.Native.Nat.{ℕ, ◌<◌, ◌≤◌, ◌+◌, ◌*◌}
use Rattle.std.specs.Prelude.{None, Some}
use Rattle.std.specs.declared.cmp.Ordering.TheVariants.{Less, Equal, Greater}
use native.Mathlib.Omega.{arith}
use mathlib.Core.Path.{◌≡◌, refl}
use mathlib.Core.Bool.{Bool, true, false}
use Rattle.values.specs.Values.{Order, number_order, or_next}

-- ── one order after the other ──

pub or_same : (o : Order) → or_next o (Some Equal) ≡ o
or_same None = refl
or_same (Some Less) = refl
or_same (Some Equal) = refl
or_same (Some Greater) = refl

pub or_assoc : (o p q : Order) → or_next (or_next o p) q ≡ or_next o (or_next p q)
or_assoc None p q = refl
or_assoc (Some Less) p q = refl
or_assoc (Some Equal) p q = refl
or_assoc (Some Greater) p q = refl

-- ── base 256 ──

-- a number and a digit below 256 after it: the number decides, and then the digit
pub digit-order : (a b : ℕ) {x y : ℕ} → x < 256 → y < 256 → or_next (number_order a b) (number_order x y) ≡ number_order (a * 256 + x) (b * 256 + y)
digit-order a b {x} {y} p q = grind arith
