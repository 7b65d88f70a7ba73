-- Texts: the order of four folded bytes is the order of the number that they are.
use Prim.Native.Nat.{ℕ, ◌<◌, ◌≤◌, ◌+◌, ◌-◌, ◌*◌, ◌/◌, ◌%◌}
use Rattle.std.specs.Prelude.{Some}
use Rattle.std.specs.declared.cmp.Ordering.TheVariants.{Equal}
use native.Mathlib.Omega.{arith}
use mathlib.Core.Path.{◌≡◌, sym, ap, ◌∙◌}
use mathlib.Core.Bool.{Bool, true, false, cond, ◌&&◌}
use lib.Dec.{leb}
use Rattle.values.specs.Values.{Order}
use Rattle.values.specs.Values.{upper, number_order, or_next, text_order}
use Rattle.values.specs.Folding.{folded_text}
use Rattle.value_order.proofs.Orders.{or_same, or_assoc, digit-order}

upper_le : (b : ℕ) → upper b ≤ b
upper_le b = go (leb 0x61 b && leb b 0x7a)
  where
    go : (t : Bool) → cond t (b - 0x20) b ≤ b
    go true = omega arith
    go false = omega arith

upper_byte : (n : ℕ) → upper (n % 256) < 256
upper_byte n = omega (arith, upper_le (n % 256))

-- the folded text, from its four bytes
module _ (t : ℕ) {a b c d : ℕ} (p : a ≡ upper (t / 16777216 % 256)) (q : b ≡ upper (t / 65536 % 256))
    (r : c ≡ upper (t / 256 % 256)) (s : d ≡ upper (t % 256)) where
  pub folded_is : ((a * 256 + b) * 256 + c) * 256 + d ≡ folded_text t
  unfolding folded_text
  folded_is = rw (p, q, r, s)

-- what the bytes so far and the next byte decide, and then o
more : (a b : ℕ) {x y : ℕ} → x < 256 → y < 256 → (o : Order)
    → or_next (number_order a b) (or_next (number_order x y) o) ≡ or_next (number_order (a * 256 + x) (b * 256 + y)) o
more a b p q o = sym (or_assoc (number_order a b) _ o) ∙ ap (λ r. or_next r o) (digit-order a b p q)

pub folded_order : (t u : ℕ) → text_order t u ≡ number_order (folded_text t) (folded_text u)
unfolding folded_text text_order
folded_order t u =
    more _ _ (upper_byte (t / 65536)) (upper_byte (u / 65536)) _
    ∙ more _ _ (upper_byte (t / 256)) (upper_byte (u / 256)) _
    ∙ more _ _ (upper_byte t) (upper_byte u) _
    ∙ or_same _

same_order : (n : ℕ) → Some Equal ≡ number_order n n
same_order n = grind arith

pub text_same : {t u : ℕ} → t ≡ u → Some Equal ≡ text_order t u
text_same {t} {u} e = same_order (folded_text t) ∙ ap (number_order (folded_text t)) (ap folded_text e) ∙ sym (folded_order t u)
