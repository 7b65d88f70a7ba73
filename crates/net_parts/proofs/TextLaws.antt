-- Four bytes of a number tested at once, by their high bits. Assumes nothing.
use Prim.Native.Nat.{ℕ, zero, suc, ◌+◌, ◌*◌, ◌/◌, ◌%◌, ◌<◌, ◌≤◌, ◌^◌}
use mathlib.Core.Path.{◌≡◌, refl, sym, ap, ap₂, ◌∙◌}
use mathlib.Core.Bool.{Bool, true, false, ◌&&◌}
use native.Mathlib.Omega.{arith}
use lib.Bits.{bit_and, and_block, and_high, and_zero_r}
use lib.Dec.{T, eqb, leb, eqb→eq}
use borrow.Author.Tests.{eq-eqb, le-leb, leb-true, lt-ltb}
use Rattle.values.specs.Values.{is_text}
use Rattle.values.proofs.Bools.{and_l, and_r, is_true, T_of, same_test}

abbrev pub fine : ℕ → Bool
fine b = leb 32 b && leb b 126

-- `m` has the high bits, `c` a 1 and `d` a 96 for each byte
abbrev pub highs : ℕ → ℕ → ℕ → ℕ → Bool
highs m c d x = eqb (bit_and x m) 0 && eqb (bit_and (x + c) m) 0 && eqb (bit_and (x + d) m) m

-- the lowest byte's high bit apart
lowest : (q m b x : ℕ) → b < 256 → x ≡ q * 256 + b → bit_and x (m * 256 + 128) ≡ bit_and q m * 256 + b / 128 * 128
lowest q m b x h e =
    ap (λ (y : ℕ). bit_and y (m * 256 + 128)) e
    ∙ and_block 8 q m b 128 h (omega arith)
    ∙ ap (λ (r : ℕ). bit_and q m * 256 + r) (and_high b 1 7 ∙ high)
  where
    high : b / 2 ^ 7 % 2 ^ 1 * 2 ^ 7 ≡ b / 128 * 128
    high = let k : b / 128 < 2 = omega arith in omega arith

-- an odd number of halves
odd : (a m r : ℕ) → r < 2 → a * 256 + r * 128 ≡ m * 256 + 128 → (a ≡ m) × (r ≡ 1)
odd a m zero h e = let k : (a * 256 + 0) % 256 ≡ (m * 256 + 128) % 256 = ap (λ (n : ℕ). n % 256) e in absurd (omega (arith, k))
odd a m (suc zero) h e = (omega (arith, e), refl)
odd a m (suc (suc r)) h e = absurd (omega arith)

-- the lowest byte apart
module _ (m c d x : ℕ) where
  abbrev q : ℕ
  q = x / 256

  abbrev b : ℕ
  b = x % 256

  abbrev mask : ℕ
  mask = m * 256 + 128

  abbrev one : ℕ
  one = x + (c * 256 + 1)

  abbrev much : ℕ
  much = x + (d * 256 + 96)

  plain-low : bit_and x mask ≡ bit_and q m * 256 + b / 128 * 128
  plain-low = lowest q m b x (omega arith) (omega arith)

  one-low : b < 255 → bit_and one mask ≡ bit_and (q + c) m * 256 + (b + 1) / 128 * 128
  one-low h = lowest (q + c) m (b + 1) one (omega arith) (omega arith)

  much-low : b < 160 → bit_and much mask ≡ bit_and (q + d) m * 256 + (b + 96) / 128 * 128
  much-low h = lowest (q + d) m (b + 96) much (omega arith) (omega arith)

  made : bit_and q m ≡ 0 → bit_and (q + c) m ≡ 0 → bit_and (q + d) m ≡ m → 32 ≤ b → b ≤ 126 → T (highs m c d q && fine b)
  made e f g h k =
      T_of (highs m c d q && fine b)
      (rw (eq-eqb (bit_and q m) 0 e, eq-eqb (bit_and (q + c) m) 0 f, eq-eqb (bit_and (q + d) m) m g, le-leb 32 b h, le-leb b 126 k))

  there : bit_and x mask ≡ 0 → bit_and one mask ≡ 0 → bit_and much mask ≡ mask → T (highs m c d q && fine b)
  there e f g =
      let i : bit_and q m * 256 + b / 128 * 128 ≡ 0 = sym plain-low ∙ e in
      let l : b < 128 = omega (arith, i) in
      let j : bit_and (q + c) m * 256 + (b + 1) / 128 * 128 ≡ 0 = sym (one-low (omega arith)) ∙ f in
      let k : bit_and (q + d) m * 256 + (b + 96) / 128 * 128 ≡ m * 256 + 128 = sym (much-low (omega arith)) ∙ g in
      let o = odd (bit_and (q + d) m) m ((b + 96) / 128) (omega (arith, l)) k in
      made (omega (arith, i)) (omega (arith, j)) o.0 (omega (arith, o.1)) (omega (arith, j))

  back : bit_and q m ≡ 0 → bit_and (q + c) m ≡ 0 → bit_and (q + d) m ≡ m → 32 ≤ b → b ≤ 126 → T (highs mask (c * 256 + 1) (d * 256 + 96) x)
  back e f g h k =
      let i : bit_and x mask ≡ 0 = plain-low ∙ omega (arith, e, k) in
      let j : bit_and one mask ≡ 0 = one-low (omega arith) ∙ omega (arith, f, k) in
      let l : bit_and much mask ≡ mask = much-low (omega arith) ∙ omega (arith, g, h, k) in
      T_of (highs mask (c * 256 + 1) (d * 256 + 96) x) (rw (eq-eqb (bit_and x mask) 0 i, eq-eqb (bit_and one mask) 0 j, eq-eqb (bit_and much mask) mask l))

  fewer : highs mask (c * 256 + 1) (d * 256 + 96) x ≡ (highs m c d q && fine b)
  fewer =
      same_test (highs mask (c * 256 + 1) (d * 256 + 96) x) (highs m c d q && fine b)
      (λ t. there (eqb→eq (bit_and x mask) 0 (search (and_l, and_r))) (eqb→eq (bit_and one mask) 0 (search (and_l, and_r))) (eqb→eq (bit_and much mask) mask (search (and_l, and_r))))
      (λ t. back (eqb→eq (bit_and q m) 0 (search (and_l, and_r))) (eqb→eq (bit_and (q + c) m) 0 (search (and_l, and_r))) (eqb→eq (bit_and (q + d) m) m (search (and_l, and_r))) (leb-true 32 b (is_true (leb 32 b) (search (and_l, and_r)))) (leb-true b 126 (is_true (leb b 126) (search (and_l, and_r)))))

none_left : (x : ℕ) → highs 0 0 0 x ≡ true
none_left x = rw (and_zero_r x, and_zero_r (x + 0))

bytes : (a b c d : Bool) → (a && b && c && d) ≡ (a && (b && (c && (d && true))))
bytes true true true true = refl
bytes true true true false = refl
bytes true true false d = refl
bytes true false c d = refl
bytes false b c d = refl

four : (t : ℕ) → highs 0x80808080 0x01010101 0x60606060 t ≡ (fine (t / 256 / 256 / 256 % 256) && fine (t / 256 / 256 % 256) && fine (t / 256 % 256) && fine (t % 256))
four t =
    fewer 0x808080 0x010101 0x606060 t
    ∙ ap (λ (e : Bool). e && fine (t % 256))
    (fewer 0x8080 0x0101 0x6060 (t / 256)
    ∙ ap (λ (e : Bool). e && fine (t / 256 % 256))
    (fewer 0x80 0x01 0x60 (t / 256 / 256)
    ∙ ap (λ (e : Bool). e && fine (t / 256 / 256 % 256))
    (fewer 0 0 0 (t / 256 / 256 / 256) ∙ ap (λ (e : Bool). e && fine (t / 256 / 256 / 256 % 256)) (none_left (t / 256 / 256 / 256 / 256)))))

pub text_tested : (t : ℕ) → t < 2 ^ 32 → highs 0x80808080 0x01010101 0x60606060 t ≡ is_text t
text_tested t h =
    let v : t / 256 / 256 / 256 ≡ t / 16777216 = omega arith in
    let u : t / 256 / 256 ≡ t / 65536 = omega arith in
    four t
    ∙ ap₂ (λ (i j : ℕ). fine (i % 256) && fine (j % 256) && fine (t / 256 % 256) && fine (t % 256)) v u
    ∙ bytes (fine (t / 16777216 % 256)) (fine (t / 65536 % 256)) (fine (t / 256 % 256)) (fine (t % 256))
    ∙ rw (lt-ltb t (2 ^ 32) h)
