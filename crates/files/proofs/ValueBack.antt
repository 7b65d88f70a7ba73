-- Numbers, texts and values that are written are read again. Assumes nothing.
use Prim.Native.Nat.{ℕ, suc, ◌+◌, ◌-◌, ◌*◌, ◌/◌, ◌%◌, ◌<◌, ◌≤◌}
use mathlib.Core.Path.{◌≡◌, refl, ap}
use mathlib.Core.Bool.{true, ◌&&◌}
use mathlib.Core.List.{List, [], ◌∷◌, map}
use native.Mathlib.Nat.{div-div-eq-div-mul, div-add-mod', mod-eq_of_lt}
use native.Mathlib.Omega.{arith}
use borrow.Author.Tests.{lt-ltb, le-ltb}
use lib.Dec.{T, leb, ltb, ltb→lt, leb→le}
use lib.IntN.{ℤ, pos, negsuc}
use lib.ListN.{length}
use Rattle.values.specs.declared.Value.{Value}
use Rattle.values.specs.declared.Value.TheVariants.{Int, Text, Loc}
use Rattle.values.specs.declared.Operand.{Operand}
use Rattle.values.specs.declared.Operand.TheVariants.{ConstInt, ConstText, ConstLoc}
use Rattle.std.specs.List.{list_all}
use Rattle.values.specs.Values.{in32, bytes_of, is_text, in_range}
use Rattle.values.specs.Operands.{values_in, eval}
use Rattle.values.proofs.Bools.{and_l}
use Rattle.nets.specs.Sound.{tagged}
use Rattle.record_bytes.specs.Bytes.{little, text_in, signed, operand_form, operand_in}
use Rattle.record_bytes.specs.Encoding.{bits32, operand_bytes}
use Rattle.value_bytes.specs.Bytes.{little_bytes}

-- the four digits of a number in base 256
digits_of : (n a b c p q r s : ℕ) → a * 256 + p ≡ n → b * 256 + q ≡ a → c * 256 + r ≡ b → s ≡ c → p + 256 * q + 65536 * r + 16777216 * s ≡ n
digits_of n a b c p q r s ha hb hc hs = omega arith

digits : (n : ℕ) → n < 4294967296 → n % 256 + 256 * (n / 256 % 256) + 65536 * (n / 65536 % 256) + 16777216 * (n / 16777216 % 256) ≡ n
digits n h =
    let b : n / 65536 * 256 + n / 256 % 256 ≡ n / 256 = rw (div-div-eq-div-mul n 256 256) at (div-add-mod' (n / 256) 256) in
    let c : n / 16777216 * 256 + n / 65536 % 256 ≡ n / 65536 = rw (div-div-eq-div-mul n 65536 256) at (div-add-mod' (n / 65536) 256) in
    let t : n / 16777216 % 256 ≡ n / 16777216 = mod-eq_of_lt (omega arith) in
    digits_of n (n / 256) (n / 65536) (n / 16777216) (n % 256) (n / 256 % 256) (n / 65536 % 256) (n / 16777216 % 256) (div-add-mod' n 256) b c t

little-back : (n : ℕ) → n < 4294967296 → little (little_bytes n) ≡ n
little-back n h = digits n h

pub text_back : (t : ℕ) → T (is_text t) → text_in (bytes_of t) ≡ t
text_back t h = digits t (ltb→lt t 4294967296 (and_l (ltb t 4294967296) (list_all (λ b. leb 0x20 b && leb b 0x7e) (bytes_of t)) h))

int-back : (i : ℤ) → T (in32 i) → signed (little (little_bytes (bits32 i))) ≡ i
int-back (pos n) h =
    let l : n ≤ 2147483647 = leb→le n 2147483647 h in
    rw (little-back n (omega arith), lt-ltb n 2147483648 (omega arith))
int-back (negsuc n) h =
    let l : n ≤ 2147483647 = leb→le n 2147483647 (and_l (leb n 2147483647) true h) in
    let e : 4294967295 - (4294967296 - suc n) ≡ n = omega arith in
    rw (little-back (4294967296 - suc n) (omega arith), le-ltb (4294967296 - suc n) 2147483648 (omega arith), e)

-- ── values as operands ──

abbrev pub as_operand : Value → Operand
as_operand (Int i) = ConstInt i
as_operand (Text t) = ConstText t
as_operand (Loc l) = ConstLoc l

pub value-length : (v : Value) → length (operand_bytes v) ≡ 8
value-length (Int i) = refl
value-length (Text t) = refl
value-length (Loc l) = refl

pub value-form : (v : Value) → T (operand_form (operand_bytes v))
unfolding operand_form
value-form (Int i) = tt
value-form (Text t) = tt
value-form (Loc l) = tt

pub value-back : (v : Value) → T (in_range v) → operand_in (operand_bytes v) ≡ as_operand v
unfolding operand_in
value-back (Int i) h = ap ConstInt (int-back i h)
value-back (Text t) h = ap ConstText (text_back t h)
value-back (Loc l) h = refl

-- a constant has a tag of 1..3 and gives its value
pub value-tagged : (v : Value) → T (in_range v) → T (tagged 3 (as_operand v))
value-tagged (Int i) h = h
value-tagged (Text t) h = h
value-tagged (Loc l) h = h

pub values-given : (r : List Value) → values_in (map (eval []) (map as_operand r)) ≡ r
values-given [] = refl
values-given (Int i ∷ r) = ap (λ l. Int i ∷ l) (values-given r)
values-given (Text t ∷ r) = ap (λ l. Text t ∷ l) (values-given r)
values-given (Loc l ∷ r) = ap (λ m. Loc l ∷ m) (values-given r)
