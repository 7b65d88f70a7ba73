-- A state's bytes put: four adjacent parts.
use Prim.Native.Nat.{ℕ, ◌-◌, ◌*◌, ◌/◌, ◌^◌, ◌≤◌}
use native.Mathlib.Omega.{arith}
use mathlib.Core.Path.{◌≡◌, refl, ap, ◌∙◌}
use mathlib.Core.List.{List, [], ◌∷◌, ◌++◌, map, append-nil, append_assoc}
use lib.IntN.{ℤ, pos}
use lib.ListN.{length, drop, replicate, length-append, length-replicate, drop_of_length-le}
use Rattle.std.specs.Int.{w64, to_le_bytes}
use borrow.Rule.Slice.PartMut.{put_mid}
use Rattle.values.proofs.Firsts.{length-firsts}
use Rattle.value_bytes.specs.Bytes.{end_to_end, eight_bytes}
use Rattle.value_bytes.proofs.Stores.{part-written}
use Rattle.window_rules.specs.WindowBytes.{int_bytes, window_bytes}
use Rattle.window.specs.declared.Window.{Window}
use Rattle.window.specs.WindowCalls.{ints_of, window_of}

-- ── how long each part is ──

eight-length : (n : ℕ) → length (eight_bytes n) ≡ 8
unfolding eight_bytes
eight-length n = refl

-- as std has them
pub same_bytes : (n : ℕ) → to_le_bytes w64 n ≡ eight_bytes n
unfolding eight_bytes
same_bytes n =
    let e : n / 2 ^ 32 / 2 ^ 8 ≡ n / 256 ^ 5 = omega arith in
    let f : n / 2 ^ 32 / 2 ^ 16 ≡ n / 256 ^ 6 = omega arith in
    let g : n / 2 ^ 32 / 2 ^ 24 ≡ n / 256 ^ 7 = omega arith in
    rw (e, f, g) refl

-- the Ints in use, and zeros behind them
abbrev pub int_part : List ℤ → List ℕ
int_part l = end_to_end (map int_bytes l) ++ replicate (64 - 4 * length l) 0

ints-length : (l : List ℤ) → length (end_to_end (map int_bytes l)) ≡ 4 * length l
ints-length [] = refl
ints-length (z ∷ l) = omega (arith, ints-length l)

part-length : (l : List ℤ) → length l ≤ 16 → length (int_part l) ≡ 64
part-length l h = rw (length-append, length-replicate, ints-length l) (omega arith)

-- ── the parts, one written after the other ──

module _ (o a b c d : List ℕ) (l : length o ≡ 88) where
  filled : length a ≡ 8 → length b ≡ 8 → length c ≡ 8 → length d ≡ 64 → put_mid 24 64 (put_mid 16 8 (put_mid 8 8 (a ++ drop 8 o) b) c) d ≡ a ++ (b ++ (c ++ d))
  filled la lb lc ld =
      let n : length (a ++ b) ≡ 16 = simp length-append (omega arith) in
      let m : length ((a ++ b) ++ c) ≡ 24 = simp length-append (omega arith) in
      let e : drop 88 o ≡ [] = drop_of_length-le o {i = 88} (omega arith) in
      rw (part-written a o b 8 8 la, part-written (a ++ b) o c 16 8 n, part-written ((a ++ b) ++ c) o d 24 64 m, e, append-nil) (simp append_assoc)

  pub window-put : (s : Window) → s.count ≤ 16 → a ≡ eight_bytes s.width → b ≡ eight_bytes s.column → c ≡ eight_bytes s.count → d ≡ int_part (ints_of s.count s.ints)
      → put_mid 24 64 (put_mid 16 8 (put_mid 8 8 (a ++ drop 8 o) b) c) d ≡ window_bytes (window_of s)
  unfolding window_bytes
  window-put s few ha hb hc hd =
      let n : length (ints_of s.count s.ints) ≡ s.count = length-firsts (λ (z : ℤ). z) (pos 0) s.count s.ints in
      filled (ap length ha ∙ eight-length s.width) (ap length hb ∙ eight-length s.column) (ap length hc ∙ eight-length s.count) (ap length hd ∙ part-length (ints_of s.count s.ints) (omega (arith, n, few)))
      ∙ rw (ha, hb, hc, hd, n) refl
