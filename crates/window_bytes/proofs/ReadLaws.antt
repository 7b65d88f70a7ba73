-- A state's bytes read: its Ints part by part, and the tests of a state.
use Prim.Native.Nat.{ℕ, zero, suc, ◌≤◌, ◌<◌, ◌+◌, ◌-◌, ◌*◌}
use native.Mathlib.Omega.{arith}
use mathlib.Core.Path.{◌≡◌, refl, sym, ap, ap₂, ◌∙◌}
use mathlib.Core.Bool.{Bool, true, false}
use mathlib.Core.List.{List, [], ◌∷◌, map}
use lib.Dec.{leb, leb→le, ltb}
use lib.IntN.{ℤ, pos}
use lib.ListN.{length, get_or, set, take, drop, length-drop}
use lib.Seq.{take_all, get_or-set_same, get_or-set_other, drop-drop}
use borrow.Author.Tests.{ltb-true, ltb-false, le-leb, lt-leb}
use Rattle.values.proofs.Bools.{and_r, T_of}
use Rattle.record_bytes.specs.Bytes.{parts, zeros, int_in}
use Rattle.window_rules.specs.Windows.{width_ok}
use Rattle.window_rules.specs.WindowBytes.{eight_in, width_in, rows_in, window_in, is_state}
use Rattle.window.specs.declared.Window.{Window}
use Rattle.window.specs.WindowCalls.{ints_of, window_of}

-- ── an array filled place by place ──

abbrev pub Filled : (ℕ → ℤ) → List ℤ → ℕ → Type 0
Filled f xs i = (j : ℕ) → j < i → get_or xs j (pos 0) ≡ f j

pub fill_more : (f : ℕ → ℤ) (xs : List ℤ) (i : ℕ) (v : ℤ) → i < length xs → v ≡ f i → Filled f xs i → Filled f (set xs i v) (i + 1)
fill_more f xs i v room e old j h = go (ltb j i) refl
  where
    go : (t : Bool) → ltb j i ≡ t → get_or (set xs i v) j (pos 0) ≡ f j
    go true t =
        let q = ltb-true j i t in
        get_or-set_other xs i j v (pos 0) (λ (s : j ≡ i). absurd (omega arith)) ∙ old j q
    go false t =
        let q = ltb-false j i t in
        let s : j ≡ i = omega arith in
        ap (λ (k : ℕ). get_or (set xs i v) k (pos 0)) s ∙ get_or-set_same xs i v (pos 0) room ∙ e ∙ ap f (sym s)

-- ── the Ints, four bytes each ──

abbrev pub int_at_part : List ℕ → ℕ → ℤ
int_at_part bs j = int_in (take 4 (drop (j * 4) bs))

part_on : (bs : List ℕ) (j : ℕ) → int_at_part bs (suc j) ≡ int_at_part (drop 4 bs) j
part_on bs j =
    let e : suc j * 4 ≡ 4 + j * 4 = omega arith in
    ap (λ (k : ℕ). int_in (take 4 (drop k bs))) e ∙ ap (λ (l : List ℕ). int_in (take 4 l)) (sym (drop-drop (j * 4) 4 bs))

pub ints_by_parts : (n : ℕ) (xs : List ℤ) (bs : List ℕ) → Filled (int_at_part bs) xs n → ints_of n xs ≡ map int_in (parts 4 n bs)
ints_by_parts zero xs bs h = refl
ints_by_parts (suc n) [] bs h = ap₂ ◌∷◌ (h 0 (omega arith)) (ints_by_parts n [] (drop 4 bs) (λ j q. h (suc j) (omega arith) ∙ part_on bs j))
ints_by_parts (suc n) (x ∷ xs) bs h = ap₂ ◌∷◌ (h 0 (omega arith)) (ints_by_parts n xs (drop 4 bs) (λ j q. h (suc j) (omega arith) ∙ part_on bs j))

-- ── a window ──

rest-is : (bs : List ℕ) (a : ℕ) → length bs ≡ 88 → take (88 - a) (drop a bs) ≡ drop a bs
rest-is bs a l = take_all (88 - a) (drop a bs) (omega (arith, length-drop a bs))

pub window-is : (bs : List ℕ) (r : Window) → length bs ≡ 88 → r.width ≡ width_in bs → r.column ≡ eight_in (take 8 (drop 8 bs)) → r.count ≡ rows_in bs
    → ((n : ℕ) → n ≤ 16 → ints_of n r.ints ≡ map int_in (parts 4 n (take 64 (drop 24 bs)))) → rows_in bs ≤ 16 → window_of r ≡ window_in bs
unfolding window_in
window-is bs r l w c n is few =
    let p = ap (λ (k : ℕ). ints_of k r.ints) n ∙ is (rows_in bs) few ∙ ap (λ (q : List ℕ). map int_in (parts 4 (rows_in bs) q)) (rest-is bs 24 l) in
    λ i. record { width = w i; column = c i; ints = p i }

-- ── the tests of a state ──

-- `t` is what the test of the width answered
pub narrow : (w : ℕ) (t : Bool) → t ≡ width_ok w → t ≡ true → w ≤ 16
narrow w t e h = leb→le w 16 (and_r (leb 1 w) (leb w 16) (T_of (width_ok w) (sym e ∙ h)))

module _ (bs : List ℕ) (w : ℕ) (t : Bool) (ew : w ≡ width_in bs) (et : t ≡ width_ok w) where
  pub wrong_width : t ≡ false → false ≡ is_state bs
  unfolding is_state
  wrong_width h = rw (sym ew, sym et, h) refl

  module _ (n : ℕ) (en : n ≡ rows_in bs) (h : t ≡ true) where
    pub too_many : w < n → false ≡ is_state bs
    unfolding is_state
    too_many q = rw (sym ew, sym et, h, sym en, lt-leb n w q) refl

    pub unused-zero : (z : Bool) → n ≤ w → length bs ≡ 88 → z ≡ zeros (take (88 - (24 + 4 * n)) (drop (24 + 4 * n) bs)) → z ≡ is_state bs
    unfolding is_state
    unused-zero z q l e = rw (sym ew, sym et, h, sym en, le-leb n w q) (e ∙ ap zeros (rest-is bs (24 + 4 * n) l))
