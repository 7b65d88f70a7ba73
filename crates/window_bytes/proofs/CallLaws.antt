-- The calls that keep a window in lent bytes: what each way through them gives back and leaves.
use Prim.Native.Nat.{ℕ, zero, suc, ◌+◌, ◌*◌, ◌≤◌}
use native.Mathlib.Omega.{arith}
use mathlib.Core.Path.{◌≡◌, refl, sym, ap, subst, ◌∙◌}
use mathlib.Core.Bool.{Bool, true, false, cond, ◌&&◌}
use mathlib.Core.List.{List, [], ◌∷◌, ◌++◌}
use Rattle.std.specs.Prelude.{Option, None, Some}
use lib.Dec.{T, leb, leb→le}
use lib.IntN.{ℤ, pos}
use lib.ListN.{length, drop, length-map}
use Rattle.values.proofs.Bools.{and_l, and_r, T_of}
use Rattle.values.proofs.Firsts.{length-firsts}
use Rattle.record_bytes.specs.Bytes.{parts, zeros}
use Rattle.window_rules.specs.Windows.{counted_int, width_ok, window_ok, begun, begin_number, WindowAnswer, figures, refused, slid, Taken, not_taken, taken_int, taken}
use Rattle.window_rules.specs.Windows as rule
use Rattle.window_rules.specs.WindowBytes.{width_in, rows_in, window_in, is_state, window_bytes, bytes_begun, answer_for, bytes_left, bytes_after}
use Rattle.window.specs.declared.Window.{Window}
use Rattle.window.specs.declared.Taken as Code
use Rattle.window.specs.WindowCalls.{window_of, answer_of, taken_of}
use Rattle.window.proofs.SlideLaws.{last-length}

-- ── a beginning ──

begun-ok : (w : ℕ) → 0 ≡ begin_number w → width_ok w ≡ true
begun-ok w = go (width_ok w)
  where
    go : (t : Bool) → ◌≡◌ {A = ℕ} 0 (cond t 0 23) → t ≡ true
    go true e = refl
    go false e = absurd (omega arith)

begun-wrong : (w : ℕ) → 23 ≡ begin_number w → width_ok w ≡ false
begun-wrong w = go (width_ok w)
  where
    go : (t : Bool) → ◌≡◌ {A = ℕ} 23 (cond t 0 23) → t ≡ false
    go true e = absurd (omega arith)
    go false e = refl

pub begun_put : (w c : ℕ) (before after : List ℕ) (s : rule.Window) → 0 ≡ begin_number w → s ≡ begun w c → after ≡ window_bytes s → after ≡ bytes_begun w c before
unfolding bytes_begun
begun_put w c before after s n e h = rw (begun-ok w n) (h ∙ ap window_bytes e)

pub begun_refused : (w c : ℕ) (before : List ℕ) → 23 ≡ begin_number w → before ≡ bytes_begun w c before
unfolding bytes_begun
begun_refused w c before n = rw (begun-wrong w n) refl

-- ── bytes that are no state ──

module _ (before r : List ℕ) (e : false ≡ is_state before) where
  pub no_state-answer : refused 23 ≡ answer_for before r
  unfolding answer_for
  no_state-answer = rw (sym e) refl

  pub no_state-bytes : before ≡ bytes_after before r
  unfolding bytes_after
  no_state-bytes = ap (λ (a : WindowAnswer). bytes_left a before (taken (window_in before) r).next) no_state-answer

-- ── bytes that are a state ──

parts-length : (n : ℕ) (bs : List ℕ) → length (parts 4 n bs) ≡ n
parts-length zero bs = refl
parts-length (suc n) bs = ap suc (parts-length n (drop 4 bs))

taken-short : (s : rule.Window) (r : List ℕ) → s.width ≤ 16 → length s.ints ≤ 16 → length (taken s r).next.ints ≤ 16
unfolding taken slid
taken-short s r w l = go (window_ok s) (counted_int s.column r)
  where
    of_record : (o : Option ℤ) → length (taken_int s o).next.ints ≤ 16
    of_record None = l
    of_record (Some k) = omega (arith, last-length s.width (s.ints ++ (k ∷ [])), w)

    go : (t : Bool) (o : Option ℤ) → length (cond t (taken_int s o) (not_taken 23 s)).next.ints ≤ 16
    go true o = of_record o
    go false o = l

module _ (before : List ℕ) (e : true ≡ is_state before) where
  fits : T (width_ok (width_in before) && leb (rows_in before) (width_in before))
  unfolding is_state
  fits = and_l (width_ok (width_in before) && leb (rows_in before) (width_in before)) (zeros (drop (24 + 4 * rows_in before) before)) (T_of (is_state before) (sym e))

  wide : width_in before ≤ 16
  wide = leb→le (width_in before) 16 (and_r (leb 1 (width_in before)) (leb (width_in before) 16) (and_l (width_ok (width_in before)) (leb (rows_in before) (width_in before)) fits))

  state-few : rows_in before ≤ 16
  state-few =
      let l : rows_in before ≤ width_in before = leb→le (rows_in before) (width_in before) (and_r (width_ok (width_in before)) (leb (rows_in before) (width_in before)) fits) in
      omega (arith, wide)

  -- s is the window that was read, and t what `take` gave back
  module _ (r : List ℕ) (s : Window) (t : Code.Taken) (read : rows_in before ≤ 16 → window_of s ≡ window_in before) (g : taken_of t ≡ taken (window_of s) r) where
    given : taken_of t ≡ taken (window_in before) r
    given = g ∙ ap (λ (w : rule.Window). taken w r) (read state-few)

    -- the window that came back can be put
    pub next-few : t.window.count ≤ 16
    unfolding window_in
    next-few =
        let n : length (window_in before).ints ≤ 16 = rw (length-map, parts-length) state-few in
        let k = taken-short (window_in before) r wide n in
        let q : length (window_of t.window).ints ≤ 16 = subst (λ (u : Taken). length u.next.ints ≤ 16) (sym given) k in
        let m : length (window_of t.window).ints ≡ t.window.count = length-firsts (λ (z : ℤ). z) (pos 0) t.window.count t.window.ints in
        omega (arith, q, m)

    pub answered : (a : WindowAnswer) → answer_of t.answer ≡ a → a ≡ answer_for before r
    unfolding answer_for
    answered a h = sym h ∙ ap (λ (u : Taken). u.answer) given ∙ rw (sym e) refl

    pub left_refused : (n : ℕ) → answer_of t.answer ≡ refused n → before ≡ bytes_after before r
    unfolding bytes_after
    left_refused n h = ap (λ (a : WindowAnswer). bytes_left a before (taken (window_in before) r).next) (answered (refused n) h)

    pub left_taken : (i j k : ℤ) (after : List ℕ) → answer_of t.answer ≡ figures i j k → after ≡ window_bytes (window_of t.window) → after ≡ bytes_after before r
    unfolding bytes_after
    left_taken i j k after h p =
        p
        ∙ ap (λ (u : Taken). window_bytes u.next) given
        ∙ ap (λ (a : WindowAnswer). bytes_left a before (taken (window_in before) r).next) (answered (figures i j k) h)
