-- The last few of a list that grows at its end, and a window with one Int more.
use Prim.Native.Nat.{ℕ, ◌≤◌, ◌<◌, ◌+◌, ◌-◌}
use native.Mathlib.Omega.{arith}
use mathlib.Core.Path.{◌≡◌, sym, ap, ap₂, ◌∙◌}
use mathlib.Core.List.{List, [], ◌∷◌, ◌++◌}
use lib.IntN.{ℤ, pos}
use lib.ListN.{length, drop, set, length-append, length-drop}
use lib.Seq.{drop-append-le, drop-drop}
use Rattle.values.proofs.Firsts.{length-firsts, firsts_push}
use Rattle.window_rules.specs.Windows.{last_of, slid}
use Rattle.window.specs.declared.Window.{Window}
use Rattle.window.specs.WindowCalls.{ints_of, window_of}

module _ {A : Type 0} where
  dropped : (m n : ℕ) (l : List A) → m ≡ n → drop m l ≡ drop n l
  dropped m n l e = ap (λ (k : ℕ). drop k l) e

  -- with room left all stay
  pub last-room : (w : ℕ) (l : List A) (k : A) → length l < w → last_of w (l ++ (k ∷ [])) ≡ l ++ (k ∷ [])
  last-room w l k h = dropped (length (l ++ (k ∷ [])) - w) 0 (l ++ (k ∷ [])) (omega (arith, length-append l (k ∷ [])))

  -- of a full one the oldest goes
  pub last-full : (w : ℕ) (l : List A) (k : A) → 1 ≤ w → length l ≡ w → last_of w (l ++ (k ∷ [])) ≡ drop 1 l ++ (k ∷ [])
  last-full w l k low e =
      dropped (length (l ++ (k ∷ [])) - w) 1 (l ++ (k ∷ [])) (omega (arith, length-append l (k ∷ []))) ∙ drop-append-le 1 l (k ∷ []) (omega arith)

  -- no more than w
  pub last-length : (w : ℕ) (l : List A) → length (last_of w l) ≤ w
  last-length w l = omega (arith, length-drop (length l - w) l)

  -- those that went before are not missed: the last w of the last w and one more are the last w of all
  pub last_again : (w : ℕ) (l : List A) (k : A) → last_of w (last_of w l ++ (k ∷ [])) ≡ last_of w (l ++ (k ∷ []))
  last_again w l k =
      let n = length l - w in
      let j = length (last_of w l ++ (k ∷ [])) - w in
      let few : n ≤ length l = omega arith in
      ap (drop j) (sym (drop-append-le n l (k ∷ []) few))
      ∙ drop-drop j n (l ++ (k ∷ []))
      ∙ dropped (n + j) (length (l ++ (k ∷ [])) - w) (l ++ (k ∷ []))
      (omega (arith, length-append (last_of w l) (k ∷ []), length-drop n l, length-append l (k ∷ [])))

-- ── the code's window with one Int more: `v` is the Int as it was stored ──

module _ (s : Window) (k v : ℤ) (e : v ≡ k) where
  abbrev held : List ℤ
  held = ints_of s.count s.ints

  long : length held ≡ s.count
  long = length-firsts (λ (z : ℤ). z) (pos 0) s.count s.ints

  pub with-room : s.count < s.width → s.count < length s.ints →
      window_of (record { width = s.width; column = s.column; count = s.count + 1; ints = set s.ints s.count v }) ≡ slid (window_of s) k
  unfolding slid
  with-room h room =
      let p = firsts_push (λ (z : ℤ). z) (pos 0) s.count s.ints v room
      ∙ ap (λ (z : ℤ). held ++ (z ∷ [])) e
      ∙ sym (last-room s.width held k (omega (arith, long))) in
      λ i. record { width = s.width; column = s.column; ints = p i }

  -- `r` are the Ints but for the oldest
  pub with_none : (r : List ℤ) → 1 ≤ s.width → s.count ≡ s.width → s.count ≤ length r → ints_of (s.count - 1) r ≡ drop 1 held →
      window_of (record { width = s.width; column = s.column; count = s.count; ints = set r (s.count - 1) v }) ≡ slid (window_of s) k
  unfolding slid
  with_none r low full room shift =
      let n : s.count - 1 + 1 ≡ s.count = omega arith in
      let p = ap (λ (m : ℕ). ints_of m (set r (s.count - 1) v)) (sym n)
      ∙ firsts_push (λ (z : ℤ). z) (pos 0) (s.count - 1) r v (omega arith)
      ∙ ap₂ (λ (l : List ℤ) (z : ℤ). l ++ (z ∷ [])) shift e
      ∙ sym (last-full s.width held k low (long ∙ full)) in
      λ i. record { width = s.width; column = s.column; ints = p i }
