-- A record taken: what each way through `take` gives back.
use Prim.Native.Nat.{ℕ, ◌≤◌}
use mathlib.Core.Path.{◌≡◌, refl, sym, ap, subst, ◌∙◌}
use mathlib.Core.Bool.{Bool, true, false, ◌&&◌}
use mathlib.Core.List.{List}
use Rattle.std.specs.Prelude.{None, Some, Result, Ok, Err, OnErr}
use lib.Dec.{T, leb, leb→le}
use lib.IntN.{ℤ, pos}
use lib.ListN.{length, take}
use Rattle.values.proofs.Bools.{and_l, and_r, T_of}
use Rattle.values.proofs.Firsts.{length-firsts}
use Rattle.window_rules.specs.Windows.{counted_int, width_ok, window_ok, figures, refused, figures_of, slid, taken_int, taken}
use Rattle.window_rules.specs.Windows as rule
use Rattle.window.specs.declared.Window.{Window}
use Rattle.window.specs.declared.figures.Figures.{Figures}
use Rattle.window.specs.declared.Refused.{Refused}
use Rattle.window.specs.declared.Refused.TheVariants.{BadWindow, BadRecord}
use Rattle.window.specs.declared.Taken.{Taken}
use Rattle.window.specs.WindowCalls.{window_of, figures_told, answer_of, taken_of, TakeIs}
use Rattle.window.proofs.IntLaws.{firsts-take}

abbrev is_figures : rule.WindowAnswer → Bool
is_figures (figures i j k) = true
is_figures (refused n) = false

pub not-refused : {i j k : ℤ} {n : ℕ} → figures i j k ≡ refused n → ⊥
not-refused e = subst (λ (a : rule.WindowAnswer). T (is_figures a)) e tt

-- what is answered with figures is not refused
on-figures : (P : Type 0) (a : Result Figures Refused) (l : List ℤ) → answer_of a ≡ figures_of l → OnErr a P
unfolding figures_of
on-figures P (Ok f) l e = tt
on-figures P (Err r) l e = absurd (not-refused (sym e))

pub taken_some : (s n : Window) (f : Figures) (k v : ℤ) → v ≡ k → n.count ≤ length n.ints → window_of n ≡ slid (window_of s) v → figures_told f ≡ figures_of (take n.count n.ints)
    → taken_of (record { answer = Ok f; window = n }) ≡ taken_int (window_of s) (Some k)
taken_some s n f k v q few w e =
    let p = w ∙ ap (slid (window_of s)) q in
    let a = e ∙ ap figures_of (sym (firsts-take (pos 0) n.count n.ints few) ∙ ap (λ (u : rule.Window). u.ints) p) in
    λ i. record { answer = a i; next = p i }

module _ (s : Window) where
  -- the code's test
  pub judged : window_ok (window_of s) ≡ (width_ok s.width && leb s.count s.width)
  judged = ap (λ (n : ℕ). width_ok s.width && leb n s.width) (length-firsts (λ (z : ℤ). z) (pos 0) s.count s.ints)

  pub bad-window : (bs : List ℕ) → window_ok (window_of s) ≡ false → TakeIs s bs (record { answer = Err BadWindow; window = s })
  unfolding taken
  bad-window bs h = record { gives = rw h refl; kept = refl }

  module _ (h : window_ok (window_of s) ≡ true) where
    usable : T (width_ok s.width && leb s.count s.width)
    usable = T_of (width_ok s.width && leb s.count s.width) (sym judged ∙ h)

    pub bounds : (1 ≤ s.width) × (s.width ≤ 16) × (s.count ≤ s.width)
    bounds =
        let w : T (width_ok s.width) = and_l (width_ok s.width) (leb s.count s.width) usable in
        (leb→le 1 s.width (and_l (leb 1 s.width) (leb s.width 16) w), leb→le s.width 16 (and_r (leb 1 s.width) (leb s.width 16) w), leb→le s.count s.width (and_r (width_ok s.width) (leb s.count s.width) usable))

    pub bad_record : (bs : List ℕ) → None ≡ counted_int s.column bs → TakeIs s bs (record { answer = Err BadRecord; window = s })
    unfolding taken
    bad_record bs o = record { gives = rw (h, sym o) refl; kept = refl }

    -- `v` is the Int as it was handed on
    pub good_record : (bs : List ℕ) (t : Taken) (k v : ℤ) → v ≡ k → Some k ≡ counted_int s.column bs → taken_of t ≡ taken_int (window_of s) (Some v) → TakeIs s bs t
    unfolding taken
    good_record bs t k v q o g =
        record {
          gives = rw (h, sym o, sym q) g;
          kept = on-figures (t.window ≡ s) t.answer (slid (window_of s) v).ints (ap (λ (u : rule.Taken). u.answer) g);
        }
