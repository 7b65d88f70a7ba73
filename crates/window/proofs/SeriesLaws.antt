-- The records taken since a beginning: each call meets the window that the records before it say.
use Prim.Native.Nat.{ℕ, ◌-◌}
use mathlib.Core.Path.{◌≡◌, refl, sym, ap, ap₂, subst, ◌∙◌}
use mathlib.Core.Bool.{Bool, true, false, cond}
use mathlib.Core.List.{List, [], ◌∷◌, ◌++◌, map, append-nil}
use Rattle.std.specs.Prelude.{Option, None, Some, Result, Ok, Err, OnErr}
use lib.Dec.{leb}
use lib.IntN.{ℤ}
use lib.ListN.{length}
use lib.Seq.{drop-nil}
use borrow.Author.Tests.{le-leb}
use Rattle.values.specs.Lists.{present}
use Rattle.window_rules.specs.Windows.{counted_int, width_ok, window_ok, begun, refused, figures_of, last_of, slid, not_taken, taken_int, taken}
use Rattle.window_rules.specs.Windows as rule
use Rattle.window_rules.specs.Since.{counted_ints, window_after, answer_after, each_after}
use Rattle.window.specs.declared.Window.{Window}
use Rattle.window.specs.declared.figures.Figures.{Figures}
use Rattle.window.specs.declared.Refused.{Refused}
use Rattle.window.specs.declared.Taken.{Taken}
use Rattle.window.specs.WindowCalls.{window_of, answer_of}
use Rattle.window.specs.SinceBeginning.{Series, ended, further, SinceBeginning, RefusedState}
use Rattle.window.proofs.SlideLaws.{last-length, last_again}
use Rattle.window.proofs.TakeLaws.{not-refused}

-- ── the rules: one record more ──

-- the Ints that count, with one record more
counted_more : (c : ℕ) (before : List (List ℕ)) (r : List ℕ) → counted_ints c (before ++ (r ∷ [])) ≡ counted_ints c before ++ present (counted_int c r ∷ [])
counted_more c [] r = refl
counted_more c (b ∷ before) r = go (counted_int c b) (counted_more c before r)
  where
    go : (o : Option ℤ) → counted_ints c (before ++ (r ∷ [])) ≡ counted_ints c before ++ present (counted_int c r ∷ []) → present (o ∷ map (counted_int c) (before ++ (r ∷ []))) ≡ present (o ∷ map (counted_int c) before) ++ present (counted_int c r ∷ [])
    go None h = h
    go (Some k) h = ap (k ∷◌) h

counted_none : (c : ℕ) (before : List (List ℕ)) (r : List ℕ) → counted_int c r ≡ None → counted_ints c (before ++ (r ∷ [])) ≡ counted_ints c before
counted_none c before r e = counted_more c before r ∙ ap (λ (o : Option ℤ). counted_ints c before ++ present (o ∷ [])) e ∙ append-nil (counted_ints c before)

counted_some : (c : ℕ) (before : List (List ℕ)) (r : List ℕ) (k : ℤ) → counted_int c r ≡ Some k → counted_ints c (before ++ (r ∷ [])) ≡ counted_ints c before ++ (k ∷ [])
counted_some c before r k e = counted_more c before r ∙ ap (λ (o : Option ℤ). counted_ints c before ++ present (o ∷ [])) e

abbrev holding : ℕ → ℕ → List ℤ → rule.Window
holding w c l = record { width = w; column = c; ints = cond (width_ok w) (last_of w l) [] }

-- what `taken` gives to the window after some records
pub record Steps (w c : ℕ) (before : List (List ℕ)) (r : List ℕ) : Type 0 where
  pub answer : (taken (window_after w c before) r).answer ≡ answer_after w c before r
  pub next : (taken (window_after w c before) r).next ≡ window_after w c (before ++ (r ∷ []))

module _ (w c : ℕ) (before : List (List ℕ)) (r : List ℕ) where
  -- a w that is refused
  never : width_ok w ≡ false → Steps w c before r
  unfolding taken answer_after
  never e = record { answer = rw e refl; next = rw e refl }

  module _ (e : width_ok w ≡ true) where
    fits : leb (length (last_of w (counted_ints c before))) w ≡ true
    fits = le-leb (length (last_of w (counted_ints c before))) w (last-length w (counted_ints c before))

    step : taken (window_after w c before) r ≡ taken_int (window_after w c before) (counted_int c r)
    unfolding taken
    step = rw (e, fits) refl

    none-taken : counted_int c r ≡ None → Steps w c before r
    unfolding answer_after
    none-taken o =
        let t = step ∙ ap (taken_int (window_after w c before)) o in
        record {
          answer = ap (λ (u : rule.Taken). u.answer) t ∙ rw (e, o) refl;
          next = ap (λ (u : rule.Taken). u.next) t ∙ sym (ap (holding w c) (counted_none c before r o));
        }

    some-taken : (k : ℤ) → counted_int c r ≡ Some k → Steps w c before r
    unfolding answer_after slid
    some-taken k o =
        let t = step ∙ ap (taken_int (window_after w c before)) o in
        let l : (slid (window_after w c before) k).ints ≡ last_of w (counted_ints c (before ++ (r ∷ []))) =
        rw e (last_again w (counted_ints c before) k) ∙ sym (ap (last_of w) (counted_some c before r k o)) in
        record {
          answer = ap (λ (u : rule.Taken). u.answer) t ∙ ap figures_of l ∙ rw (e, o) refl;
          next = ap (λ (u : rule.Taken). u.next) t ∙ ap (λ (m : List ℤ). record { width = w; column = c; ints = m }) l ∙ rw e refl;
        }

  steps : Steps w c before r
  steps = by_width (width_ok w) refl
    where
      by_record : width_ok w ≡ true → (o : Option ℤ) → counted_int c r ≡ o → Steps w c before r
      by_record e None q = none-taken e q
      by_record e (Some k) q = some-taken e k q

      by_width : (b : Bool) → width_ok w ≡ b → Steps w c before r
      by_width true e = by_record e (counted_int c r) refl
      by_width false e = never e

-- ── the calls ──

module _ (w c : ℕ) where
  abbrev next_window : List (List ℕ) → List ℕ → rule.Window
  next_window before r = window_after w c (before ++ (r ∷ []))

  answers_of : (before : List (List ℕ)) (s : Window) (rs : List (List ℕ)) (ts : List Taken) → window_of s ≡ window_after w c before → Series s rs ts →
      map (λ (t : Taken). answer_of t.answer) ts ≡ each_after (answer_after w c) before rs
  answers_of before s [] [] e ended = refl
  answers_of before s [] (t ∷ ts) e more = elim more [ ]
  answers_of before s (r ∷ rs) [] e more = elim more [ ]
  answers_of before s (r ∷ rs) (t ∷ ts) e (further h more) =
      let g = h.gives ∙ ap (λ (u : rule.Window). taken u r) e in
      ap₂ ◌∷◌ (ap (λ (u : rule.Taken). u.answer) g ∙ (steps w c before r).answer)
      (answers_of (before ++ (r ∷ [])) t.window rs ts (ap (λ (u : rule.Taken). u.next) g ∙ (steps w c before r).next) more)

  windows_of : (before : List (List ℕ)) (s : Window) (rs : List (List ℕ)) (ts : List Taken) → window_of s ≡ window_after w c before → Series s rs ts →
      map (λ (t : Taken). window_of t.window) ts ≡ each_after next_window before rs
  windows_of before s [] [] e ended = refl
  windows_of before s [] (t ∷ ts) e more = elim more [ ]
  windows_of before s (r ∷ rs) [] e more = elim more [ ]
  windows_of before s (r ∷ rs) (t ∷ ts) e (further h more) =
      let n = ap (λ (u : rule.Taken). u.next) (h.gives ∙ ap (λ (u : rule.Window). taken u r) e) ∙ (steps w c before r).next in
      ap₂ ◌∷◌ n (windows_of (before ++ (r ∷ [])) t.window rs ts n more)

-- a beginning has no rows, whatever w
begun-after : (w c : ℕ) → begun w c ≡ window_after w c []
begun-after w c = go (width_ok w) (last_none w)
  where
    last_none : (n : ℕ) → ◌≡◌ {A = List ℤ} (last_of n []) []
    last_none n = drop-nil (0 - n)

    go : (b : Bool) → ◌≡◌ {A = List ℤ} (last_of w []) [] → begun w c ≡ record { width = w; column = c; ints = cond b (last_of w []) [] }
    go true h = ap (λ (l : List ℤ). record { width = w; column = c; ints = l }) (sym h)
    go false h = refl

pub since_beginning : SinceBeginning
since_beginning w c b rs ts h more =
    let e = h.window ∙ begun-after w c in
    record { answers = answers_of w c [] b.window rs ts e more; windows = windows_of w c [] b.window rs ts e more }

-- ── a state that is refused ──

stays : (s : Window) (r : List ℕ) → window_ok (window_of s) ≡ false → taken (window_of s) r ≡ not_taken 23 (window_of s)
unfolding taken
stays s r e = rw e refl

kept-refused : (P : Type 0) (a : Result Figures Refused) (n : ℕ) → answer_of a ≡ refused n → OnErr a P → P
kept-refused P (Ok f) n e h = absurd (not-refused e)
kept-refused P (Err r) n e h = h

pub refused_state : RefusedState
refused_state s [] [] e ended = record { answers = refl; windows = refl }
refused_state s [] (t ∷ ts) e more = elim more [ ]
refused_state s (r ∷ rs) [] e more = elim more [ ]
refused_state s (r ∷ rs) (t ∷ ts) e (further h more) =
    let g = h.gives ∙ stays s r e in
    let a = ap (λ (u : rule.Taken). u.answer) g in
    let k : t.window ≡ s = kept-refused (t.window ≡ s) t.answer 23 a h.kept in
    let rest = refused_state s rs ts e (subst (λ (u : Window). Series u rs ts) k more) in
    record { answers = ap₂ ◌∷◌ a rest.answers; windows = ap₂ ◌∷◌ k rest.windows }
