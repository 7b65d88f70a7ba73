-- One pass over an array that marks elements and replaces them, and the elements marked: what has been done after `i` of them, a step, and the end.
use Prim.Native.Nat.{ℕ, zero, suc, ◌+◌, ◌<◌, ◌≤◌}
use mathlib.Core.Path.{◌≡◌, refl, sym, ap, ap₂, ◌∙◌}
use mathlib.Core.Bool.{Bool, true, false, not, beq}
use mathlib.Core.List.{List, [], ◌∷◌, ◌++◌, map, append-nil}
use native.Mathlib.Omega.{arith}
use lib.Dec.{T}
use lib.ListN.{length, get_or, set, length-set}
use lib.Seq.{get_or-set_other}
use Rattle.values.specs.Lists.{firsts, filter, keep, count, bit}
use Rattle.values.proofs.Firsts.{length-firsts, firsts-next, firsts_push}
use Rattle.values.proofs.FlagLaws.{Flagged}
use Rattle.row_change.specs.ChangeContracts.{marks, sift}

-- ── the pass ──

-- the first `i` elements are marked by `p`; what `g` sees of a marked one is `h` of the element that it was, where `d` and `ok` say so; the others stand as they were
pub record Sweep {A B : Type 0} (p ok : A → Bool) (d : Bool) (g h : A → B) (z : A) (rs : List A) (i : ℕ) (out : List A) (fs : List Bool) : Type 0 where
  pub marked : Flagged (λ (k : ℕ). p (get_or rs k z)) 16 i fs
  pub long : length out ≡ length rs
  pub made : (k : ℕ) → T (get_or fs k false) → T d → T (ok (get_or rs k z)) → g (get_or out k z) ≡ h (get_or rs k z)
  pub rest : (k : ℕ) → get_or fs k false ≡ false → get_or out k z ≡ get_or rs k z

-- ── the elements marked ──

sift-next : {A : Type 0} (w : Bool) (bs : List Bool) (l : List A) (b : Bool) (a : A) → length bs ≡ length l →
    sift w (bs ++ (b ∷ [])) (l ++ (a ∷ [])) ≡ sift w bs l ++ keep (beq b w) a []
sift-next w [] [] b a e = refl
sift-next w [] (x ∷ l) b a e = absurd (omega arith)
sift-next w (x ∷ bs) [] b a e = absurd (omega arith)
sift-next {A} w (x ∷ bs) (y ∷ l) b a e = go (beq x w) (sift-next w bs l b a (omega arith))
  where
    go : (t : Bool) → sift w (bs ++ (b ∷ [])) (l ++ (a ∷ [])) ≡ sift w bs l ++ keep (beq b w) a [] →
        keep t y (sift w (bs ++ (b ∷ [])) (l ++ (a ∷ []))) ≡ keep t y (sift w bs l) ++ keep (beq b w) a []
    go true q = ap (y ∷◌) q
    go false q = q

-- of the first `i` elements those marked `w` stand in front, `k` of them in order, and those not yet read as they were
pub record Sift {A B : Type 0} (g : A → B) (z : A) (w : Bool) (fs : List Bool) (l : List A) (i : ℕ) (out : List A) (k : ℕ) : Type 0 where
  pub few : k ≤ i
  pub long : length out ≡ length l
  pub rest : (j : ℕ) → i ≤ j → get_or out j z ≡ get_or l j z
  pub seen : firsts g z k out ≡ sift w (marks i fs) (firsts g z i l)

module _ {A B : Type 0} (g : A → B) (z : A) (w : Bool) (fs : List Bool) (l : List A) where
  pub sift-starts : Sift g z w fs l 0 l 0
  sift-starts = record { few = omega arith; long = refl; rest = λ j h. refl; seen = refl }

  module _ {i k : ℕ} {out : List A} (so_far : Sift g z w fs l i out k) where
    next : (t : Bool) → beq (get_or fs i false) w ≡ t → sift w (marks (i + 1) fs) (firsts g z (i + 1) l) ≡ firsts g z k out ++ keep t (g (get_or l i z)) []
    next t e =
        ap₂ (sift w) (firsts-next (λ (b : Bool). b) false i fs) (firsts-next g z i l)
        ∙ sift-next w (marks i fs) (firsts g z i l) (get_or fs i false) (g (get_or l i z)) (length-firsts (λ (b : Bool). b) false i fs ∙ sym (length-firsts g z i l))
        ∙ ap₂ ◌++◌ (sym so_far.seen) (ap (λ (b : Bool). keep b (g (get_or l i z)) []) e)

    pub sift_stores : i < length l → beq (get_or fs i false) w ≡ true → Sift g z w fs l (i + 1) (set out k (get_or out i z)) (k + 1)
    sift_stores low e =
        record {
          few = omega (arith, so_far.few);
          long = length-set out k (get_or out i z) ∙ so_far.long;
          rest = λ j h. get_or-set_other out k j (get_or out i z) z (λ (c : j ≡ k). omega (arith, so_far.few)) ∙ so_far.rest j (omega arith);
          seen =
              firsts_push g z k out (get_or out i z) (omega (arith, so_far.long, so_far.few))
              ∙ ap (λ (b : A). firsts g z k out ++ (g b ∷ [])) (so_far.rest i (omega arith))
              ∙ sym (next true e);
        }

    pub sift-passes : beq (get_or fs i false) w ≡ false → Sift g z w fs l (i + 1) out k
    sift-passes e =
        record {
          few = omega (arith, so_far.few);
          long = so_far.long;
          rest = λ j h. so_far.rest j (omega arith);
          seen = sym (next false e ∙ append-nil (firsts g z k out));
        }

    pub sift-ends : {n : ℕ} → i ≡ n → firsts g z k out ≡ sift w (marks n fs) (firsts g z n l)
    sift-ends e = so_far.seen ∙ ap (λ (n : ℕ). sift w (marks n fs) (firsts g z n l)) e

-- ── marks by a test ──

module _ {A : Type 0} (q : A → Bool) where
  pub sift-marked : (l : List A) → sift true (map q l) l ≡ filter q l
  sift-marked [] = refl
  sift-marked (a ∷ l) = go (q a) (sift-marked l)
    where
      go : (t : Bool) → sift true (map q l) l ≡ filter q l → keep (beq t true) a (sift true (map q l) l) ≡ keep t a (filter q l)
      go true e = ap (a ∷◌) e
      go false e = e

  pub sift-others : (l : List A) → sift false (map q l) l ≡ filter (λ (a : A). not (q a)) l
  sift-others [] = refl
  sift-others (a ∷ l) = go (q a) (sift-others l)
    where
      go : (t : Bool) → sift false (map q l) l ≡ filter (λ (x : A). not (q x)) l → keep (beq t false) a (sift false (map q l) l) ≡ keep (not t) a (filter (λ (x : A). not (q x)) l)
      go true e = e
      go false e = ap (a ∷◌) e

  -- of another list, whose marked elements are `f` of those at their places
  pub sift-made : {B : Type 0} (f : A → B) (y : A) (z : B) (l : List A) (m : List B) → length l ≡ length m →
      ((i : ℕ) → i < length l → T (q (get_or l i y)) → get_or m i z ≡ f (get_or l i y)) → sift true (map q l) m ≡ map f (filter q l)
  sift-made f y z [] [] e h = refl
  sift-made f y z [] (b ∷ m) e h = absurd (omega arith)
  sift-made f y z (a ∷ l) [] e h = absurd (omega arith)
  sift-made {B} f y z (a ∷ l) (b ∷ m) e h = go (q a) (h 0 (omega arith)) (sift-made f y z l m (omega arith) (λ i low. h (suc i) (omega arith)))
    where
      go : (t : Bool) → (T t → b ≡ f a) → sift true (map q l) m ≡ map f (filter q l) → keep (beq t true) b (sift true (map q l) m) ≡ map f (keep t a (filter q l))
      go true new ih = ap₂ ◌∷◌ (new tt) ih
      go false new ih = ih

  pub count_map : (l : List A) → count (λ (b : Bool). b) (map q l) ≡ count q l
  count_map [] = refl
  count_map (a ∷ l) = ap (bit (q a) +◌) (count_map l)

-- past those in use no mark is set
pub count-marks : (n : ℕ) (fs : List Bool) → ((k : ℕ) → n ≤ k → get_or fs k false ≡ false) → count (λ (b : Bool). b) fs ≡ count (λ (b : Bool). b) (marks n fs)
count-marks zero [] h = refl
count-marks zero (b ∷ fs) h = ap₂ ◌+◌ (ap bit (h 0 (omega arith))) (count-marks zero fs (λ k low. h (suc k) (omega arith)))
count-marks (suc n) [] h = omega (arith, count-marks n [] (λ k low. refl))
count-marks (suc n) (b ∷ fs) h = ap (bit b +◌) (count-marks n fs (λ k low. h (suc k) (omega arith)))
