-- The kind that a byte stands for, and tests of it by the byte. Assumes nothing.
use Rattle.std.specs.Prelude.{cond, Some}
use Prim.Native.Nat.{ℕ, ◌-◌, ◌<◌, ◌≤◌}
use mathlib.Core.Path.{◌≡◌, refl, ap, sym, ◌∙◌, subst}
use mathlib.Core.Bool.{Bool, true, false, not, ◌&&◌, ◌||◌, beq}
use mathlib.Core.List.{List, [], ◌∷◌}
use mathlib.Core.Logic.{inl, inr}
use native.Mathlib.Omega.{arith}
use lib.Dec.{T, T_not, not_T, eqb, eqb→eq, ltb, leb, leb→le, le→leb, lt→ltb, eqb_refl}
use mir.Val.{has_key}
use mir.Facts.{or_yes}
use types.Run.{OneOf, hit}
use borrow.Author.Tests.{eqb-true, ne_eqb}
use Rattle.values.specs.Lists.{filter, or_else, places}
use Rattle.std.specs.List.{find, list_all, list_any}
use Rattle.values.proofs.Bools.{and_l, and_r, and_in, T_of}
use Rattle.values.proofs.PlaceLaws.{all-places}
use Rattle.nets.specs.Nets.{Kind, other, bad_kind, code}
use Rattle.nets.specs.View.{kinds, every_kind, kind_at}
use Rattle.nets.proofs.KindClasses.{Each, every-passes, alike, class_same, of_class}

-- ── the kind of a byte ──

-- a kind of the list has the byte for its number
abbrev pub has_code : List Kind → ℕ → Bool
has_code ks b = list_any (λ k. eqb (code k) b) ks

-- what holds of a kind with that number, and of no kind where none has it, holds of the byte's kind
kind_cases : (P : Kind → Type 0) (b : ℕ) → ((k : Kind) → code k ≡ b → P k) → (T (not (has_code kinds b)) → P (other bad_kind)) → P (kind_at b)
unfolding kind_at
kind_cases P b known none = go kinds none
  where
    go : (ks : List Kind) → (T (not (has_code ks b)) → P (other bad_kind)) → P (or_else (other bad_kind) (find (λ k. eqb (code k) b) ks))
    go [] h = h tt
    go (k ∷ ks) h = here (eqb (code k) b) refl (go ks) h
      where
        here : (t : Bool) → eqb (code k) b ≡ t → ((T (not (has_code ks b)) → P (other bad_kind)) → P (or_else (other bad_kind) (find (λ j. eqb (code j) b) ks)))
            → (T (not (t || has_code ks b)) → P (other bad_kind)) → P (or_else (other bad_kind) (cond t (Some k) (find (λ j. eqb (code j) b) ks)))
        here true e ih h = known k (eqb-true (code k) b e)
        here false e ih h = ih h

-- a byte is a kind's number where its kind has that number
pub kind-is : (b n : ℕ) → T (has_code kinds n) → eqb b n ≡ eqb (code (kind_at b)) n
kind-is b n h = kind_cases (λ k. eqb b n ≡ eqb (code k) n) b (λ k e. ap (λ (m : ℕ). eqb m n) (sym e)) (λ q. ne_eqb b n (unlike b q) ∙ sym (ne_eqb 0 n (unlike 0 tt)))
  where
    unlike : (m : ℕ) → T (not (has_code kinds m)) → m ≡ n → ⊥
    unlike m q e = T_not (has_code kinds n) (subst (λ (i : ℕ). T (not (has_code kinds i))) e q) h

-- a test that the kind with one number alone passes
pub at_one : (p : Kind → Bool) (n : ℕ) → T (has_code kinds n) → T (list_all (λ k. beq (eqb (code k) n) (p k)) every_kind) → (b : ℕ) → eqb b n ≡ p (kind_at b)
at_one p n h only b = kind-is b n h ∙ class_same (λ k. eqb (code k) n) p only (kind_at b)

-- `P` of the byte of a kind in a class, from `P` of the numbers of those that are in it
pub class_byte : (P : ℕ → Type 0) (p : Kind → Bool) → T (not (p (other bad_kind))) → Each (λ k. P (code k)) (filter p every_kind) → (b : ℕ) → T (p (kind_at b)) → P b
class_byte P p none h b =
    kind_cases (λ k. T (p k) → P b) b (λ k e t. subst P e (of_class (λ j. P (code j)) p h k t)) (λ q t. absurd (T_not (p (other bad_kind)) none t))

-- ── the number of the kind of a byte ──

-- a kind's number itself, and 0 of any other byte
abbrev within : ℕ → ℕ
within n = cond (leb 16 n && leb n 26) n 0

pub code_of_byte : (b : ℕ) → code (kind_at b) ≡ within b
code_of_byte b =
    kind_cases (λ k. code k ≡ within b) b
    (λ k e. subst (λ (n : ℕ). code k ≡ within n) e (eqb→eq (code k) (within (code k)) (every-passes (λ j. eqb (code j) (within (code j))) tt k)))
    (λ q. none q (leb 16 b && leb b 26) refl)
  where
    none : T (not (has_code kinds b)) → (t : Bool) → (leb 16 b && leb b 26) ≡ t → 0 ≡ cond t b 0
    none q true e =
        absurd
        (T_not (has_code kinds b) q
        (all-places (has_code kinds) 16 11 tt b (leb→le 16 b (and_l (leb 16 b) (leb b 26) (T_of _ e))) (omega (arith, leb→le b 26 (and_r (leb 16 b) (leb b 26) (T_of _ e))))))
    none q false e = refl
