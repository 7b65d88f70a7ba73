-- Laws of parts of a file: numbers from a first one on, four parts of 8 bytes, and the elements before the first none. Assumes nothing.
use Prim.Native.Nat.{ℕ, suc, ◌≤◌}
use mathlib.Core.Path.{◌≡◌, refl, ap}
use mathlib.Core.Bool.{Bool, true, false, cond, ◌&&◌}
use mathlib.Core.List.{List, [], ◌∷◌, map}
use native.Mathlib.Omega.{arith}
use lib.ListN.{length}
use lib.Seq.{drop-drop}
use Rattle.values.specs.Lists.{firsts}
use Rattle.std.specs.List.{list_all}
use Rattle.nets.specs.Sound.{is_absent}
use Rattle.record_bytes.specs.Bytes.{part, parts, leading, then_only, operand_in, operands_in}

-- ── numbers ──

-- a number from `n` on is `n` or above it
pub not_this : (n k : ℕ) → n ≤ k → (k ≡ n → ⊥) → suc n ≤ k
not_this n k l h = omega arith

-- ── parts ──

abbrev pub four : List ℕ → List (List ℕ)
four bs = part 0 8 bs ∷ part 8 16 bs ∷ part 16 24 bs ∷ part 24 32 bs ∷ []

pub four-parts : (bs : List ℕ) → parts 8 4 bs ≡ four bs
four-parts bs = rw (drop-drop 8 8 bs, drop-drop 8 16 bs)

-- ── some, then only nones ──

abbrev pub same : Bool → Bool
same x = x

module _ {A : Type 0} (p : A → Bool) where
  all-flags : (l : List A) → list_all same (map p l) ≡ list_all p l
  all-flags [] = refl
  all-flags (a ∷ l) = ap (λ t. p a && t) (all-flags l)

  pub leading-flags : (l : List A) → length (leading same (map p l)) ≡ length (leading p l)
  leading-flags [] = refl
  leading-flags (a ∷ l) = go (p a) (leading-flags l)
    where
      go : (t : Bool) → length (leading same (map p l)) ≡ length (leading p l) → length (cond t [] (t ∷ leading same (map p l))) ≡ length (cond t [] (a ∷ leading p l))
      go true e = refl
      go false e = ap suc e

  pub only_flags : (l : List A) → then_only same (map p l) ≡ then_only p l
  only_flags [] = refl
  only_flags (a ∷ l) = rw (all-flags l, only_flags l)

  pub all-four : (a b c d : A) → list_all p (a ∷ b ∷ c ∷ d ∷ []) ≡ (p a && p b && p c && p d)
  all-four a b c d = go (p a) (p b) (p c) (p d)
    where
      go : (a b c d : Bool) → (a && (b && (c && (d && true)))) ≡ (a && b && c && d)
      go false b c d = refl
      go true false c d = refl
      go true true false d = refl
      go true true true false = refl
      go true true true true = refl

-- as many first elements as come before the first none
pub firsts-leading : {A B : Type 0} (f : A → B) (z : A) (p : B → Bool) (l : List A) → firsts f z (length (leading p (map f l))) l ≡ leading p (map f l)
firsts-leading f z p [] = refl
firsts-leading f z p (a ∷ l) = go (p (f a)) (firsts-leading f z p l)
  where
    go : (t : Bool) → firsts f z (length (leading p (map f l))) l ≡ leading p (map f l) → firsts f z (length (cond t [] (f a ∷ leading p (map f l)))) (a ∷ l) ≡ cond t [] (f a ∷ leading p (map f l))
    go true e = refl
    go false e = ap (λ m. f a ∷ m) e

-- the operands before the first absent one, by parts of 8 bytes
pub operands_are : (bs : List ℕ) → operands_in bs ≡ leading is_absent (map operand_in (four bs))
unfolding operands_in
operands_are bs = ap (λ ps. leading is_absent (map operand_in ps)) (four-parts bs)
