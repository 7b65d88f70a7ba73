-- Bytes put end to end and cut into parts again; some elements, then only nones. Assumes nothing.
use Prim.Native.Nat.{ℕ, zero, suc, ◌*◌}
use mathlib.Core.Path.{◌≡◌, refl}
use mathlib.Core.Bool.{Bool, true, not}
use mathlib.Core.List.{List, [], ◌∷◌, ◌++◌, append_assoc}
use native.Mathlib.Omega.{arith}
use lib.Dec.{T, eqb, eqb→eq}
use lib.ListN.{length, replicate, length-append}
use lib.Seq.{take_at, drop_at}
use Rattle.std.specs.List.{list_all}
use Rattle.values.proofs.Bools.{and_l, and_r, not-T→false}
use Rattle.record_bytes.specs.Bytes.{parts, leading, then_only}
use Rattle.value_bytes.specs.Bytes.{end_to_end}

-- ── end to end ──

-- each of a size
abbrev pub sized : ℕ → List (List ℕ) → Bool
sized k l = list_all (λ (p : List ℕ). eqb (length p) k) l

module _ (k : ℕ) where
  pub ends-length : (l : List (List ℕ)) → T (sized k l) → length (end_to_end l) ≡ length l * k
  ends-length [] h = omega arith
  ends-length (p ∷ l) h =
      rw (length-append p (end_to_end l)) (omega (arith, eqb→eq (length p) k (and_l (eqb (length p) k) (sized k l) h), ends-length l (and_r (eqb (length p) k) (sized k l) h)))

  -- with any bytes after them
  pub ends-parts : (l : List (List ℕ)) (z : List ℕ) → T (sized k l) → parts k (length l) (end_to_end l ++ z) ≡ l
  ends-parts [] z h = refl
  ends-parts (p ∷ l) z h =
      let e = eqb→eq (length p) k (and_l (eqb (length p) k) (sized k l) h) in
      rw (append_assoc p (end_to_end l) z, take_at p (end_to_end l ++ z) k e, drop_at p (end_to_end l ++ z) k e, ends-parts l z (and_r (eqb (length p) k) (sized k l) h))

-- ── some, then only nones ──

module _ {A : Type 0} (is_none : A → Bool) where
  pub leading-some : (l : List A) (z : List A) → T (list_all (λ a. not (is_none a)) l) → leading is_none (l ++ z) ≡ l ++ leading is_none z
  leading-some [] z h = refl
  leading-some (a ∷ l) z h =
      rw (not-T→false (is_none a) (and_l (not (is_none a)) (list_all (λ x. not (is_none x)) l) h), leading-some l z (and_r (not (is_none a)) (list_all (λ x. not (is_none x)) l) h))

  pub then_some : (l : List A) (z : List A) → T (list_all (λ a. not (is_none a)) l) → then_only is_none (l ++ z) ≡ then_only is_none z
  then_some [] z h = refl
  then_some (a ∷ l) z h =
      rw (not-T→false (is_none a) (and_l (not (is_none a)) (list_all (λ x. not (is_none x)) l) h)) (then_some l z (and_r (not (is_none a)) (list_all (λ x. not (is_none x)) l) h))

  module _ (z : A) (none : is_none z ≡ true) where
    all_none : (n : ℕ) → list_all is_none (replicate n z) ≡ true
    all_none zero = refl
    all_none (suc n) = rw none (all_none n)

    pub leading-none : (n : ℕ) → leading is_none (replicate n z) ≡ []
    leading-none zero = refl
    leading-none (suc n) = rw none

    pub then_none : (n : ℕ) → then_only is_none (replicate n z) ≡ true
    then_none zero = refl
    then_none (suc n) = rw none (all_none n)
