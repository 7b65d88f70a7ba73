-- Sets held by flags, and loops that set them. Assumes nothing.
use Prim.Native.Nat.{ℕ, zero, suc, ◌+◌, ◌<◌, ◌≤◌}
use mathlib.Core.Path.{◌≡◌, refl, sym, ap, ◌∙◌, subst}
use mathlib.Core.Bool.{Bool, true, false, ◌&&◌}
use mathlib.Core.List.{List}
use native.Mathlib.Omega.{arith}
use borrow.Author.Tests.{lt-ltb, le-ltb, ltb-true, ltb-false}
use lib.Dec.{ltb}
use lib.ListN.{length, get_or, set, replicate, length-replicate, length-set, get_or-eq_default}
use lib.Seq.{get_or-set_same, get_or-set_other}

-- past its end no flag is set
pub flag-past : (l : List Bool) {n : ℕ} (i : ℕ) → length l ≡ n → n ≤ i → false ≡ get_or l i false
flag-past l i e h = sym (get_or-eq_default l false (subst (λ (k : ℕ). k ≤ i) (sym e) h))

-- of `n` flags those below `i` are as `p` says, and the others are unset
pub record Flagged (p : ℕ → Bool) (n i : ℕ) (l : List Bool) : Type 0 where
  pub size : length l ≡ n
  pub flags : (k : ℕ) → get_or l k false ≡ (ltb k i && p k)

unset : (n k : ℕ) → get_or (replicate n false) k false ≡ false
unset zero k = refl
unset (suc n) zero = refl
unset (suc n) (suc k) = unset n k

module _ (p : ℕ → Bool) (n : ℕ) where
  pub flagged-starts : Flagged p n 0 (replicate n false)
  flagged-starts =
      record { size = length-replicate n false; flags = λ k. unset n k ∙ sym (ap (◌&& p k) (le-ltb k 0 (omega arith))) }

  pub flagged-more : {i : ℕ} {l : List Bool} {b : Bool} → Flagged p n i l → i < n → b ≡ p i → Flagged p n (i + 1) (set l i b)
  flagged-more {i} {l} {b} inv h q =
      record { size = length-set l i b ∙ inv.size; flags = λ k. here k (ltb k i) refl (ltb i k) refl }
    where
      here : (k : ℕ) (s : Bool) → ltb k i ≡ s → (t : Bool) → ltb i k ≡ t → get_or (set l i b) k false ≡ (ltb k (i + 1) && p k)
      here k true e t e' =
          let d = ltb-true k i e in
          get_or-set_other l i k b false (λ x. omega arith) ∙ inv.flags k ∙ ap (◌&& p k) (e ∙ sym (lt-ltb k (i + 1) (omega arith)))
      here k false e true e' =
          let d = ltb-true i k e' in
          get_or-set_other l i k b false (λ x. omega arith) ∙ inv.flags k ∙ ap (◌&& p k) (e ∙ sym (le-ltb k (i + 1) (omega arith)))
      here k false e false e' =
          let d : k ≡ i = omega (arith, ltb-false k i e, ltb-false i k e') in
          rw (d, get_or-set_same l i b false (omega (arith, inv.size)), lt-ltb i (i + 1) (omega arith)) q
