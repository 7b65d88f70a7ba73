-- An element goes, and the array closes up in place: each later element moves one place down. Over any element type. Assumes nothing.
use Prim.Native.Nat.{ℕ, zero, suc, ◌+◌, ◌-◌, ◌<◌, ◌≤◌}
use mathlib.Core.Path.{◌≡◌, refl, ap, ap₂, sym, subst, ◌∙◌}
use mathlib.Core.Bool.{Bool, true, false}
use mathlib.Core.List.{List, [], ◌∷◌}
use native.Mathlib.Omega.{arith}
use native.Mathlib.Nat.{add-zero}
use native.Mathlib.Numerals.{add-one}
use borrow.Author.Tests.{ltb-true, ltb-false}
use lib.Dec.{ltb}
use lib.ListN.{length, get_or, set, drop, length-set}
use lib.Seq.{get_or-set_same, get_or-set_other, paste, paste-zero, paste-suc}
use Rattle.std.specs.List.{copy_within}
use Rattle.std.proofs.lemmas.List.{get_or-drop, length-drop}
use Rattle.values.specs.Lists.{firsts, remove_at}
use Rattle.values.proofs.Firsts.{firsts_same}

-- the places of `new` from `at` up to `i` have what stood one place further on in `old`, and all others what stood there
pub record Closing {A : Type 0} (z : A) (old : List A) (at i : ℕ) (new : List A) : Type 0 where
  pub size : length new ≡ length old
  pub low : at ≤ i
  pub same : (j : ℕ) → j < at → get_or new j z ≡ get_or old j z
  pub moved : (j : ℕ) → at ≤ j → j < i → get_or new j z ≡ get_or old (suc j) z
  pub rest : (j : ℕ) → i ≤ j → get_or new j z ≡ get_or old j z

module _ {A : Type 0} (z : A) (old : List A) (at : ℕ) where
  pub closing_starts : Closing z old at at old
  closing_starts = record { size = refl; low = omega arith; same = λ j h. refl; moved = λ j h q. absurd (omega arith); rest = λ j h. refl }

  -- one more moved
  pub closing_more : {i : ℕ} {new : List A} → Closing z old at i new → i < length old → Closing z old at (i + 1) (set new i (get_or new (i + 1) z))
  closing_more {i} {new} inv high =
      record {
        size = length-set new i (get_or new (i + 1) z) ∙ inv.size;
        low = omega (arith, inv.low);
        same = λ j h. get_or-set_other new i j (get_or new (i + 1) z) z (λ e. omega (arith, inv.low)) ∙ inv.same j h;
        moved = λ j h q. here j h q (ltb j i) refl;
        rest = λ j h. get_or-set_other new i j (get_or new (i + 1) z) z (λ e. omega arith) ∙ inv.rest j (omega arith);
      }
    where
      here : (j : ℕ) → at ≤ j → j < i + 1 → (b : Bool) → ltb j i ≡ b → get_or (set new i (get_or new (i + 1) z)) j z ≡ get_or old (suc j) z
      here j h q true e =
          get_or-set_other new i j (get_or new (i + 1) z) z (λ d. omega (arith, ltb-true j i e)) ∙ inv.moved j h (ltb-true j i e)
      here j h q false e =
          let d : j ≡ i = omega (arith, ltb-false j i e) in
          rw (d, get_or-set_same new i (get_or new (i + 1) z) z (omega (arith, inv.size)), inv.rest (i + 1) (omega arith), add-one)

  -- as many moved by one copy
  closing-pasted : (k : ℕ) → at + k < length old → Closing z old at (at + k) (paste old at (drop (at + 1) old) k)
  closing-pasted zero h = rw (← paste-zero old at (drop (at + 1) old), add-zero at) closing_starts
  closing-pasted (suc k) h =
      let c = closing-pasted k (omega arith) in
      let s = drop (at + 1) old in
      let next : at + k + 1 ≡ at + suc k = omega arith in
      let seen : get_or (paste old at s k) (at + k + 1) z ≡ get_or s k z =
      c.rest (at + k + 1) (omega arith) ∙ ap (λ (j : ℕ). get_or old j z) (omega arith) ∙ sym (get_or-drop (at + 1) old k z) in
      subst (λ (i : ℕ). Closing z old at i (paste old at s (suc k))) next
      (subst (Closing z old at (at + k + 1)) (ap (set (paste old at s k) (at + k)) seen ∙ paste-suc old at s k z (omega arith) (omega (arith, length-drop (at + 1) old))) (closing_more c (omega arith)))

  pub closing_copied : (n : ℕ) → at < n → n ≤ length old → Closing z old at (n - 1) (copy_within old (at + 1) n at)
  closing_copied n h k = subst (λ (i : ℕ). Closing z old at i (copy_within old (at + 1) n at)) (omega arith) (closing-pasted (n - (at + 1)) (omega arith))

module _ {A B : Type 0} (f : A → B) (z : A) where
  -- the part in use, once all have moved
  firsts-remove : (n at : ℕ) (k l : List A) → at ≤ n → ((j : ℕ) → j < at → get_or k j z ≡ get_or l j z) → ((j : ℕ) → at ≤ j → j < n → get_or k j z ≡ get_or l (suc j) z) →
      firsts f z n k ≡ remove_at at (firsts f z (suc n) l)
  firsts-remove n zero k [] h same moved = firsts_same f z f z n k [] (λ j q. ap f (moved j (omega arith) q))
  firsts-remove n zero k (a ∷ l) h same moved = firsts_same f z f z n k l (λ j q. ap f (moved j (omega arith) q))
  firsts-remove zero (suc at) k l h same moved = absurd (omega arith)
  firsts-remove (suc n) (suc at) [] [] h same moved =
      ap (f z ∷◌) (firsts-remove n at [] [] (omega arith) (λ j q. same (suc j) (omega arith)) (λ j p q. moved (suc j) (omega arith) (omega arith)))
  firsts-remove (suc n) (suc at) [] (b ∷ l) h same moved =
      ap₂ ◌∷◌ (ap f (same 0 (omega arith))) (firsts-remove n at [] l (omega arith) (λ j q. same (suc j) (omega arith)) (λ j p q. moved (suc j) (omega arith) (omega arith)))
  firsts-remove (suc n) (suc at) (a ∷ k) [] h same moved =
      ap₂ ◌∷◌ (ap f (same 0 (omega arith))) (firsts-remove n at k [] (omega arith) (λ j q. same (suc j) (omega arith)) (λ j p q. moved (suc j) (omega arith) (omega arith)))
  firsts-remove (suc n) (suc at) (a ∷ k) (b ∷ l) h same moved =
      ap₂ ◌∷◌ (ap f (same 0 (omega arith))) (firsts-remove n at k l (omega arith) (λ j q. same (suc j) (omega arith)) (λ j p q. moved (suc j) (omega arith) (omega arith)))

  pub closing_ends : {old new : List A} {at i : ℕ} (n : ℕ) → Closing z old at i new → at < n → n - 1 ≤ i → firsts f z (n - 1) new ≡ remove_at at (firsts f z n old)
  closing_ends zero inv h q = absurd (omega arith)
  closing_ends {old} {new} {at} (suc n) inv h q =
      let e : suc n - 1 ≡ n = omega arith in
      rw e (firsts-remove n at new old (omega arith) inv.same (λ j p r. inv.moved j p (omega arith)))
