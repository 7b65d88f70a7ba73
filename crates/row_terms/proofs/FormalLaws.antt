-- The last place of a formal, by what stands at the places of T. Assumes nothing.
use Prim.Native.Nat.{ℕ, zero, suc, ◌+◌, ◌<◌}
use mathlib.Core.Path.{◌≡◌, refl, ap, ◌∙◌}
use mathlib.Core.Bool.{Bool, true, false, cond}
use mathlib.Core.List.{List, [], ◌∷◌}
use native.Mathlib.Omega.{arith}
use lib.ListN.{length, get_or}
use Rattle.std.specs.Prelude.{Option, None, Some, MatchOption}
use Rattle.values.specs.declared.Operand.{Operand}
use Rattle.values.specs.declared.Operand.TheVariants.{Absent}
use Rattle.values.specs.Operands.{formal_of}
use Rattle.rows.specs.Plans.{is_formal_of, formal_place}

module _ (i : ℕ) where
  -- the operand at a place is a formal of variable `i`
  abbrev pub formal_at : List Operand → ℕ → Bool
  formal_at t k = is_formal_of i (formal_of (get_or t k Absent))

  -- none from place `n` on
  none_from : (t : List Operand) (at n : ℕ) → ((k : ℕ) → k < length t → formal_at t k ≡ false) → formal_place i at n t ≡ at
  none_from [] at n none = refl
  none_from (o ∷ t) at n none =
      ap (λ b. formal_place i (cond b n at) (suc n) t) (none 0 (omega arith)) ∙ none_from t at (suc n) (λ k low. none (suc k) (omega arith))

  last-from : (t : List Operand) (at n k : ℕ) → k < length t → formal_at t k ≡ true → ((j : ℕ) → k < j → j < length t → formal_at t j ≡ false) → formal_place i at n t ≡ n + k
  last-from [] at n k low here after = absurd (omega arith)
  last-from (o ∷ t) at n zero low here after =
      ap (λ b. formal_place i (cond b n at) (suc n) t) here ∙ none_from t n (suc n) (λ j less. after (suc j) (omega arith) (omega arith)) ∙ omega arith
  last-from (o ∷ t) at n (suc k) low here after =
      last-from t (cond (is_formal_of i (formal_of o)) n at) (suc n) k (omega arith) here (λ j more less. after (suc j) (omega arith) (omega arith)) ∙ omega arith

  -- where no place has it, and of the last place that has it
  pub last_formal : (t : List Operand) (o : Option ℕ) →
      MatchOption o ((k : ℕ) → k < length t → formal_at t k ≡ false) (λ at. (at < length t) × (formal_at t at ≡ true) × ((k : ℕ) → at < k → k < length t → formal_at t k ≡ false)) →
      MatchOption o (formal_place i 4 0 t ≡ 4) (λ at. at ≡ formal_place i 4 0 t)
  last_formal t None none = none_from t 4 0 none
  last_formal t (Some at) told = omega (arith, last-from t 4 0 at told.0 told.1 told.2)
