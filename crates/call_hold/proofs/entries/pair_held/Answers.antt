-- `call_hold::entries::pair_held` meets its contract: the two in their order. Assumes nothing.
use Prim.Native.Nat.{ℕ}
use mathlib.Core.Path.{◌≡◌, refl}
use mathlib.Core.List.{List, [], ◌∷◌}
use borrow.Author.Tests.{eq-eqb, ne_eqb}
use lib.ListN.{get_or}
use Rattle.nets.specs.View.{TableVariable}
use Rattle.nets.specs.View.{no_variable}
use Rattle.call_hold.specs.Holdings.{pair_held}
use Rattle.call_hold.proofs.entries.pair_held.Goals as goal

module _ (h : ℕ) (rs : List TableVariable) (v : TableVariable) where
  reads_first_lem : h ≡ 1 → get_or rs 0 no_variable ∷ v ∷ [] ≡ pair_held h rs v
  reads_first_lem e = rw (eq-eqb h 1 e) refl

  reads_second_lem : (h ≡ 1 → ⊥) → v ∷ get_or rs 1 no_variable ∷ [] ≡ pair_held h rs v
  reads_second_lem n = rw (ne_eqb h 1 n) refl

pub returns-then-held-eq1 : goal.returns-then-held-eq1
returns-then-held-eq1 c = search reads_first_lem

pub returns : goal.returns
returns c = search reads_second_lem
