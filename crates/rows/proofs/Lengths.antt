-- Every row of a relation that a function is passed has four cells: what owning the relation tells says so of each element.
use Prim.Native.Nat.{ℕ, zero, suc, ◌<◌, ◌≤◌}
use mathlib.Core.Path.{◌≡◌, subst, sym}
use mathlib.Core.List.{List, [], ◌∷◌}
use native.Mathlib.Omega.{arith}
use lib.ListN.{length, get_or}
use mir.Val.{Val}
use base.Fml.{Fml}
use denote.Array.{each}
use denote.Laws.{Is}
use denote.Shadow.{shadow}
use Rattle.rows.specs.declared.Row.{Row}
use Rattle.rows.specs.declared.Relation.{Relation}
use Rattle.rows.specs.View.{no_row}
use Rattle.rows.specs.contracts.Row as W
use Rattle.rows.specs.contracts.Relation as R

-- what is told of each element of an array, of the one at a place
module _ {A : Type 0} (own : A → List Val → Fml) (P : A → Type 0) (tells : (a : A) (vs : List Val) → shadow (own a vs) → P a) where
  told_at : (l : List A) (us : List Val) → shadow (each A own l us) → (i : ℕ) (z : A) → i < length l → P (get_or l i z)
  told_at [] us s i z h = absurd (omega arith)
  told_at (a ∷ l) [] s i z h = absurd s
  told_at (a ∷ l) (u ∷ us) s zero z h = tells a (u ∷ []) s.0
  told_at (a ∷ l) (u ∷ us) s (suc i) z h = told_at l us s.1 i z (omega arith)

module _ (r : Relation) (vs : List Val) (good : Is R.the_row r vs) where
  pub rows_long : length r.rows ≡ 16
  rows_long = good.1.1.1.1.0.1.0.1

  pub row-there : r.count ≤ 16 → {i : ℕ} → i < r.count → i < length r.rows
  row-there few h = omega (arith, rows_long)

  pub cells-long : (i : ℕ) → i < 16 → length (get_or r.rows i no_row).cells ≡ 4
  cells-long i h =
      told_at (W.the_row).own_val (λ (row : Row). length row.cells ≡ 4)
      (λ row us s. s.1.1.0.1.0.1) r.rows _ good.1.1.1.1.0.1.1 i no_row
      (subst (λ (n : ℕ). i < n) (sym rows_long) h)
