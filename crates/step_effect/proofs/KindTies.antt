-- Which tables a done step leaves, by the byte of its kind. Assumes nothing.
use Prim.Native.Nat.{ℕ}
use mathlib.Core.Path.{◌≡◌, sym, ap, ◌∙◌}
use mathlib.Core.List.{List, [], ◌∷◌, ◌++◌}
use mathlib.Core.Logic.{◌⊎◌, inl, inr}
use lib.Dec.{T}
use Rattle.values.specs.declared.Site.{Site}
use Rattle.values.specs.Lists.{remove_at}
use Rattle.rows.specs.Relations.{Relation}
use Rattle.nets.specs.Nets as M
use Rattle.nets.specs.Nets.{Kind, needs_table}
use Rattle.nets.specs.View.{kind_at}
use Rattle.step_effect.specs.EffectContracts.{puts_rows}
use Rattle.step_effect.specs.TableContracts.{tables_with}
use Rattle.nets.proofs.KindClasses.{class_in}

pub either : {A B C : Type 0} → A ⊎ B → (A → C) → (B → C) → C
either (inl a) f g = f a
either (inr b) f g = g b

module _ (at : ℕ) (ts : List M.Table) (s : Site) (d : M.Node) (q : Relation) where
  pub with-drop : {b : ℕ} → b ≡ 24 → tables_with (kind_at b) at ts s d q ≡ remove_at at ts
  unfolding kind_at tables_with
  with-drop h = ap (λ (b : ℕ). tables_with (kind_at b) at ts s d q) h

  pub with_create : {b : ℕ} {t : M.Table} {rs : List M.Table} → b ≡ 23 → t ≡ record { site = s; name = d.name; content = record { columns = d.columns; rows = [] } } → rs ≡ ts ++ (t ∷ []) → rs ≡ tables_with (kind_at b) at ts s d q
  unfolding kind_at tables_with
  with_create h e k = k ∙ ap (λ (u : M.Table). ts ++ (u ∷ [])) e ∙ sym (ap (λ (b : ℕ). tables_with (kind_at b) at ts s d q) h)

-- kinds that put rows need a table
pub puts_needs : (k : Kind) → T (puts_rows k) → T (needs_table k)
puts_needs = class_in puts_rows needs_table tt
