-- What the rule of an answer comes to, kind by kind: computed from checks 16, 17, 18 and 20 and the counts. Assumes nothing.
use Prim.Native.Nat.{ℕ, ◌+◌}
use mathlib.Core.Path.{◌≡◌}
use mathlib.Core.Bool.{Bool, not, ◌&&◌, and-true}
use mathlib.Core.List.{[]}
use lib.Dec.{eqb, leb, ltb}
use lib.ListN.{length}
use Rattle.values.specs.Lists.{count}
use Rattle.values.specs.Operands.{is_got}
use Rattle.rows.specs.Matching.{matches1, hits}
use Rattle.rows.specs.Fit.{fits, same_columns}
use Rattle.row_change.specs.Aggregates.{column_fits}
use Rattle.nets.specs.Nets.{acting, other, insert, insert_table, delete, update, create, drop, select, select_relation, aggregate}
use Rattle.nets.specs.Scenes.{Parts, own_draft, result}
use Rattle.nets.specs.Steps.{check16, check17, check18, change_count, added_by, taken_by, verdict, first_refusal}
use Rattle.nets.specs.Answers.{Said, refusing, doing, step_said}

-- a check that fails gives its number
abbrev pub passing : Bool → ℕ → Said → Said
passing b n s = verdict refusing b n [] s

-- T is as long as the columns
abbrev long : Parts → Bool
long p = eqb (length p.node.selector.template) (length p.source.columns)

module _ (p : Parts) (held : Bool) (tables : ℕ) where
  pub insert-form : p.node.kind ≡ acting insert → step_said p held tables ≡ passing (fits p.content.columns (own_draft p)) 16 (passing (ltb (length p.content.rows) 16) 20 (doing 1 0))
  unfolding step_said first_refusal check16 check17 check18 added_by taken_by
  insert-form e = simp (e, and-true)

  pub append-form :
      p.node.kind ≡ acting insert_table →
      step_said p held tables ≡ passing (same_columns p.content.columns p.source.columns) 16 (passing (leb (length p.content.rows + length p.source.rows) 16) 20 (doing (length p.source.rows) 0))
  unfolding step_said first_refusal check16 check17 check18 added_by taken_by
  append-form e = simp (e, and-true)

  pub delete_form : p.node.kind ≡ acting delete → step_said p held tables ≡ passing (long p) 16 (passing (not held) 17 (doing 0 (count (hits p.vars p.node.selector) p.content.rows)))
  unfolding step_said first_refusal check16 check17 check18 added_by taken_by
  delete_form e = simp (e, and-true)

  pub select-form : p.node.kind ≡ other select → step_said p held tables ≡ passing (long p) 16 (passing (not held) 17 (doing 0 0))
  unfolding step_said first_refusal check16 check17 check18 added_by taken_by
  select-form e = simp (e, and-true)

  pub select-relation-form : p.node.kind ≡ other select_relation → step_said p held tables ≡ passing (long p) 16 (passing (not held) 17 (doing 0 0))
  unfolding step_said first_refusal check16 check17 check18 added_by taken_by
  select-relation-form e = simp (e, and-true)

  pub update-form : p.node.kind ≡ acting update → step_said p held tables ≡ passing (long p) 16 (doing (change_count p) (change_count p))
  unfolding step_said first_refusal check16 check17 check18 added_by taken_by
  update-form e = simp (e, and-true)

  pub aggregate_form :
      p.node.kind ≡ other aggregate →
      step_said p held tables ≡ passing (long p && column_fits p.node.function p.node.column p.source.columns) 16 (passing (is_got (result p) && matches1 p.vars p.node.result (result p)) 18 (doing 0 0))
  unfolding step_said first_refusal check16 check17 check18 added_by taken_by
  aggregate_form e = simp (e, and-true)

  pub create_form : p.node.kind ≡ acting create → step_said p held tables ≡ passing (ltb tables 8) 20 (doing 0 0)
  unfolding step_said first_refusal check16 check17 check18 added_by taken_by
  create_form e = rw e

  pub drop-form : p.node.kind ≡ acting drop → step_said p held tables ≡ doing 0 (length p.content.rows)
  unfolding step_said first_refusal check16 check17 check18 added_by taken_by
  drop-form e = rw e
