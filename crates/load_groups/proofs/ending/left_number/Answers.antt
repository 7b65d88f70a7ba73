-- `load_groups::ending::left_number` meets its contract: each group has its form.
use mathlib.Core.Path.{refl, ◌∙◌}
use Rattle.record_bytes.specs.Decoding.{alias_form, table_form, row_form, node_form, start_form, pick_form}
use Rattle.load_walk.proofs.LeftLaws.{form-fault, no-group}
use Rattle.load_groups.proofs.ending.left_number.Goals as goal

pub returns-in-1 : goal.returns-in-1
returns-in-1 c = search (form-fault 1 alias_form _ (λ bs. refl))

pub returns-in-2 : goal.returns-in-2
returns-in-2 c = search (form-fault 2 table_form _ (λ bs. refl))

pub returns-in-3 : goal.returns-in-3
returns-in-3 c = form-fault 3 row_form _ (λ bs. refl) _ _ _ _ c.group_of.ensures c.in-3.is (c.is_some.ensures ∙ c.row_read.ensures.0) c.formed-in-3.ensures

pub returns-in-4 : goal.returns-in-4
returns-in-4 c = form-fault 4 node_form _ (λ bs. refl) _ _ _ _ c.group_of.ensures c.in-4.is (c.is_some-in-4.ensures ∙ c.node_read.ensures.0) c.formed-in-4.ensures

pub returns-in-5 : goal.returns-in-5
returns-in-5 c = search (form-fault 5 start_form _ (λ bs. refl))

pub returns-in-6 : goal.returns-in-6
returns-in-6 c = search (form-fault 6 pick_form _ (λ bs. refl))

pub returns-in_default : goal.returns-in_default
returns-in_default c = search no-group
