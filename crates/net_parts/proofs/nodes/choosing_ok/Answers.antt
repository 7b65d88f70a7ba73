-- `net_parts::nodes::choosing_ok` meets its contract: each test is a clause of `fields_ok_as` for the five kinds with a predicate.
use mathlib.Core.Path.{refl, sym, ap, ◌∙◌}
use mathlib.Core.Bool.{true, false, not, ◌||◌}
use lib.Dec.{eqb}
use Rattle.values.proofs.Bools.{T_of, cond_yes, cond_no}
use Rattle.nets.specs.Nets.{code, is_create, has_template, has_test, is_loop}
use Rattle.nets.specs.Sound.{function_ok}
use Rattle.nets.specs.View.{kind_at, node_of}
use Rattle.nets.proofs.KindClasses.{in_class}
use Rattle.net_parts.proofs.Counts.{columns-count}
use Rattle.net_parts.proofs.FieldLaws.{either_is, fields_are}
use Rattle.net_parts.proofs.nodes.choosing_ok.Goals as goal

pub returns : goal.returns
returns c =
    let d = c.args.d in
    let given = c.requires in
    let f = in_class has_test (kind_at d.kind) (T_of (has_test (kind_at d.kind)) given) in
    let aggregates = c.is_aggregate-aggregate.ensures in
    fields_are (kind_at d.kind) (node_of d) (sym (f (λ k. not (eqb (code k) 0)) true tt))
    (sym (ap (λ t. t || eqb d.body 0) (f is_loop false tt)))
    (either_is c.ok_if_used.ensures c.has_locality-located.ensures c.is_text.ensures refl)
    (either_is c.ok_if_used-2.ensures c.binds_relation.ensures refl refl)
    (either_is c.ok_if_used-3.ensures c.reads_relation.ensures refl refl)
    (c.function_ok.ensures ∙ ap (λ u. function_ok u d.function d.column) aggregates)
    (cond_no refl _ (f is_create false tt) (ap (λ n. eqb n 0) (sym (columns-count d.columns d.kinds))))
    (either_is c.ok_if_used-4.ensures c.has_locality-located.ensures c.locality_operand_ok.ensures c.is_absent.ensures)
    (cond_yes refl _ (f has_template true tt) c.template_ok.ensures)
    (cond_yes refl _ given c.test_ok.ensures)
    c.tuple_ok.ensures
    (either_is c.ok_if_used-5.ensures aggregates c.tagged.ensures c.is_absent-2.ensures)
