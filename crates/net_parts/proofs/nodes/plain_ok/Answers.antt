-- `net_parts::nodes::plain_ok` meets its contract: each test is a clause of `fields_ok_as` for the four kinds with a place and no T.
use mathlib.Core.Path.{refl, sym, ap, ◌∙◌}
use mathlib.Core.Bool.{true, false, not, ◌&&◌, ◌||◌}
use lib.Dec.{eqb}
use Rattle.rows.specs.View.{operands_of}
use Rattle.values.proofs.Bools.{cond_yes, cond_no}
use Rattle.nets.specs.Nets.{code, has_locality, has_template, has_test, is_select, binds_relation, is_aggregate, is_loop}
use Rattle.nets.specs.Sound.{operands_ok, function_ok}
use Rattle.nets.specs.View.{kind_at, node_of}
use Rattle.nets.proofs.KindClasses.{in_class}
use Rattle.net_parts.proofs.Counts.{columns-count, operands_count}
use Rattle.net_parts.proofs.FieldLaws.{either_is, fields_are}
use Rattle.net_parts.proofs.nodes.plain_ok.Goals as goal

pub returns : goal.returns
returns c =
    let d = c.args.d in
    let none = c.requires.0 in
    let placed = c.requires.1 in
    let f = in_class (λ k. has_locality k && not (has_template k)) (kind_at d.kind) (rw (placed, none) tt) in
    fields_are (kind_at d.kind) (node_of d) (sym (f (λ k. not (eqb (code k) 0)) true tt))
    (sym (ap (λ t. t || eqb d.body 0) (f is_loop false tt)))
    (cond_yes refl _ placed c.is_text.ensures)
    (cond_no refl _ (f binds_relation false tt) refl)
    (either_is c.ok_if_used.ensures c.reads_relation.ensures refl refl)
    (c.function_ok.ensures ∙ ap (λ u. function_ok u d.function d.column) (sym (f is_aggregate false tt)))
    (either_is c.ok_if_used-2.ensures c.is_create.ensures c.columns_ok.ensures (ap (λ n. eqb n 0) (sym (columns-count d.columns d.kinds))))
    (cond_yes refl _ placed c.locality_operand_ok.ensures)
    (cond_no refl _ none (ap (λ n. eqb n 0) (sym (operands_count d.selector.template))))
    (cond_no refl _ (f has_test false tt) c.no_test.ensures)
    (either_is c.ok_if_used-3.ensures c.has_tuple.ensures c.operands_ok.ensures
    (cond_no refl (operands_ok 4 (operands_of d.tuple)) (f is_select false tt) (ap (λ n. eqb n 0) (sym (operands_count d.tuple)))))
    (cond_no refl _ (f is_aggregate false tt) c.is_absent.ensures)
