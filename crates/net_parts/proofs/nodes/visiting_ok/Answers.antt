-- `net_parts::nodes::visiting_ok` meets its contract: each test is a clause of `fields_ok_as` for the two loops.
use mathlib.Core.Path.{◌≡◌, refl, sym, ap, ◌∙◌}
use mathlib.Core.Bool.{true, false, not, ◌||◌}
use lib.Dec.{eqb}
use Rattle.values.proofs.Bools.{T_of, cond_yes, cond_no}
use Rattle.nets.specs.Nets.{code, has_locality, is_create, has_template, has_test, has_tuple, is_select, reads_relation, binds_relation, is_aggregate, is_loop}
use Rattle.nets.specs.Sound.{function_ok}
use Rattle.nets.specs.View.{kind_at, node_of}
use Rattle.nets.proofs.KindClasses.{in_class}
use borrow.Author.Rules.{rules}
use Rattle.net_parts.proofs.Counts.{columns-count, operands_count}
use Rattle.net_parts.proofs.FieldLaws.{fields_are}
use Rattle.net_parts.proofs.nodes.visiting_ok.Goals as goal

pub returns : goal.returns
returns c =
    let d = c.args.d in
    let given : is_loop (kind_at d.kind) ≡ true = search rules in
    let f = in_class is_loop (kind_at d.kind) (T_of (is_loop (kind_at d.kind)) given) in
    fields_are (kind_at d.kind) (node_of d) (sym (f (λ k. not (eqb (code k) 0)) true tt))
    (sym (ap (λ t. t || eqb d.body 0) given))
    (cond_no refl _ (f has_locality false tt) refl)
    (cond_no refl _ (f binds_relation false tt) refl)
    (cond_yes refl _ (f reads_relation true tt) refl)
    (c.function_ok.ensures ∙ ap (λ u. function_ok u d.function d.column) (sym (f is_aggregate false tt)))
    (cond_no refl _ (f is_create false tt) (ap (λ n. eqb n 0) (sym (columns-count d.columns d.kinds))))
    (cond_no refl _ (f has_locality false tt) c.is_absent.ensures)
    (cond_yes refl _ (f has_template true tt) c.template_ok.ensures)
    (cond_no refl _ (f has_test false tt) c.no_test.ensures)
    (cond_no refl _ (f has_tuple false tt) (cond_no refl _ (f is_select false tt) (ap (λ n. eqb n 0) (sym (operands_count d.tuple)))))
    (cond_no refl _ (f is_aggregate false tt) c.is_absent-2.ensures)
