-- The operands in use, and those of them that are formals.
use Rattle.std.proofs.Common.{◌≡◌, ◌≤◌, ◌∙◌, ap, List, length, rules, arith}
use Rattle.values.proofs.Arrays.{long}
use Rattle.values.proofs.Bools.{and-go}
use Rattle.values.proofs.Firsts.{take_firsts}
use Rattle.values.proofs.Sizes.{some_is}
use Rattle.values.specs.Operands.{formals}
use Rattle.values.specs.declared.Operand.{Operand}
use Rattle.rows.specs.View.{no_field}
use Rattle.nets.specs.Sound.{differ}
use Rattle.net_parts.proofs.Counts.{operands_count}
use Rattle.net_parts.proofs.operands.template_ok.Goals as goal

pub shared_ref_as_front-formals_differ : goal.shared_ref_as_front-formals_differ
shared_ref_as_front-formals_differ c = some_is 4 _ (operands_count c.args.t) c.operands_ok.ensures c.if-operands_ok.true

pub returns-then-operands_ok : goal.returns-then-operands_ok
returns-then-operands_ok c =
    let t = c.args.t in
    let few : t.count ≤ 4 = some_is 4 _ (operands_count t) c.operands_ok.ensures c.if-operands_ok.true in
    let four : length t.fields ≡ 4 = search (long, rules) in
    and-go c.operands_ok.ensures c.if-operands_ok.true (c.formals_differ.ensures ∙ ap (λ (l : List Operand). differ (formals l)) (take_firsts no_field t.count t.fields (omega arith)))
