-- None is found where the search ends without one.
use Rattle.std.proofs.Common.{not, rules, tests, ap, ◌∙◌}
use Rattle.std.proofs.lemmas.Iterator.{YieldsList-from_slice}
use Rattle.std.proofs.lemmas.Iterator.Search.{any_from_yields_List}
use Rattle.values.specs.declared.Operand.{Operand}
use Rattle.values.specs.Operands.{formal_of}
use Rattle.net_parts.specs.SoundParts.{formal_is}
use Rattle.net_parts.proofs.DistinctLaws.{formal-among}
use Rattle.net_parts.proofs.operands.formal_new.Goals as goal

pub returns-in-Formal : goal.returns-in-Formal
returns-in-Formal c =
    let others = c.args.others.now in
    let i = c.in-Formal.i in
    rw c.in-Formal.is
    (ap not (any_from_yields_List (λ (o : Operand). formal_is i (formal_of o)) c.any.new.self _ _ c.any.ensures.ran (YieldsList-from_slice others cc) (λ x r q k. search (rules, tests))
    ∙ formal-among i others))
