-- `net_parts::nodes::fields_ok` meets its contract: the kinds with a predicate, the loops, the others with a place, and no kind.
use mathlib.Core.Path.{sym, ◌∙◌}
use Rattle.nets.specs.View.{kind_at, node_of}
use Rattle.net_parts.proofs.FieldLaws.{no_kind}
use Rattle.net_parts.proofs.nodes.fields_ok.Goals as goal

pub returns : goal.returns
returns c =
    let d = c.args.d in
    no_kind (kind_at d.kind) (node_of d) (sym c.has_test.ensures ∙ c.if-has_test.false) (sym c.is_loop.ensures ∙ c.if-is_loop.false) (sym c.has_locality.ensures ∙ c.if-has_locality.false)
