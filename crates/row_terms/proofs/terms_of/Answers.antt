-- Each term is that of its operand, and past the operands in use there is none.
use Rattle.std.proofs.Common.{rules, tests, refl}
use Rattle.rows.specs.View.{no_field}
use Rattle.rows.specs.Plans.{term_of}
use Rattle.rows.proofs.Maps.{firsts_mapped}
use Rattle.row_terms.proofs.terms_of.Goals as goal

pub returns : goal.returns
returns c =
    let a = c.args in
    (firsts_mapped c.map-components.ensures.items (search rules) no_field a.t.count (term_of a.vars a.template.now) (λ x y q k. search (rules, tests)), refl)
