-- Each slot is what its term gives, and past the terms in use there is nothing.
use Rattle.std.proofs.Common.{rules, tests, refl}
use Rattle.rows.specs.Plans.{no_component, term_got}
use Rattle.rows.proofs.Maps.{firsts_mapped}
use Rattle.row_sweep.proofs.draft_for.Goals as goal

pub returns : goal.returns
returns c =
    let a = c.args in
    (firsts_mapped c.map-slots.ensures.items (search rules) no_component a.terms.count (λ t. term_got t a.row.now.cells) (λ x y q k. search (rules, tests)), refl)
