-- Each slot is what its operand gives, and past the operands in use there is nothing.
use Rattle.std.proofs.Common.{rules, tests, refl}
use Rattle.values.specs.Operands.{eval}
use Rattle.rows.specs.View.{no_field}
use Rattle.rows.specs.Fit.{draft}
use Rattle.rows.proofs.Maps.{firsts_mapped}
use Rattle.row_fit.proofs.fit.draft_of.Goals as goal

pub returns : goal.returns
unfolding draft
returns c =
    let a = c.args in
    (firsts_mapped c.map-slots.ensures.items (search rules) no_field a.t.count (eval a.vars) (λ x y q k. search (rules, tests)), refl)
