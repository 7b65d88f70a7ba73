-- Each of the four places holds what is wanted there.
use Rattle.std.proofs.Common.{◌≡◌, ◌<◌, ℕ, get_or, rules, tests, arith}
use Rattle.rows.specs.Plans.{no_wanted, want_at}
use Rattle.rows.proofs.Maps.{made_at}
use Rattle.rows.proofs.PlanLaws.{wants_met_lem}
use Rattle.row_match.proofs.wants_of.Goals as goal

pub returns : goal.returns
returns c =
    let a = c.args in
    let is = c.from_fn.ensures.items in
    let places : (i : ℕ) → i < 4 → get_or c.from_fn.result i no_wanted ≡ want_at a.vars a.template.now i =
    λ i low. made_at _ _ (want_at a.vars a.template.now) (λ j y q k. search (rules, tests)) is i no_wanted low in record {
      places = places;
      matching = λ short row four. wants_met_lem a.vars c.from_fn.result row.cells a.template.now (omega (arith, is.long)) (omega (arith, is.long)) (λ i low. places i (omega (arith, is.long)));
    }
