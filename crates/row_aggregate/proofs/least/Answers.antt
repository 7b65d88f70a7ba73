-- std's `min` of the Ints.
use Rattle.std.proofs.Common.{rules, tests}
use Rattle.std.specs.Ordering.{int_cmp, min_by_ordering}
use Rattle.std.proofs.lemmas.Iterator.{YieldsList-from_slice, YieldsList-from_map}
use Rattle.std.proofs.lemmas.Iterator.Consumers.{reduce_from_yields_List}
use Rattle.row_aggregate.proofs.Columns.{int_in, least_is}
use Rattle.row_aggregate.proofs.least.Goals as goal

pub returns : goal.returns
returns c =
    let a = c.args in
    λ w low.
    least_is a.at w low a.rows.now {o = c.min.result} (search rules)
    (reduce_from_yields_List (λ j k. min_by_ordering (int_cmp j k) j k) c.map.result c.min.result c.min.ensures.ran
    (YieldsList-from_map _ (int_in a.at) (YieldsList-from_slice a.rows.now cc) c.map.ensures.closure (λ x r q k. search (rules, tests))))
