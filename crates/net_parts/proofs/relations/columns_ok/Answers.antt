-- The kinds in use decide.
use Rattle.std.proofs.Common.{ℕ, ◌≡◌, ◌<◌, length, leb, ◌&&◌, rules}
use Rattle.values.proofs.Sizes.{some-over}
use Rattle.net_parts.proofs.Counts.{columns-count, some-tested}
use Rattle.net_parts.proofs.relations.columns_ok.Goals as goal

pub returns-in_default : goal.returns-in_default
returns-in_default c =
    let four : length c.args.kinds ≡ 4 = search rules in
    let over : 4 < c.args.columns = search rules in
    some-over 4 _ (columns-count c.args.columns c.args.kinds) over

pub returns : goal.returns
returns c =
    let a = c.args in
    let l = c.in-Some.ensures.lookup.0 in
    some-tested (λ (k : ℕ). leb 1 k && leb k 3) 0 4 a.columns a.kinds c.in-Some.used.now (search rules) l.1 l.2 c.is_empty.ensures c.all_kinds.ensures
