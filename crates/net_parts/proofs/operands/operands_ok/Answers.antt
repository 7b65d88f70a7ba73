-- The operands in use decide.
use Rattle.std.proofs.Common.{◌≡◌, ◌<◌, length, rules}
use Rattle.values.proofs.Arrays.{long}
use Rattle.values.proofs.Sizes.{some-over}
use Rattle.rows.specs.View.{no_field}
use Rattle.nets.specs.Sound.{tagged}
use Rattle.net_parts.proofs.Counts.{operands_count, some-tested}
use Rattle.net_parts.proofs.operands.operands_ok.Goals as goal

pub returns-in_default : goal.returns-in_default
returns-in_default c =
    let t = c.args.t in
    let four : length t.fields ≡ 4 = search (long, rules) in
    let over : 4 < t.count = search rules in
    some-over 4 _ (operands_count t) over

pub returns : goal.returns
returns c =
    let t = c.args.t in
    let l = c.in-Some.ensures.lookup.0 in
    some-tested (tagged c.args.hi) no_field 4 t.count t.fields c.in-Some.used.now (search (long, rules)) l.1 l.2 c.is_empty.ensures c.all_tagged.ensures
