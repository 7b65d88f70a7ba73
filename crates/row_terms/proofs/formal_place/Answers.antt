-- At the place found there is a formal of the variable, and behind it there is none.
use Rattle.std.proofs.Common.{rules}
use Rattle.row_terms.proofs.FormalLaws.{last_formal}
use Rattle.row_terms.proofs.formal_place.Goals as goal

pub returns : goal.returns
returns c = last_formal c.args.i c.args.template.now c.rposition.result (search rules)
