-- The fields that T and the row both have are looked at.
use Rattle.std.proofs.Common.{rules}
use Rattle.row_match.proofs.WantLaws.{matched_is}
use Rattle.row_match.proofs.match_row.Goals as goal

pub returns : goal.returns
returns c =
    let a = c.args in
    λ short.
    matched_is a.vars a.template.now c.wants_of-wants.result a.row.now (search rules) short c.wants_of-wants.ensures _ c.min.ensures c.look_at_fields.ensures.0 c.look_at_fields.ensures.1
