-- Lists of one length agree where all pairs of the two do.
use Rattle.std.proofs.Common.{◌∙◌, rules, tests}
use Rattle.std.proofs.lemmas.Iterator.{YieldsList-from_slice, YieldsList-from_zip}
use Rattle.std.proofs.lemmas.Iterator.Search.{all_from_yields_List}
use Rattle.values.specs.Values.{same_row}
use Rattle.rows.specs.declared.Row.{Row}
use Rattle.rows.specs.View.{values_of}
use Rattle.net_parts.proofs.RowLaws.{all-pairs, agree-map}
use Rattle.net_parts.proofs.agreement.same_rows.Goals as goal

pub returns-then-xs-ys : goal.returns-then-xs-ys
returns-then-xs-ys c =
    let a = c.args in
    all_from_yields_List (λ (x : Row × Row). same_row (values_of a.columns x.0) (values_of a.columns x.1)) c.all.new.self _ _ c.all.ensures.ran
    (YieldsList-from_zip (YieldsList-from_slice a.xs.now cc) (YieldsList-from_slice a.ys.now cc)) (λ x r q k. search (rules, tests))
    ∙ all-pairs (λ (x : Row) (y : Row). same_row (values_of a.columns x) (values_of a.columns y)) a.xs.now a.ys.now c.if-xs-ys.true
    ∙ agree-map same_row (values_of a.columns) (values_of a.columns) a.xs.now a.ys.now
