-- Lists of one length agree where all pairs of the two do.
use Rattle.std.proofs.Common.{ℕ, ◌∙◌, rules, tests}
use Rattle.std.proofs.lemmas.Iterator.{YieldsList-from_slice, YieldsList-from_zip}
use Rattle.std.proofs.lemmas.Iterator.Search.{all_from_yields_List}
use Rattle.values.specs.declared.Value.{Value}
use Rattle.net_parts.specs.SoundParts.{cell_ok}
use Rattle.net_parts.proofs.RowLaws.{all-pairs}
use Rattle.net_parts.proofs.relations.row_ok.Goals as goal

pub returns-then-kinds-values : goal.returns-then-kinds-values
returns-then-kinds-values c =
    let a = c.args in
    all_from_yields_List (λ (x : ℕ × Value). cell_ok x.0 x.1) c.all.new.self _ _ c.all.ensures.ran
    (YieldsList-from_zip (YieldsList-from_slice a.kinds.now cc) (YieldsList-from_slice a.values.now cc)) (λ x r q k. search (rules, tests))
    ∙ all-pairs cell_ok a.kinds.now a.values.now c.if-kinds-values.true
