-- None is found where the search ends without one.
use Rattle.std.proofs.Common.{not, rules, tests, ap, ◌∙◌}
use Rattle.std.proofs.lemmas.Iterator.{YieldsList-from_slice}
use Rattle.std.proofs.lemmas.Iterator.Search.{any_from_yields_List}
use Rattle.nets.specs.declared.Table.{Table}
use Rattle.nets.specs.Tables.{is_at}
use Rattle.nets.specs.View.{table_of}
use Rattle.net_parts.proofs.DistinctLaws.{any-map}
use Rattle.net_parts.proofs.lists.table_new.Goals as goal

pub returns : goal.returns
returns c =
    let a = c.args in
    ap not (any_from_yields_List (λ (u : Table). is_at a.t.now.site a.t.now.name (table_of u)) c.any.new.self _ _ c.any.ensures.ran (YieldsList-from_slice a.others.now cc) (λ x r q k. search (rules, tests))
    ∙ any-map (is_at a.t.now.site a.t.now.name) table_of a.others.now)
