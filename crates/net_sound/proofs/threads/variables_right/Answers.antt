-- There are two.
use Rattle.std.proofs.Common.{◌∙◌, length, map, rules, tests, sym}
use Rattle.std.proofs.lemmas.Iterator.{YieldsList-from_slice}
use Rattle.std.proofs.lemmas.Iterator.Search.{all_from_yields_List}
use Rattle.std.proofs.lemmas.List.Folds.{list_all-map}
use lib.ListN.{length-map}
use borrow.Author.Tests.{eq-eqb}
use Rattle.nets.specs.Sound.{relation_ok}
use Rattle.nets.specs.View.{TableVariable, variable_of}
use Rattle.net_sound.proofs.threads.variables_right.Goals as goal

pub returns : goal.returns
returns c =
    let l = c.args.relations.now in
    rw (eq-eqb (length (map variable_of l)) 2 (length-map l variable_of ∙ c.told-relations))
    (all_from_yields_List (λ (v : TableVariable). relation_ok (variable_of v)) c.all.new.self _ _ c.all.ensures.ran (YieldsList-from_slice l cc) (λ x r q k. search (rules, tests))
    ∙ sym (list_all-map relation_ok variable_of l))
