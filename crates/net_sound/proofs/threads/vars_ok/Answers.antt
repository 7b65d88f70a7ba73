-- There are sixteen.
use Rattle.std.proofs.Common.{length, rules, tests}
use Rattle.std.proofs.lemmas.Iterator.{YieldsList-from_slice}
use Rattle.std.proofs.lemmas.Iterator.Search.{all_from_yields_List}
use borrow.Author.Tests.{eq-eqb}
use Rattle.nets.specs.Sound.{variable_ok}
use Rattle.net_sound.proofs.threads.vars_ok.Goals as goal

pub returns : goal.returns
returns c =
    let l = c.args.vars.now in
    rw (eq-eqb (length l) 16 (search rules))
    (all_from_yields_List variable_ok c.all.new.self _ _ c.all.ensures.ran (YieldsList-from_slice l cc) (λ x r q k. search (rules, tests)))
