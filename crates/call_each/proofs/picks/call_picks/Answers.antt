-- `call_each::picks::call_picks` meets its contract: refused as loading says, or the picks that it read. Assumes nothing.
use mathlib.Core.Path.{◌≡◌, refl, sym, ap, ◌∙◌}
use Rattle.std.specs.Result.{result_err}
use Rattle.std.proofs.lemmas.Result.{err_from_is_err_and}
use lib.ListN.{length, length-take}
use native.Mathlib.Omega.{arith}
use borrow.Author.Rules.{rules}
use Rattle.call_rules.proofs.CallLaws.{fault-numbered}
use Rattle.call_each.proofs.OwnPicks.{own-few, own-part, picks-accepted}
use Rattle.call_each.proofs.picks.call_picks.Goals as goal

pub shared_ref_as_front-picks_given : goal.shared_ref_as_front-picks_given
shared_ref_as_front-picks_given c = own-few _ c.load-loaded.result c.load-loaded.ensures

pub picks_given-requires : goal.picks_given-requires
picks_given-requires c =
    let l : length c.load-loaded.result.picks ≡ 256 = search rules in
    simp length-take (omega (arith, l))

pub returns : goal.returns
returns c =
    let l : length c.load-loaded.result.picks ≡ 256 = search rules in
    let h = sym (ap result_err c.in_ok-loaded.was) ∙ c.load-loaded.ensures.fault in
    record {
      told = picks-accepted _ c.args.out.now _ _ _ _ h (own-part _ c.load-loaded.result c.load-loaded.ensures l) c.picks_given.ensures.gives;
      refused = c.picks_given.ensures.refused;
    }

pub returns-in_err-loaded-clause-refused : goal.returns-in_err-loaded-clause-refused
returns-in_err-loaded-clause-refused c =
    let y = err_from_is_err_and c.from_residual.result c.from_residual.ensures.1 in
    let h = sym (ap result_err c.in_err-loaded.was) ∙ c.load-loaded.ensures.fault in
    rw (y.1, y.2) (fault-numbered c.args.file.now c.in_err-loaded.field-0.0 h, refl)
