-- `load_groups::picks::PickItem::read` meets its contract: a pick is refused by check 4 alone.
use Prim.Native.Nat.{ℕ, ◌≤◌}
use mathlib.Core.Path.{◌≡◌, refl, sym, ap, subst}
use mathlib.Core.Bool.{true}
use mathlib.Core.List.{List, [], ◌∷◌, ◌++◌}
use lib.ListN.{length}
use Rattle.std.specs.Prelude.{Ok, Err}
use Rattle.std.specs.Result.{result_err}
use borrow.Author.Rules.{rules}
use borrow.Author.Tests.{le-leb}
use Rattle.nets.specs.declared.Pick.{Pick}
use Rattle.record_bytes.specs.Decoding.{Record, pick_record, pick_in, pick_form}
use Rattle.files.specs.Loading.{Progress, load_checks, failing, put, advance}
use Rattle.load_walk.specs.Walking.{with_group, put_picks, Takes}
use Rattle.load_walk.proofs.WalkLaws.{Group, list_checks}
use Rattle.load_groups.proofs.ItemLaws.{takes, refuses}
use Rattle.load_groups.proofs.picks.PickItem.read.Goals as goal

abbrev said : List ℕ → Record
said bs = pick_record (pick_in bs)

checks : (g c : ℕ) (xs : List Pick) (bs : List ℕ) (l : Progress) → g ≤ 6 → length xs ≡ c → failing (load_checks (with_group g (put_picks xs l)) (said bs)) ≡ failing (list_checks true true)
unfolding load_checks
checks g c xs bs l h e = rw (le-leb g 6 h)

added : (g : ℕ) (xs : List Pick) (bs : List ℕ) (l : Progress) → advance (with_group g (put_picks xs l)) (said bs) ≡ with_group 6 (put_picks (xs ++ (pick_in bs ∷ [])) l)
unfolding advance put
added g xs bs l = refl

abbrev group : Group Pick
group =
    record {
      number = 6;
      put = put_picks;
      form = pick_form;
      new = λ xs bs. true;
      room = λ c. true;
      said = said;
      element = λ bs. pick_in bs;
      same = λ bs. refl;
      checks = checks;
      added = added;
    }

pub returns-in_err-first_fault : goal.returns-in_err-first_fault
returns-in_err-first_fault c =
    let q : c.from_residual.result ≡ Err c.in_err-first_fault.field-0.0 = search rules in
    let z : c.first_fault.result ≡ Err c.in_err-first_fault.field-0.0 = c.in_err-first_fault.was in
    rw q (refuses group c.args.place c.args.r.now c.requires.0 c.args._before.now c.pick_form.result true true c.pick_form.ensures refl refl _ c.first_fault.ensures _ (ap result_err (sym z)))

pub returns : goal.returns
returns c =
    let z : c.first_fault.result ≡ Ok tt = c.in_ok-first_fault.was in
    let t = takes group c.args.place c.args.r.now c.requires.0 c.args._before.now c.pick_form.result true true c.pick_form.ensures refl refl _ c.first_fault.ensures (ap result_err (sym z)) in
    (subst (λ (x : Pick). Takes 6 c.args.r.now (put_picks c.args._before.now) (put_picks (c.args._before.now ++ (x ∷ [])))) (sym c.pick_in.ensures) t, tt, c.requires.2)
