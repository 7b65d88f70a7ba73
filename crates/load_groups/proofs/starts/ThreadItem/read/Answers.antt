-- `load_groups::starts::ThreadItem::read` meets its contract: a start is refused by check 4 or 8, and its thread holds nothing.
use Prim.Native.Nat.{ℕ, ◌≤◌}
use mathlib.Core.Path.{◌≡◌, refl, sym, ap, ◌∙◌}
use mathlib.Core.Bool.{true}
use mathlib.Core.List.{List, [], ◌∷◌, ◌++◌, append-nil}
use lib.Dec.{ltb}
use lib.ListN.{length}
use Rattle.std.specs.Prelude.{Ok, Err, None}
use Rattle.std.specs.Result.{result_err}
use borrow.Author.Rules.{rules}
use borrow.Author.Tests.{le-leb}
use Rattle.nets.specs.Nets as M
use Rattle.nets.specs.View.{no_thread}
use Rattle.record_bytes.specs.Bytes.{at}
use Rattle.record_bytes.specs.Decoding.{Record, start_record, site_at, start_form}
use Rattle.files.specs.Loading.{Progress, load_checks, failing, put, advance, fresh}
use Rattle.load_walk.specs.Walking.{with_group, put_threads, Unheld, unheld_of}
use Rattle.load_walk.proofs.WalkLaws.{Group, list_checks}
use Rattle.load_groups.proofs.ItemLaws.{takes_seen, refuses_seen, room_left, each_more}
use Rattle.load_groups.proofs.starts.ThreadItem.read.Goals as goal

abbrev said : List ℕ → Record
said bs = start_record (site_at 1 bs) (at bs 2)

checks : (g c : ℕ) (xs : List M.Thread) (bs : List ℕ) (l : Progress) → g ≤ 5 → length xs ≡ c → failing (load_checks (with_group g (put_threads xs l)) (said bs)) ≡ failing (list_checks true (ltb c 8))
unfolding load_checks
checks g c xs bs l h e = rw (le-leb g 5 h, e)

added : (g : ℕ) (xs : List M.Thread) (bs : List ℕ) (l : Progress) → advance (with_group g (put_threads xs l)) (said bs) ≡ with_group 5 (put_threads (xs ++ (fresh (site_at 1 bs) (at bs 2) ∷ [])) l)
unfolding advance put
added g xs bs l = rw (append-nil l.picks)

abbrev group : Group M.Thread
group =
    record {
      number = 5;
      put = put_threads;
      form = start_form;
      new = λ xs bs. true;
      room = λ c. ltb c 8;
      said = said;
      element = λ bs. fresh (site_at 1 bs) (at bs 2);
      same = λ bs. refl;
      checks = checks;
      added = added;
    }

pub returns-in_err-first_fault : goal.returns-in_err-first_fault
returns-in_err-first_fault c =
    let q : c.from_residual.result ≡ Err c.in_err-first_fault.field-0.0 = search rules in
    let z : c.first_fault.result ≡ Err c.in_err-first_fault.field-0.0 = c.in_err-first_fault.was in
    rw q (refuses_seen group unheld_of c.args.place c.args.r.now c.requires.0 c.args.before.now c.start_form.result true _ c.start_form.ensures refl refl _ c.first_fault.ensures _ (ap result_err (sym z)))

pub returns : goal.returns
returns c =
    let z : c.first_fault.result ≡ Ok tt = c.in_ok-first_fault.was in
    let f : None ≡ result_err c.first_fault.result = ap result_err (sym z) in
    let t = c.start_in.ensures in (
      takes_seen group unheld_of c.args.place c.args.r.now c.requires.0 c.args.before.now c.start_form.result true _ c.start_form.ensures refl refl _ c.first_fault.ensures c.start_in.result (t _) f,
      each_more Unheld no_thread c.args.before.now c.start_in.result c.requires.1 (λ ks js. t ks ∙ sym (t js)),
      room_left c.args.place c.start_form.result true (length c.args.before.now) 8 (f ∙ c.first_fault.ensures),
    )
