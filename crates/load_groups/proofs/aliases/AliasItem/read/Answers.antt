-- `load_groups::aliases::AliasItem::read` meets its contract: an alias is refused by check 4 or 6, and what passes leaves room.
use Prim.Native.Nat.{ℕ, ◌≤◌, ◌<◌}
use mathlib.Core.Path.{◌≡◌, refl, sym, ap, subst, ◌∙◌}
use mathlib.Core.Bool.{Bool, true, not}
use mathlib.Core.List.{List, [], ◌∷◌, ◌++◌, append-nil}
use native.Mathlib.Omega.{arith}
use lib.Dec.{T}
use lib.ListN.{length, length-append}
use Rattle.std.specs.Prelude.{Ok, Err, None}
use Rattle.std.specs.Result.{result_err}
use Rattle.std.specs.List.{list_all, list_any}
use borrow.Author.Rules.{rules}
use borrow.Author.Tests.{le-leb}
use Rattle.values.proofs.Bools.{and_l, and_in}
use Rattle.values.proofs.ListLaws.{all_append}
use Rattle.nets.specs.declared.Alias.{Alias}
use Rattle.nets.specs.Steps.{check}
use Rattle.nets.specs.Sound.{alias_ok, same_alias, aliases_differ}
use Rattle.record_bytes.specs.Bytes.{part, zeros}
use Rattle.record_bytes.specs.Decoding.{Record, alias_record, alias_in, alias_form}
use Rattle.files.specs.Loading.{Progress, load_checks, failing, put, advance}
use Rattle.files.proofs.PutLaws.{alias-append}
use Rattle.load_walk.specs.Walking.{with_group, put_aliases, first_fault, Takes}
use Rattle.load_walk.proofs.WalkLaws.{Group, list_checks}
use Rattle.load_groups.proofs.AliasLaws.{few-aliases}
use Rattle.load_groups.proofs.ItemLaws.{all_passed, takes, refuses}
use Rattle.load_groups.proofs.aliases.AliasItem.read.Goals as goal

abbrev said : List ℕ → Record
said bs = alias_record (alias_in bs)

abbrev new_in : List Alias → List ℕ → Bool
new_in xs bs = not (list_any (λ b. same_alias b (alias_in bs)) xs)

checks : (g c : ℕ) (xs : List Alias) (bs : List ℕ) (l : Progress) → g ≤ 1 → length xs ≡ c → failing (load_checks (with_group g (put_aliases xs l)) (said bs)) ≡ failing (list_checks (new_in xs bs) true)
unfolding load_checks
checks g c xs bs l h e = rw (le-leb g 1 h)

added : (g : ℕ) (xs : List Alias) (bs : List ℕ) (l : Progress) → advance (with_group g (put_aliases xs l)) (said bs) ≡ with_group 1 (put_aliases (xs ++ (alias_in bs ∷ [])) l)
unfolding advance put
added g xs bs l = rw (append-nil l.picks)

abbrev group : Group Alias
group =
    record {
      number = 1;
      put = put_aliases;
      form = alias_form;
      new = new_in;
      room = λ c. true;
      said = said;
      element = λ bs. alias_in bs;
      same = λ bs. refl;
      checks = checks;
      added = added;
    }

-- ── room: no two aliases are alike ──

module _ (ls : List Alias) (bs : List ℕ) (form new : Bool) (i : ℕ) (w : None ≡ first_fault i (check 4 form ∷ list_checks new true)) (hf : form ≡ alias_form bs) (hn : new ≡ new_in ls bs)
    (ranged : T (list_all alias_ok ls)) (differ : T (aliases_differ ls)) where
  abbrev more : List Alias
  more = ls ++ (alias_in bs ∷ [])

  all_ranged : T (list_all alias_ok more)
  unfolding alias_form
  all_ranged =
      let ok : T (alias_ok (alias_in bs)) = and_l (alias_ok (alias_in bs)) (zeros (part 4 104 bs)) (subst T hf (all_passed i form new true w).0) in
      all_append alias_ok ls (alias_in bs ∷ []) ranged (and_in (alias_ok (alias_in bs)) true ok tt)

  all_differ : T (aliases_differ more)
  all_differ = alias-append ls (alias_in bs) differ (subst T hn (all_passed i form new true w).1)

  one_left : length ls < 56
  one_left = omega (arith, few-aliases more all_ranged all_differ, length-append ls (alias_in bs ∷ []))

-- another alias is the same
same_new : (ls : List Alias) (bs : List ℕ) (a : Alias) (b : Bool) → b ≡ list_any (λ b. same_alias b a) ls → a ≡ alias_in bs → not b ≡ new_in ls bs
same_new ls bs a b e q = rw (e, q) refl

pub returns-in_err-first_fault : goal.returns-in_err-first_fault
returns-in_err-first_fault c =
    let q : c.from_residual.result ≡ Err c.in_err-first_fault.field-0.0 = search rules in
    let z : c.first_fault.result ≡ Err c.in_err-first_fault.field-0.0 = c.in_err-first_fault.was in
    let n = same_new c.args.before.now c.args.r.now c.alias_in-a.result c.alias_among.result c.alias_among.ensures c.alias_in-a.ensures in
    rw q (refuses group c.args.place c.args.r.now c.requires.0 c.args.before.now c.alias_form.result _ true c.alias_form.ensures n refl _ c.first_fault.ensures _ (ap result_err (sym z)))

pub returns : goal.returns
returns c =
    let r = c.args.r.now in
    let ls = c.args.before.now in
    let z : c.first_fault.result ≡ Ok tt = c.in_ok-first_fault.was in
    let f : None ≡ result_err c.first_fault.result = ap result_err (sym z) in
    let n = same_new ls r c.alias_in-a.result c.alias_among.result c.alias_among.ensures c.alias_in-a.ensures in
    let w = f ∙ c.first_fault.ensures in
    let kept = c.requires.1 in
    let t : Takes 1 r (put_aliases ls) (put_aliases (ls ++ (alias_in r ∷ []))) = takes group c.args.place r c.requires.0 ls c.alias_form.result _ true c.alias_form.ensures n refl _ c.first_fault.ensures f in
    subst (λ (a : Alias). Takes 1 r (put_aliases ls) (put_aliases (ls ++ (a ∷ []))) × (T (list_all alias_ok (ls ++ (a ∷ []))) × T (aliases_differ (ls ++ (a ∷ [])))) × (length ls < 56)) (sym c.alias_in-a.ensures) (
      t,
      (all_ranged ls r _ _ c.args.place w c.alias_form.ensures n kept.0 kept.1, all_differ ls r _ _ c.args.place w c.alias_form.ensures n kept.0 kept.1),
      one_left ls r _ _ c.args.place w c.alias_form.ensures n kept.0 kept.1,
    )
