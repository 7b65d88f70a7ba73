-- `load_groups::tables::TableItem::read` meets its contract: a table is refused by check 4, 6 or 8.
use Prim.Native.Nat.{ℕ, ◌≤◌}
use mathlib.Core.Path.{◌≡◌, refl, sym, ap, ◌∙◌}
use mathlib.Core.Bool.{Bool, true, false, not, ◌||◌}
use mathlib.Core.List.{List, [], ◌∷◌, ◌++◌, map, append-nil}
use lib.Dec.{ltb}
use lib.ListN.{length}
use Rattle.std.specs.Prelude.{Ok, Err, None, Some, is_some, cond}
use Rattle.std.specs.Result.{result_err}
use Rattle.std.specs.List.{list_any}
use borrow.Author.Rules.{rules}
use borrow.Author.Tests.{le-leb}
use Rattle.values.specs.declared.Site.{Site}
use Rattle.rows.specs.View.{Shaped}
use Rattle.nets.specs.declared.Table.{Table}
use Rattle.nets.specs.Nets as M
use Rattle.nets.specs.Tables.{is_at, table_at}
use Rattle.nets.specs.View.{no_table, table_of}
use Rattle.record_bytes.specs.Bytes.{part, columns_in}
use Rattle.record_bytes.specs.Decoding.{Record, table_record, site_at, name_in, table_form}
use Rattle.files.specs.Loading.{Progress, load_checks, failing, bare, put, advance}
use Rattle.load_walk.specs.Walking.{with_group, put_tables}
use Rattle.load_walk.proofs.WalkLaws.{Group, list_checks}
use Rattle.load_groups.proofs.ItemLaws.{takes_seen, refuses_seen, room_left, each_more}
use Rattle.load_groups.proofs.tables.TableItem.read.Goals as goal

abbrev said : List ℕ → Record
said bs = table_record (site_at 1 bs) (name_in bs) (columns_in (part 8 12 bs))

abbrev element : List ℕ → M.Table
element bs = bare (site_at 1 bs) (name_in bs) (columns_in (part 8 12 bs))

abbrev new_in : List M.Table → List ℕ → Bool
new_in xs bs = not (is_some (table_at (site_at 1 bs) (name_in bs) xs))

checks : (g c : ℕ) (xs : List M.Table) (bs : List ℕ) (l : Progress) → g ≤ 2 → length xs ≡ c → failing (load_checks (with_group g (put_tables xs l)) (said bs)) ≡ failing (list_checks (new_in xs bs) (ltb c 8))
unfolding load_checks
checks g c xs bs l h e = rw (le-leb g 2 h, e)

added : (g : ℕ) (xs : List M.Table) (bs : List ℕ) (l : Progress) → advance (with_group g (put_tables xs l)) (said bs) ≡ with_group 2 (put_tables (xs ++ (element bs ∷ [])) l)
unfolding advance put
added g xs bs l = rw (append-nil l.picks)

abbrev group : Group M.Table
group =
    record {
      number = 2;
      put = put_tables;
      form = table_form;
      new = new_in;
      room = λ c. ltb c 8;
      said = said;
      element = element;
      same = λ bs. refl;
      checks = checks;
      added = added;
    }

-- ── an earlier table ──

found_among : (s : Site) (n : ℕ) (ts : List Table) → list_any (λ (t : Table). is_at s n (table_of t)) ts ≡ is_some (table_at s n (map table_of ts))
found_among s n [] = refl
found_among s n (t ∷ ts) = go (is_at s n (table_of t)) (found_among s n ts)
  where
    go : (b : Bool) → list_any (λ (t : Table). is_at s n (table_of t)) ts ≡ is_some (table_at s n (map table_of ts)) →
        (b || list_any (λ (t : Table). is_at s n (table_of t)) ts) ≡ is_some (cond b (Some (table_of t)) (table_at s n (map table_of ts)))
    go true e = refl
    go false e = e

new_is : (ts : List Table) (bs : List ℕ) (s : Site) (n : ℕ) (b : Bool) → s ≡ site_at 1 bs → n ≡ name_in bs → b ≡ list_any (λ (t : Table). is_at s n (table_of t)) ts → not b ≡ new_in (map table_of ts) bs
new_is ts bs s n b p q e = ap not (e ∙ found_among s n ts ∙ rw (p, q) refl)

pub returns-in_err-first_fault : goal.returns-in_err-first_fault
returns-in_err-first_fault c =
    let q : c.from_residual.result ≡ Err c.in_err-first_fault.field-0.0 = search rules in
    let z : c.first_fault.result ≡ Err c.in_err-first_fault.field-0.0 = c.in_err-first_fault.was in
    let n = new_is c.args.before.now c.args.r.now _ _ c.label_among-old.result c.record_site.ensures c.record_name.ensures c.label_among-old.ensures in
    rw q (refuses_seen group table_of c.args.place c.args.r.now c.requires.0 c.args.before.now c.table_form.result _ _ c.table_form.ensures n refl _ c.first_fault.ensures _ (ap result_err (sym z)))

pub returns : goal.returns
returns c =
    let z : c.first_fault.result ≡ Ok tt = c.in_ok-first_fault.was in
    let f : None ≡ result_err c.first_fault.result = ap result_err (sym z) in
    let n = new_is c.args.before.now c.args.r.now _ _ c.label_among-old.result c.record_site.ensures c.record_name.ensures c.label_among-old.ensures in (
      takes_seen group table_of c.args.place c.args.r.now c.requires.0 c.args.before.now c.table_form.result _ _ c.table_form.ensures n refl _ c.first_fault.ensures c.table_in.result c.table_in.ensures.0 f,
      each_more (λ (t : Table). Shaped t.content) no_table c.args.before.now c.table_in.result c.requires.1 c.table_in.ensures.1,
      room_left c.args.place c.table_form.result _ (length c.args.before.now) 8 (f ∙ c.first_fault.ensures),
    )
