-- `page::tables::page_tables` meets its contract: no such table, too little room, or the table's page.
use Prim.Native.Nat.{ℕ, ◌-◌, ◌≤◌, ◌<◌}
use mathlib.Core.Path.{◌≡◌, refl, sym, subst, ap, ◌∙◌}
use mathlib.Core.Bool.{Bool, true, false, cond}
use mathlib.Core.List.{List, [], ◌∷◌, ◌++◌, map}
use Rattle.std.specs.Prelude.{Option, None, Some, is_some}
use native.Mathlib.Nat.{sub-zero}
use native.Mathlib.Omega.{arith}
use lib.Dec.{T, leb}
use lib.ListN.{length, get_or, get_or-map, drop, length-take}
use Rattle.std.specs.List.{list_all}
use Rattle.std.proofs.lemmas.List.{length-map}
use borrow.Author.Tests.{le-ltb, le-leb, lt-leb}
use Rattle.values.specs.declared.Site.{Site}
use Rattle.values.specs.Lists.{place_of}
use Rattle.values.proofs.Bools.{T_not_of}
use Rattle.values.proofs.Firsts.{length-firsts, firsts_at}
use Rattle.rows.specs.View.{relation_of}
use Rattle.nets.specs.declared.Table.{Table}
use Rattle.nets.specs.Nets as M
use Rattle.nets.specs.Tables.{is_at, table_at}
use Rattle.nets.specs.View.{no_table, table_of, tables_of}
use Rattle.values.proofs.ListLaws.{all-at}
use Rattle.nets.specs.Sound.{table_ok}
use Rattle.nets.proofs.ShapeLaws.{table-shaped, rows_ok_lem}
use Rattle.nets.proofs.TablePlaces.{found-none, found-some}
use Rattle.page_rules.specs.Pages.{page_of, no_page, a_page, page_refused, page_length, page_for, page_answer, buffer_after}
use Rattle.page.proofs.tables.page_tables.Goals as goal
use Rattle.page.proofs.tables.page_tables.Goals.{In-Some}

module _ (ts : List Table) (s : Site) (n : ℕ) (o : List ℕ) where
  abbrev table : Option M.Table
  table = table_at s n (map table_of ts)

  -- ── no such table ──

  absent-answer : table ≡ None → page_refused 14 [] ≡ page_answer (page_for table o)
  absent-answer h = sym (ap (λ (t : Option M.Table). page_answer (page_for t o)) h)

  absent-buffer : table ≡ None → o ≡ buffer_after o (page_for table o)
  absent-buffer h = sym (ap (λ (t : Option M.Table). buffer_after o (page_for t o)) h)

  -- ── a table ──

  module _ (place : ℕ) (found : table ≡ Some (table_of (get_or ts place no_table))) where
    abbrev bytes : List ℕ
    bytes = page_of (relation_of (get_or ts place no_table).content)

    module _ (size : ℕ) (long : size ≡ length bytes) where
      by_room : (t : Bool) → leb size (length o) ≡ t → page_for table o ≡ cond t (a_page bytes) (no_page 22 (size ∷ []))
      by_room t h = ap (λ (u : Option M.Table). page_for u o) found ∙ ap (λ (k : ℕ). cond (leb k (length o)) (a_page bytes) (no_page 22 (k ∷ []))) (sym long) ∙ ap (λ (u : Bool). cond u (a_page bytes) (no_page 22 (size ∷ []))) h

      short-answer : length o < size → page_refused 22 (size ∷ []) ≡ page_answer (page_for table o)
      short-answer h = sym (ap page_answer (by_room false (lt-leb size (length o) h)))

      short-buffer : length o < size → o ≡ buffer_after o (page_for table o)
      short-buffer h = sym (ap (buffer_after o) (by_room false (lt-leb size (length o) h)))

      put-answer : size ≤ length o → page_length size ≡ page_answer (page_for table o)
      put-answer h = ap page_length long ∙ sym (ap page_answer (by_room true (le-leb size (length o) h)))

      put-buffer : (out : List ℕ) → size ≤ length o → out ≡ bytes → out ++ drop (size - 0) o ≡ buffer_after o (page_for table o)
      put-buffer out h q = rw (q, sub-zero) (ap (λ (k : ℕ). bytes ++ drop k o) long ∙ sym (ap (buffer_after o) (by_room true (le-leb size (length o) h))))

-- a table of the list is in its ranges
in-ranges : (ts : List Table) (i : ℕ) → i < length ts → T (list_all table_ok (map table_of ts)) → T (table_ok (table_of (get_or ts i no_table)))
in-ranges ts i h ok = subst (λ (t : M.Table). T (table_ok t)) (get_or-map table_of ts i no_table) (all-at table_ok (map table_of ts) i (table_of no_table) ok (omega (arith, h, length-map ts table_of)))

none-here : {A : Type 0} (o : Option A) → ((a : A) → o ≡ Some a → ⊥) → o ≡ None
none-here None h = refl
none-here (Some a) h = absurd (h a refl)

pub returns-in_default : goal.returns-in_default
returns-in_default c =
    let a = c.args in
    let h = found-none (is_at a.site a.name) table_of no_table a.tables.now (sym c.find_table.ensures ∙ none-here _ c.in_default.not-Some) in
    (absent-answer a.tables.now a.site a.name a.out.now h, absent-buffer a.tables.now a.site a.name a.out.now h)

-- the table that is found, and its ranges
found-at : (c : In-Some) → (c.in-Some.place < length c.args.tables.now) × (table_at c.args.site c.args.name (map table_of c.args.tables.now) ≡ Some (table_of (get_or c.args.tables.now c.in-Some.place no_table)))
found-at c = found-some (is_at c.args.site c.args.name) table_of no_table c.args.tables.now c.in-Some.place (sym c.find_table.ensures ∙ c.in-Some.is)

ok-at : (c : In-Some) → T (table_ok (table_of (get_or c.args.tables.now c.in-Some.place no_table)))
ok-at c = in-ranges c.args.tables.now c.in-Some.place (found-at c).0 c.requires

pub page_size-size-requires : goal.page_size-size-requires
page_size-size-requires c =
    let i = (goal.at.page_size-size-requires c).In-Some in
    let t = get_or i.args.tables.now i.in-Some.place no_table in
    (table-shaped t (ok-at i), rows_ok_lem (table_of t) (ok-at i))

pub returns-then-out-size : goal.returns-then-out-size
returns-then-out-size c = let f = (found-at (goal.at.returns-then-out-size c).In-Some).1 in (search short-answer, search short-buffer)

pub put_page-requires : goal.put_page-requires
put_page-requires c =
    let i = (goal.at.put_page-requires c).In-Some in
    let t = get_or i.args.tables.now i.in-Some.place no_table in
    (simp length-take (omega arith), table-shaped t (ok-at i), rows_ok_lem (table_of t) (ok-at i))

pub returns : goal.returns
returns c = let f = (found-at (goal.at.returns c).In-Some).1 in (search put-answer, search put-buffer)
