-- `load_groups::contents::rows_from` meets its contract: record by record, while they are rows.
use Prim.Native.Nat.{ℕ, ◌≤◌, ◌<◌}
use mathlib.Core.Path.{◌≡◌, refl, sym, ap, ap₂, subst, ◌∙◌}
use mathlib.Core.List.{List, [], ◌∷◌, ◌++◌, append-nil}
use native.Mathlib.Omega.{arith}
use Rattle.std.specs.Prelude.{Option, Ok, Err, None, Some, IfOk, cond}
use Rattle.std.specs.List.{position}
use lib.Dec.{ltb}
use Rattle.std.specs.Result.{result_err}
use borrow.Author.Rules.{rules}
use lib.ListN.{length, get_or, set, take, length-set}
use borrow.Author.Tests.{le-leb}
use Rattle.values.specs.declared.Site.{Site}
use Rattle.rows.specs.View.{relation_of, Shaped}
use Rattle.rows.specs.Relations.{Row}
use Rattle.nets.specs.declared.Table.{Table}
use Rattle.nets.specs.Nets as M
use Rattle.nets.specs.Tables.{is_at, with_rows, change}
use Rattle.nets.proofs.TablePlaces.{place_at, position-place, place-past, place-is}
use Rattle.nets.specs.View.{no_table, table_of, tables_of}
use Rattle.record_bytes.specs.Bytes.{at, part}
use Rattle.record_bytes.specs.RecordKinds.{group_at}
use Rattle.record_bytes.specs.Decoding.{row_record, site_at, name_in, row_in, row_form}
use Rattle.load_walk.specs.declared.Reach.{Reach}
use Rattle.nets.specs.Steps.{check}
use Rattle.files.specs.declared.Fault.{Fault}
use Rattle.files.specs.Loading.{Progress, load_checks, failing, put, advance}
use Rattle.load_walk.specs.Walking.{with_group, record_at, put_tables, Leads, Stops, group_next, Going, first_fault}
use Rattle.load_walk.proofs.PlaceTies.{other-shaped}
use Rattle.load_groups.proofs.RowTies as at_place
use Rattle.load_groups.proofs.RowTies.{row_checks}
use Rattle.load_walk.proofs.WalkLaws.{past, leads_trans, leads-stop, next-is, next_fits, next_less, step_on, step_off, went_on}
use Rattle.load_groups.proofs.ItemLaws.{record_takes, record_refuses}
use Rattle.load_groups.proofs.contents.rows_from.Goals as goal

pos : 1 ≤ 3
pos = omega arith

-- ── the record ──

module _ (g : ℕ) (ts : List M.Table) (s : Site) (n : ℕ) (x : Row) (l : Progress) where
  same-checks : g ≤ 3 → failing (load_checks (with_group g (put_tables ts l)) (row_record s n x)) ≡ failing (row_checks ts s n x)
  unfolding load_checks
  same-checks h = rw (le-leb g 3 h)

  added : advance (with_group g (put_tables ts l)) (row_record s n x) ≡ with_group 3 (put_tables (change s n (λ rs. rs ++ (x ∷ [])) ts) l)
  unfolding advance put
  added = rw (append-nil l.picks)

-- ── one record ──

abbrev row : List ℕ → Row
row bs = row_in (part 56 88 bs)

-- the table at a place with the row behind its rows
abbrev Taken : List Table → ℕ → Row → Table → Type 0
Taken ts i x o = (table_of o ≡ with_rows ((relation_of (get_or ts i no_table).content).rows ++ (x ∷ [])) (table_of (get_or ts i no_table))) × Shaped o.content

module _ (file : List ℕ) (from r : Reach) (n : ℕ) (e : n ≡ group_next file r) (e' : n ≡ 3) (g : Going file 3 r) (c : ℕ) (p : Progress → Progress) (ts : List Table) (bs : List ℕ) (eb : bs ≡ record_at file r.place) (o : Option Fault)
    (z : o ≡ first_fault r.place (check 4 (row_form bs) ∷ row_checks (tables_of c ts) (site_at 1 bs) (name_in bs) (row bs))) (h : Leads file from r p (put_tables (tables_of c ts))) where
  kind : group_at (at bs 0) ≡ 3
  kind = ap (λ (x : List ℕ). group_at (at x 0)) eb ∙ (next-is 3 pos file r n e e').1

  checks : (k : ℕ) (l : Progress) → k ≤ 3 → failing (load_checks (with_group k (put_tables (tables_of c ts) l)) (row_record (site_at 1 bs) (name_in bs) (row bs))) ≡ failing (row_checks (tables_of c ts) (site_at 1 bs) (name_in bs) (row bs))
  checks k l h = same-checks k (tables_of c ts) _ _ _ l h

  off : (f : Fault) → Some f ≡ o → Stops file from f p
  off f k =
      leads-stop file from r f _ _ h
      (step_off 3 pos file r n e e' g bs eb (put_tables (tables_of c ts)) f
      (record_refuses 3 r.place bs kind (row_form bs) (row_record (site_at 1 bs) (name_in bs) (row bs)) refl (put_tables (tables_of c ts)) (row_checks (tables_of c ts) (site_at 1 bs) (name_in bs) (row bs)) checks o z f k))

  on : (vs : List Table) → None ≡ o → tables_of c vs ≡ change (site_at 1 bs) (name_in bs) (λ rs. rs ++ (row bs ∷ [])) (tables_of c ts) → Leads file from (past r 3) p (put_tables (tables_of c vs))
  on vs y q =
      leads_trans file from r (past r 3) _ _ _ h
      (step_on 3 pos file r n e e' g bs eb (put_tables (tables_of c ts)) (put_tables (tables_of c vs))
      (record_takes 3 r.place bs kind (row_form bs) (row_record (site_at 1 bs) (name_in bs) (row bs)) refl (put_tables (tables_of c ts)) (row_checks (tables_of c ts) (site_at 1 bs) (name_in bs) (row bs)) checks o z (put_tables (tables_of c vs))
      (λ k l. added k (tables_of c ts) _ _ _ l ∙ ap (λ (us : List M.Table). with_group 3 (put_tables us l)) (sym q)) y))

pub record_at-r-requires : goal.record_at-r-requires
record_at-r-requires c = search (next_fits 3 pos)

-- the place of the row's table among those read; past them where there is none
abbrev place-in : List Table → ℕ → List ℕ → ℕ
place-in ts n bs = place_at (site_at 1 bs) (name_in bs) (tables_of n ts)

found-in : (ts : List Table) (n : ℕ) (bs : List ℕ) (o : Option ℕ) → n ≤ length ts → o ≡ position (λ t. is_at (site_at 1 bs) (name_in bs) (table_of t)) (take n ts) → o ≡ cond (ltb (place-in ts n bs) n) (Some (place-in ts n bs)) None
found-in ts n bs o h e = e ∙ position-place (is_at (site_at 1 bs) (name_in bs)) table_of no_table n ts h

none-found : {A : Type 0} (o : Option A) → ((a : A) → o ≡ Some a → ⊥) → o ≡ None
none-found None h = refl
none-found (Some a) h = absurd (h a refl)

-- what is found, by the list's place
seen-in : {s : Site} {m : ℕ} (ts : List Table) (n : ℕ) (bs : List ℕ) (o : Option ℕ) → s ≡ site_at 1 bs → m ≡ name_in bs → n ≤ length ts → o ≡ position (λ t. is_at s m (table_of t)) (take n ts) → o ≡ cond (ltb (place-in ts n bs) n) (Some (place-in ts n bs)) None
seen-in ts n bs o p q h e = found-in ts n bs o h (e ∙ ap₂ (λ (a : Site) (b : ℕ). position (λ t. is_at a b (table_of t)) (take n ts)) p q)

pub returns-in_default : goal.returns-in_default
returns-in_default c =
    let l = c.loop-r in
    let a = c.args in
    let bs = c.record_at-r.result.now in
    let seen = seen-in l.tables a.read.count bs c.find_table.result c.record_site.ensures c.record_name.ensures (omega (arith, l.invariant.1.0, l.invariant.0)) c.find_table.ensures in
    let past = place-past (place-in l.tables a.read.count bs) a.read.count c.find_table.result seen (none-found _ c.in_default.not-Some) in
    off _ _ _ _ c.next_group.ensures c.loop-r-test.true l.invariant.3 a.read.count _ l.tables _ c.record_at-r.ensures _
    (at_place.missing l.tables _ _ _ (place-in l.tables a.read.count bs) refl _ _ (row c.record_at-r.result.now) _ past c.lost_fault.ensures)
    l.invariant.2 _ refl

pub returns-in_err-tables : goal.returns-in_err-tables
returns-in_err-tables c =
    let l = c.loop-r in
    let a = c.args in
    let q : c.from_residual.result ≡ Err c.in_err-tables.field-0.0 = search rules in
    let z : c.row_taken.result ≡ Err c.in_err-tables.field-0.0 = c.in_err-tables.was in
    let bs = c.record_at-r.result.now in
    let seen = seen-in l.tables a.read.count bs c.find_table.result c.record_site.ensures c.record_name.ensures (omega (arith, l.invariant.1.0, l.invariant.0)) c.find_table.ensures in
    let is = place-is (place-in l.tables a.read.count bs) a.read.count c.in-Some.place c.find_table.result seen c.in-Some.is in
    rw q (off _ _ _ _ c.next_group.ensures c.loop-r-test.true l.invariant.3 a.read.count _ l.tables _ c.record_at-r.ensures _
    (at_place.found l.tables _ _ _ _ is.0 is.1 _ _ (row c.record_at-r.result.now) _ c.row_taken.ensures.fault)
    l.invariant.2 _ (ap result_err (sym z)))

pub loop-r-preserved : goal.loop-r-preserved
loop-r-preserved c =
    let l = c.loop-r in
    let a = c.args in
    let bs = c.record_at-r.result.now in
    let x = row bs in
    let seen = seen-in l.tables a.read.count bs c.find_table.result c.record_site.ensures c.record_name.ensures (omega (arith, l.invariant.1.0, l.invariant.0)) c.find_table.ensures in
    let is = place-is (place-in l.tables a.read.count bs) a.read.count c.in-Some.place c.find_table.result seen c.in-Some.is in
    let z : c.row_taken.result ≡ Ok c.in_ok-tables.field-0 = c.in_ok-tables.was in
    let f : None ≡ result_err c.row_taken.result = ap result_err (sym z) in
    let k = subst (λ o. IfOk o (Taken (l.tables) c.in-Some.place x)) z c.row_taken.ensures.table in
    let r : c.in-Some.place < length l.tables = omega (arith, l.invariant.0, l.invariant.1.0, is.1) in (
      search length-set,
      other-shaped l.tables _ c.in_ok-tables.field-0 r k.1 _ l.invariant.1,
      on _ _ _ _ c.next_group.ensures c.loop-r-test.true l.invariant.3 a.read.count _ l.tables _ c.record_at-r.ensures _
          (at_place.found l.tables _ _ _ _ is.0 is.1 _ _ x _ c.row_taken.ensures.fault)
          l.invariant.2 (set l.tables c.in-Some.place c.in_ok-tables.field-0) f (at_place.added l.tables _ _ _ _ is.0 is.1 x c.in_ok-tables.field-0 r k.0),
      search (went_on 3 pos),
    )

pub loop-r-smaller : goal.loop-r-smaller
loop-r-smaller c = search (next_less 3 pos)
