-- A step keeps the tables sound and at most eight. Assumes nothing.
use Prim.Native.Nat.{ℕ, ◌≤◌}
use mathlib.Core.Path.{◌≡◌, refl}
use mathlib.Core.Bool.{Bool, true, false, not, cond}
use mathlib.Core.List.{List, [], ◌∷◌, ◌++◌}
use Rattle.std.specs.Prelude.{Option, None, Some}
use native.Mathlib.Omega.{arith}
use lib.Dec.{T, eqb, ltb→lt, leb→le, le→leb}
use lib.ListN.{length, length-append, length-map}
use Rattle.values.specs.declared.Site.{Site}
use Rattle.values.specs.declared.Value.TheVariants.{Int, Text, Loc}
use Rattle.values.specs.Operands.{Got}
use Rattle.values.specs.Lists.{or_else}
use Rattle.std.specs.List.{find, list_all}
use Rattle.values.specs.Values.{site_ok, in_range, is_text}
use Rattle.values.specs.Operands.{values_in, eval}
use Rattle.values.proofs.Bools.{and_l, and_r, and_in}
use Rattle.values.proofs.ListLaws.{all_filter, all_append, filter-length, find-all}
use Rattle.rows.specs.Relations.{Row, Columns}
use Rattle.rows.specs.Matching.{hits, unselected}
use Rattle.row_change.specs.Changes.{renewed, updated}
use Rattle.row_change.proofs.RangeLaws.{tuple-ok, updated-ok}
use Rattle.nets.specs.declared.Alias.{Alias}
use Rattle.nets.specs.Nets.{Table, Kind, acting, other, insert, insert_table, delete, update, create, drop, Node}
use Rattle.nets.specs.Tables.{columns_of, with_rows}
use Rattle.nets.specs.Sound.{columns_ok, table_ok, variable_ok, alias_ok, operands_ok, fields_ok_as, node_ok_as}
use Rattle.nets.specs.Scenes.{Scene, vars, alias_for, meant, site_of_got, site_of_l, site, table, source, parts, own_draft}
use Rattle.nets.specs.Steps.{rows_by, tables_by}
use Rattle.nets.proofs.TableLaws.{change-all, change-length, remove-all, remove-length}
use Rattle.nets.proofs.SureLaws.{Sure}
use Rattle.nets.proofs.BindingLaws.{ranged, constants-ok, vars-ok}

-- ── the site that L means ──

abbrev meant_ok : Option Site → Bool
meant_ok None = true
meant_ok (Some s) = site_ok s

alias-ok : (o : Option Alias) → ((a : Alias) → o ≡ Some a → T (alias_ok a)) → T (meant_ok (meant o))
alias-ok None h = tt
alias-ok (Some a) h = let k = h a refl in search (and_l, and_r)

got-ok : (ls : List Alias) (s : Site) (g : Got) → T (list_all alias_ok ls) → T (site_ok s) → T (meant_ok (site_of_got ls s g))
got-ok ls s None h k = tt
got-ok ls s (Some (Int i)) h k = tt
got-ok ls s (Some (Text t)) h k = tt
got-ok ls s (Some (Loc l)) h k = go (eqb l.0 0)
  where
    go : (b : Bool) → T (meant_ok (cond b (Some s) (meant (find (alias_for s l) ls))))
    go true = k
    go false = alias-ok (find (alias_for s l) ls) (λ a e. find-all (alias_for s l) alias_ok ls a e h)

or-zero : (o : Option Site) → T (meant_ok o) → T (site_ok (or_else (record { 0 = 0 }) o))
or-zero None h = tt
or-zero (Some s) h = h

site-ok : {k : Kind} {c : Scene} → Sure k c → T (list_all alias_ok c.net.aliases) → T (site_ok (site c))
unfolding site site_of_l
site-ok {k} {c} s h = or-zero (site_of_l c) (got-ok c.net.aliases c.thread.site (eval (vars c) c.node.locality) h s.site_fine)

-- ── the tables ──

pub rows_ok_lem : (rs : List Row) (t : Table) → T (table_ok t) → length rs ≤ 16 → T (list_all (λ x. list_all in_range x) rs) → T (table_ok (with_rows rs t))
rows_ok_lem rs t h l r = let few = le→leb (length rs) 16 l in search (and_l, and_r, and_in) depth 8

table-few : (t : Table) → T (table_ok t) → length t.content.rows ≤ 16
table-few t h = leb→le (length t.content.rows) 16 (search (and_l, and_r))

pub table_range : (t : Table) → T (table_ok t) → T (list_all (λ x. list_all in_range x) t.content.rows)
table_range t h = search (and_l, and_r)

create_name : (n i : ℕ) (d : Node) → T (node_ok_as (acting create) n i d) → T (is_text d.name)
unfolding fields_ok_as
create_name n i d h = search (and_l, and_r) depth 16

pub tables-ok : (k : Kind) (c : Scene) → Sure k c → T (list_all alias_ok c.net.aliases) → T (list_all table_ok c.net.tables) → T (list_all table_ok (tables_by k c))
unfolding rows_by tables_by fields_ok_as table
tables-ok (acting insert) c s a h =
    let tags : T (operands_ok 5 c.node.tuple) = search (and_l, and_r, s.node) depth 16 in
    let new : Row = values_in (own_draft (parts c)) in
    let range = tuple-ok variable_ok ranged (vars c) c.node.tuple (vars-ok s) (constants-ok 5 c.node.tuple tags) in
    change-all (site c) c.node.name (λ rs. rs ++ (new ∷ [])) table_ok c.net.tables
    (λ t e k.
    rows_ok_lem (t.content.rows ++ (new ∷ [])) t k
    (let room = rw e at s.room in rw length-append (omega (arith, ltb→lt)))
    (all_append (λ x. list_all in_range x) t.content.rows (new ∷ []) (table_range t k) (search (and_in, range)))) h
tables-ok (acting insert_table) c s a h =
    change-all (site c) c.node.name (λ rs. rs ++ (source c).rows) table_ok c.net.tables
    (λ t e k.
    rows_ok_lem (t.content.rows ++ (source c).rows) t k
    (let room = rw e at s.room in rw length-append (omega (arith, leb→le)))
    (all_append (λ x. list_all in_range x) t.content.rows (source c).rows (table_range t k) s.source_range)) h
tables-ok (acting delete) c s a h =
    let spared : Row → Bool = λ r. not (hits (vars c) c.node.selector r) in
    change-all (site c) c.node.name (unselected (vars c) c.node.selector) table_ok c.net.tables
    (λ t e k.
    rows_ok_lem (unselected (vars c) c.node.selector t.content.rows) t k
    (omega (arith, filter-length spared t.content.rows, table-few t k))
    (all_filter (λ x. list_all in_range x) spared t.content.rows (table_range t k))) h
tables-ok (acting update) c s a h =
    let tags : T (operands_ok 5 c.node.tuple) = search (and_l, and_r, s.node) depth 16 in
    let cs : Columns = columns_of (table c) in
    change-all (site c) c.node.name (updated (vars c) c.node.selector c.node.tuple cs) table_ok c.net.tables
    (λ t e k.
    rows_ok_lem (updated (vars c) c.node.selector c.node.tuple cs t.content.rows) t k
    (rw (length-map t.content.rows (renewed (vars c) c.node.selector c.node.tuple cs)) (table-few t k))
    (updated-ok variable_ok ranged (vars c) (vars-ok s) c.node.selector c.node.tuple (constants-ok 5 c.node.tuple tags) cs t.content.rows (table_range t k))) h
tables-ok (acting create) c s a h =
    let cols : T (columns_ok c.node.columns) = search (and_l, and_r, s.node) depth 16 in
    let name : T (is_text c.node.name) = create_name (length c.net.nodes) s.number c.node s.node in
    all_append table_ok c.net.tables (record { site = site c; name = c.node.name; content = record { columns = c.node.columns; rows = [] } } ∷ []) h
    (search (and_in, site-ok s a))
tables-ok (acting drop) c s a h = remove-all (site c) c.node.name table_ok c.net.tables h
tables-ok (other o) c s a h = h

pub tables-few : (k : Kind) (c : Scene) → Sure k c → length c.net.tables ≤ 8 → length (tables_by k c) ≤ 8
unfolding tables_by
tables-few (acting insert) c s h = rw change-length h
tables-few (acting insert_table) c s h = rw change-length h
tables-few (acting delete) c s h = rw change-length h
tables-few (acting update) c s h = rw change-length h
tables-few (acting create) c s h = let room = s.room in rw length-append (omega (arith, ltb→lt))
tables-few (acting drop) c s h = omega (arith, remove-length (site c) c.node.name c.net.tables)
tables-few (other o) c s h = h
