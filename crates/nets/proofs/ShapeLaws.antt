-- What ranges and soundness say of the code's structs: counts of tables, columns and rows are within their arrays.
use Prim.Native.Nat.{ℕ, ◌<◌, ◌≤◌}
use mathlib.Core.Path.{◌≡◌, refl, ap, subst}
use mathlib.Core.List.{List}
use Rattle.std.specs.Prelude.{Some}
use native.Mathlib.Omega.{arith}
use lib.Dec.{T, leb, leb→le}
use lib.ListN.{length, get_or}
use Rattle.std.specs.List.{list_all}
use Rattle.values.proofs.Bools.{and_l, and_r}
use Rattle.values.proofs.Firsts.{length-firsts, all_firsts}
use Rattle.rows.specs.declared.Relation.{Relation}
use Rattle.rows.specs.Relations as Rows
use Rattle.rows.specs.Relations.{Row, Columns}
use Rattle.rows.specs.View.{Shaped, no_row, values_of, relation_of}
use Rattle.nets.specs.declared.Table.{Table}
use Rattle.nets.specs.declared.Net.{Net}
use Rattle.nets.specs.Nets as M
use Rattle.nets.specs.Sound.{columns_ok, rows_ok, relation_ok, table_ok, sound}
use Rattle.nets.specs.View.{no_table, table_of, tables_of, view}
use Rattle.nets.proofs.SoundLaws.{clauses}

pub few-columns : (cs : Columns) → T (columns_ok cs) → T (leb (length cs) 4)
few-columns cs h = search (and_l, and_r) depth 12

few-rows : (rs : List Row) → T (rows_ok rs) → T (leb (length rs) 16)
few-rows rs h = search and_l

shaped : (r : Relation) → T (columns_ok (relation_of r).columns) → T (rows_ok (relation_of r).rows) → Shaped r
shaped r c h =
    record {
      columns = omega (arith, length-firsts (λ (k : ℕ). k) 0 r.columns r.kinds, leb→le (length (relation_of r).columns) 4 (few-columns (relation_of r).columns c));
      count = omega (arith, length-firsts (values_of r.columns) no_row r.count r.rows, leb→le (length (relation_of r).rows) 16 (few-rows (relation_of r).rows h));
    }

-- a bound table variable
relation-columns : (r : Rows.Relation) → T (relation_ok (Some r)) → T (columns_ok r.columns)
relation-columns r h = search (and_l, and_r) depth 12

relation-rows : (r : Rows.Relation) → T (relation_ok (Some r)) → T (rows_ok r.rows)
relation-rows r h = search (and_l, and_r) depth 12

pub relation-shaped : (r : Relation) → T (relation_ok (Some (relation_of r))) → Shaped r
relation-shaped r h = shaped r (relation-columns (relation_of r) h) (relation-rows (relation_of r) h)

-- ── a table in its ranges ──

pub columns-ok : (t : M.Table) → T (table_ok t) → T (columns_ok t.content.columns)
columns-ok t h = search (and_l, and_r) depth 12

pub rows_ok_lem : (t : M.Table) → T (table_ok t) → T (rows_ok t.content.rows)
rows_ok_lem t h = search (and_l, and_r) depth 12

pub table-shaped : (t : Table) → T (table_ok (table_of t)) → Shaped t.content
table-shaped t h = shaped t.content (columns-ok (table_of t) h) (rows_ok_lem (table_of t) h)

module _ (ts : List Table) (n i : ℕ) (below : i < n) (ok : T (list_all table_ok (tables_of n ts))) where
  ok_at : T (table_ok (table_of (get_or ts i no_table)))
  ok_at = all_firsts table_ok table_of no_table n ts i below ok

  pub rows-ok-at : T (rows_ok (relation_of (get_or ts i no_table).content).rows)
  rows-ok-at = rows_ok_lem (table_of (get_or ts i no_table)) ok_at

  pub shaped-at : Shaped (get_or ts i no_table).content
  shaped-at = shaped (get_or ts i no_table).content (columns-ok (table_of (get_or ts i no_table)) ok_at) rows-ok-at

-- ── the tables of a sound net ──

pub tables_of_lem : (net : Net) → (view net).tables ≡ tables_of net.tablecount net.tables
unfolding view
tables_of_lem net = refl

module _ (net : Net) (ok : T (sound (view net))) where
  pub few-tables : net.tablecount ≤ 8
  few-tables =
      omega (arith, leb→le (length (view net).tables) 8 (clauses (view net) ok).few_tables, ap length (tables_of_lem net), length-firsts table_of no_table net.tablecount net.tables)

  pub tables-ok : T (list_all table_ok (tables_of net.tablecount net.tables))
  tables-ok = subst (λ (l : List M.Table). T (list_all table_ok l)) (tables_of_lem net) (clauses (view net) ok).tables
