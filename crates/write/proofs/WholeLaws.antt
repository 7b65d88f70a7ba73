-- The row records of the first tables of a net: how long they are, and one table more.
use Prim.Native.Nat.{ℕ, zero, suc, ◌+◌, ◌-◌, ◌*◌, ◌<◌, ◌≤◌}
use mathlib.Core.Path.{◌≡◌, refl, sym, ap, subst, ◌∙◌}
use mathlib.Core.List.{List, [], ◌∷◌, ◌++◌, map, append-nil, append_assoc}
use native.Mathlib.Omega.{arith}
use lib.Dec.{T}
use lib.ListN.{length, get_or, take, length-append, length-take}
use Rattle.std.specs.List.{list_all}
use Rattle.values.proofs.Firsts.{firsts-next, map-firsts, firsts_taken}
use Rattle.rows.specs.declared.Row.{Row}
use Rattle.rows.specs.View.{Shaped, no_row, values_of}
use Rattle.nets.specs.declared.Table.{Table}
use Rattle.nets.specs.Nets as M
use Rattle.nets.specs.declared.Net.{Net}
use Rattle.nets.specs.Sound.{table_ok, sound}
use Rattle.nets.specs.View.{no_table, table_of, tables_of, view}
use Rattle.nets.proofs.ShapeLaws.{shaped-at, tables_of_lem, few-tables, tables-ok}
use Rattle.record_bytes.specs.Encoding.{table_bytes, row_bytes}
use Rattle.value_bytes.specs.Bytes.{end_to_end}
use Rattle.value_bytes.proofs.Stores.{ends-append, ends-length}
use Rattle.files.specs.Writing.{rows_bytes, all_rows, written}
use Rattle.write_fields.proofs.WriteLaws.{row-length, table-length}

-- all tables of a list
pub tables-all : (ts : List Table) → tables_of (length ts) ts ≡ map table_of ts
tables-all [] = refl
tables-all (t ∷ ts) = ap (table_of t ∷◌) (tables-all ts)

pub shaped-in : (ts : List Table) (i : ℕ) → i < length ts → T (list_all table_ok (map table_of ts)) → Shaped (get_or ts i no_table).content
shaped-in ts i h ok = shaped-at ts (length ts) i h (subst (λ (l : List M.Table). T (list_all table_ok l)) (sym (tables-all ts)) ok)

-- those of a net that are in use
module _ (net : Net) (l : length net.tables ≡ 8) (ok : T (sound (view net))) where
  pub tables-in-use : tables_of net.tablecount net.tables ≡ map table_of (take net.tablecount net.tables)
  tables-in-use = firsts_taken table_of no_table net.tablecount net.tables (omega (arith, few-tables net ok, l))

  pub tables-taken : (view net).tables ≡ map table_of (take net.tablecount net.tables)
  tables-taken = tables_of_lem net ∙ tables-in-use

  pub tables-few : length (take net.tablecount net.tables) ≤ 8
  tables-few = rw (length-take, l) (omega (arith, few-tables net ok))

  pub tables-ranged : T (list_all table_ok (map table_of (take net.tablecount net.tables)))
  tables-ranged = subst (λ (ts : List M.Table). T (list_all table_ok ts)) tables-in-use (tables-ok net ok)

-- ── rows ──

-- the row records of the first n tables, and of one
abbrev pub bodies : ℕ → List Table → List ℕ
bodies n ts = end_to_end (all_rows (tables_of n ts))

abbrev pub body : Table → List ℕ
body t = end_to_end (rows_bytes (table_of t))

pub rows_append : (ts us : List M.Table) → all_rows (ts ++ us) ≡ all_rows ts ++ all_rows us
rows_append [] us = refl
rows_append (t ∷ ts) us = rw (rows_append ts us, append_assoc)

pub bodies-next : (i : ℕ) (ts : List Table) → bodies (i + 1) ts ≡ bodies i ts ++ body (get_or ts i no_table)
bodies-next i ts =
    ap (λ (l : List M.Table). end_to_end (all_rows l)) (firsts-next table_of no_table i ts)
    ∙ ap end_to_end (rows_append (tables_of i ts) (table_of (get_or ts i no_table) ∷ []))
    ∙ ends-append (all_rows (tables_of i ts)) (rows_bytes (table_of (get_or ts i no_table)) ++ [])
    ∙ ap (λ (l : List (List ℕ)). bodies i ts ++ end_to_end l) (append-nil (rows_bytes (table_of (get_or ts i no_table))))

pub body-length : (t : Table) → Shaped t.content → length (body t) ≡ t.content.count * 104
body-length t k =
    let r = t.content in
    let f : Row → List ℕ = λ x. row_bytes t.site t.name (values_of r.columns x) in
    ap (λ (l : List (List ℕ)). length (end_to_end l)) (map-firsts (row_bytes t.site t.name) (values_of r.columns) no_row r.count r.rows)
    ∙ ends-length f no_row 104 (λ x. row-length r.columns x k.columns t.site t.name) r.count r.rows

-- one table more: the length grows by its rows
pub length-next : (i : ℕ) (ts : List Table) → Shaped (get_or ts i no_table).content → length (bodies (i + 1) ts) ≡ length (bodies i ts) + (get_or ts i no_table).content.count * 104
length-next i ts k = rw (bodies-next i ts, length-append, body-length (get_or ts i no_table) k)

bodies_grow : (i k : ℕ) (ts : List Table) → length (bodies i ts) ≤ length (bodies (i + k) ts)
bodies_grow i zero ts =
    let e : i + 0 ≡ i = omega arith in
    rw e (omega arith)
bodies_grow i (suc k) ts =
    let e : i + suc k ≡ i + k + 1 = omega arith in
    let l : length (bodies (i + k + 1) ts) ≡ length (bodies (i + k) ts) + length (body (get_or ts (i + k) no_table)) = rw (bodies-next (i + k) ts, length-append) in
    rw e (omega (arith, l, bodies_grow i k ts))

-- the first tables leave room for the next one
pub bodies-room : (i n : ℕ) (ts : List Table) → i < n → Shaped (get_or ts i no_table).content → length (bodies i ts) + (get_or ts i no_table).content.count * 104 ≤ length (bodies n ts)
bodies-room i n ts h k =
    let e : i + 1 + (n - (i + 1)) ≡ n = omega arith in
    let g : length (bodies (i + 1) ts) ≤ length (bodies n ts) = subst (λ (m : ℕ). length (bodies (i + 1) ts) ≤ length (bodies m ts)) e (bodies_grow (i + 1) (n - (i + 1)) ts) in
    omega (arith, g, length-next i ts k)

-- ── all that is written ──

abbrev pub heads : ℕ → List Table → List ℕ
heads n ts = end_to_end (map table_bytes (tables_of n ts))

pub written_is : (n : ℕ) (ts : List Table) → written (tables_of n ts) ≡ heads n ts ++ bodies n ts
unfolding written
written_is n ts = ends-append (map table_bytes (tables_of n ts)) (all_rows (tables_of n ts))

pub heads-length : (n : ℕ) (ts : List Table) → length (heads n ts) ≡ n * 104
heads-length n ts =
    ap (λ (l : List (List ℕ)). length (end_to_end l)) (map-firsts table_bytes table_of no_table n ts)
    ∙ ends-length (λ (t : Table). table_bytes (table_of t)) no_table 104 (λ t. table-length (table_of t)) n ts
