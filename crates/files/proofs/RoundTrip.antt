-- What is written is read again. Two laws: bytes put end to end give their records, and the records of sound tables load as these tables. Assumes nothing.
use Prim.Native.Nat.{ℕ, suc, ◌*◌, ◌%◌, ◌≤◌}
use mathlib.Core.Path.{◌≡◌, refl, sym, ap, ap₂, ◌∙◌}
use mathlib.Core.List.{List, [], ◌∷◌, ◌++◌, map, append-nil, map-append}
use native.Mathlib.Omega.{arith}
use lib.Dec.{T, eqb, leb→le}
use borrow.Author.Tests.{eq-eqb, le-leb}
use lib.ListN.{length, length-append, length-map}
use Rattle.std.specs.List.{list_all}
use Rattle.values.specs.Values.{in_range}
use Rattle.values.proofs.Bools.{and_l, and_r, and_in, T_of}
use Rattle.values.proofs.ListLaws.{all_append, all_map}
use Rattle.rows.specs.Relations.{Row, Columns}
use Rattle.rows.specs.Fit.{fits_row}
use Rattle.nets.specs.Nets.{Table}
use Rattle.nets.specs.Tables.{rows_fit}
use Rattle.nets.specs.Sound.{table_ok}
use Rattle.nets.proofs.SoundLaws.{Clauses, clauses}
use Rattle.record_bytes.specs.Bytes.{parts}
use Rattle.record_bytes.specs.Decoding.{record_in, whole_records, records_in}
use Rattle.files.specs.Loading.{load, load_bytes}
use Rattle.record_bytes.specs.Encoding.{table_bytes, row_bytes}
use Rattle.value_bytes.specs.Bytes.{end_to_end}
use Rattle.files.specs.Writing.{rows_bytes, all_rows, written}
use Rattle.files.specs.RoundTrip.{tables_only, WrittenIsRead}
use Rattle.files.proofs.EndToEnd.{sized, ends-length, ends-parts}
use Rattle.files.proofs.TableBack.{table-length, table-back}
use Rattle.files.proofs.RowBack.{row-length, row_back}
use Rattle.files.proofs.ReadBack.{head, line, lines, tables-load}

-- ── bytes end to end ──

module _ (ps : List (List ℕ)) (long : T (sized 104 ps)) where
  whole-records : whole_records (end_to_end ps) ≡ length ps
  whole-records = let e = ends-length 104 ps long in omega arith

  -- records end to end are read as these records
  pub records-back : records_in (end_to_end ps) ≡ map record_in ps
  unfolding records_in
  records-back =
      ap (λ n. map record_in (parts 104 n (end_to_end ps))) whole-records
      ∙ ap (λ bs. map record_in (parts 104 (length ps) bs)) (sym (append-nil (end_to_end ps)))
      ∙ ap (map record_in) (ends-parts 104 ps [] long)

  -- and loaded as them, where there are at most 256
  pub bytes_back : length ps ≤ 256 → load_bytes (end_to_end ps) ≡ load (map record_in ps)
  unfolding load_bytes
  bytes_back few =
      let e = ends-length 104 ps long in
      rw (eq-eqb (length (end_to_end ps) % 104) 0 (omega arith), whole-records, le-leb (length ps) 256 few) (ap load records-back)

-- ── the records of sound tables ──

-- a row that fits is as long as the columns
fit_length : (cs : Columns) (r : Row) → T (fits_row cs r) → length r ≡ length cs
fit_length [] [] h = refl
fit_length [] (v ∷ r) h = absurd h
fit_length (c ∷ cs) [] h = absurd h
fit_length (c ∷ cs) (v ∷ r) h = ap suc (fit_length cs r (search and_r))

module _ (t : Table) (ok : T (table_ok t)) where
  some-columns : 1 ≤ length t.content.columns
  some-columns = leb→le 1 (length t.content.columns) (search (and_l, and_r))

  few-columns : length t.content.columns ≤ 4
  few-columns = leb→le (length t.content.columns) 4 (search (and_l, and_r))

  rows_back : (rs : List Row) → T (list_all (fits_row t.content.columns) rs) → T (list_all (λ r. list_all in_range r) rs) → map record_in (map (row_bytes t.site t.name) rs) ≡ map (line t) rs
  rows_back [] f h = refl
  rows_back (r ∷ rs) f h =
      let n = fit_length t.content.columns r (and_l (fits_row t.content.columns r) (list_all (fits_row t.content.columns) rs) f) in
      let a = some-columns in
      let b = few-columns in
      ap₂ ◌∷◌
      (row_back t.site t.name r (search (and_l, and_r)) (search (and_l, and_r)) (omega arith) (omega arith) (and_l (list_all in_range r) (list_all (λ x. list_all in_range x) rs) h))
      (rows_back rs (and_r (fits_row t.content.columns r) (list_all (fits_row t.content.columns) rs) f) (and_r (list_all in_range r) (list_all (λ x. list_all in_range x) rs) h))

  rows_long : (rs : List Row) → T (list_all (fits_row t.content.columns) rs) → T (sized 104 (map (row_bytes t.site t.name) rs))
  rows_long [] f = tt
  rows_long (r ∷ rs) f =
      let n = fit_length t.content.columns r (and_l (fits_row t.content.columns r) (list_all (fits_row t.content.columns) rs) f) in
      let b = few-columns in
      and_in (eqb (length (row_bytes t.site t.name r)) 104) (sized 104 (map (row_bytes t.site t.name) rs))
      (T_of (eqb (length (row_bytes t.site t.name r)) 104) (eq-eqb (length (row_bytes t.site t.name r)) 104 (row-length t.site t.name r (omega arith))))
      (rows_long rs (and_r (fits_row t.content.columns r) (list_all (fits_row t.content.columns) rs) f))

  rows_range : T (list_all (λ r. list_all in_range r) t.content.rows)
  rows_range = search (and_l, and_r)

  rows_few : length t.content.rows ≤ 16
  rows_few = leb→le (length t.content.rows) 16 (search (and_l, and_r))

heads-back : (ts : List Table) → T (list_all table_ok ts) → map record_in (map table_bytes ts) ≡ map head ts
heads-back [] h = refl
heads-back (t ∷ ts) h = ap₂ ◌∷◌ (table-back t (and_l (table_ok t) (list_all table_ok ts) h)) (heads-back ts (and_r (table_ok t) (list_all table_ok ts) h))

lines-back : (ts : List Table) → T (list_all table_ok ts) → T (list_all rows_fit ts) → map record_in (all_rows ts) ≡ lines ts
lines-back [] h f = refl
lines-back (t ∷ ts) h f =
    map-append record_in (rows_bytes t) (all_rows ts)
    ∙ ap₂ ◌++◌ (rows_back t (and_l (table_ok t) (list_all table_ok ts) h) t.content.rows (and_l (rows_fit t) (list_all rows_fit ts) f) (rows_range t (and_l (table_ok t) (list_all table_ok ts) h))) (lines-back ts (and_r (table_ok t) (list_all table_ok ts) h) (and_r (rows_fit t) (list_all rows_fit ts) f))

lines_long : (ts : List Table) → T (list_all table_ok ts) → T (list_all rows_fit ts) → T (sized 104 (all_rows ts))
lines_long [] h f = tt
lines_long (t ∷ ts) h f =
    all_append (λ (p : List ℕ). eqb (length p) 104) (rows_bytes t) (all_rows ts)
    (rows_long t (and_l (table_ok t) (list_all table_ok ts) h) t.content.rows (and_l (rows_fit t) (list_all rows_fit ts) f))
    (lines_long ts (and_r (table_ok t) (list_all table_ok ts) h) (and_r (rows_fit t) (list_all rows_fit ts) f))

lines-few : (ts : List Table) → T (list_all table_ok ts) → length (all_rows ts) ≤ 16 * length ts
lines-few [] h = omega arith
lines-few (t ∷ ts) h =
    let a = rows_few t (and_l (table_ok t) (list_all table_ok ts) h) in
    let b = lines-few ts (and_r (table_ok t) (list_all table_ok ts) h) in
    rw (length-append (rows_bytes t) (all_rows ts), length-map t.content.rows (row_bytes t.site t.name)) (omega arith)

-- ── the whole ──

pub written_read : WrittenIsRead
unfolding written
written_read ts h =
    bytes_back bytes long few
    ∙ ap load (map-append record_in (map table_bytes ts) (all_rows ts) ∙ ap₂ ◌++◌ (heads-back ts c.tables) (lines-back ts c.tables c.fit))
    ∙ tables-load ts h
  where
    c : Clauses (tables_only ts)
    c = clauses (tables_only ts) h

    bytes : List (List ℕ)
    bytes = map table_bytes ts ++ all_rows ts

    long : T (sized 104 bytes)
    long =
        all_append (λ (p : List ℕ). eqb (length p) 104) (map table_bytes ts) (all_rows ts)
        (all_map (λ p. eqb (length p) 104) table_bytes ts (λ t. T_of (eqb (length (table_bytes t)) 104) (eq-eqb (length (table_bytes t)) 104 (table-length t))))
        (lines_long ts c.tables c.fit)

    few : length bytes ≤ 256
    few =
        let a = leb→le (length ts) 8 c.few_tables in
        let b = lines-few ts c.tables in
        rw (length-append (map table_bytes ts) (all_rows ts), length-map ts table_bytes) (omega arith)
