-- The records of a moment: how long they are together, and the number in its head. Assumes nothing.
use Prim.Native.Nat.{ℕ, zero, suc, ◌+◌, ◌*◌, ◌/◌, ◌≤◌}
use mathlib.Core.Path.{◌≡◌, refl, sym, ap, subst, ◌∙◌}
use mathlib.Core.List.{List, [], ◌∷◌, ◌++◌, map, append-nil}
use native.Mathlib.Omega.{arith}
use lib.Dec.{T}
use lib.ListN.{length, get_or, length-append}
use Rattle.values.proofs.Firsts.{firsts-next}
use Rattle.rows.specs.View.{no_row, values_of}
use Rattle.nets.specs.declared.Table.{Table}
use Rattle.nets.specs.declared.Net.{Net}
use Rattle.nets.specs.Nets as M
use Rattle.nets.specs.Sound.{sound}
use Rattle.nets.specs.View.{no_table, table_of, tables_of, view}
use Rattle.nets.proofs.ShapeLaws.{tables_of_lem, tables-ok, shaped-at}
use Rattle.record_bytes.specs.Encoding.{table_bytes, row_bytes}
use Rattle.value_bytes.specs.Bytes.{end_to_end}
use Rattle.value_bytes.proofs.Stores.{ends-append}
use Rattle.files.specs.Writing.{rows_bytes, all_rows, written}
use Rattle.write_fields.proofs.WriteLaws.{row-length, table-length}
use Rattle.write.proofs.WholeLaws.{rows_append}
use Rattle.call_rules.specs.Moments.{all_threads, moment_head, moment_put}
use Rattle.value_bytes.proofs.Parts.{Sized, sized-length, sized-append, sized-map, sized-firsts}
use Rattle.call_moment.proofs.ThreadRecordLaws.{records-all, threads-sized}

pub head-length : (a b n : ℕ) → length (moment_head a b n) ≡ 104
unfolding moment_head
head-length a b n = refl

-- ── rows ──

abbrev rows_to : ℕ → List Table → List (List ℕ)
rows_to n ts = all_rows (tables_of n ts)

abbrev rows_at : List Table → ℕ → List (List ℕ)
rows_at ts i = rows_bytes (table_of (get_or ts i no_table))

rows_next : (i : ℕ) (ts : List Table) → rows_to (i + 1) ts ≡ rows_to i ts ++ rows_at ts i
rows_next i ts =
    ap all_rows (firsts-next table_of no_table i ts)
    ∙ rows_append (tables_of i ts) (table_of (get_or ts i no_table) ∷ [])
    ∙ ap (λ (l : List (List ℕ)). rows_to i ts ++ l) (append-nil (rows_at ts i))

module _ (net : Net) (ok : T (sound (view net))) where
  abbrev tables : List M.Table
  tables = tables_of net.tablecount net.tables

  -- those of all threads
  abbrev held : List (List ℕ)
  held = all_threads (view net).nodes (view net).threads

  rows-sized : (i : ℕ) → i ≤ net.tablecount → Sized 104 (rows_to i net.tables)
  rows-sized zero h = tt
  rows-sized (suc i) h =
      let t = get_or net.tables i no_table in
      let r = t.content in
      let k = shaped-at net.tables net.tablecount i (omega arith) (tables-ok net ok) in
      let e : i + 1 ≡ suc i = omega arith in
      subst (λ (m : ℕ). Sized 104 (rows_to m net.tables)) e
      (subst (Sized 104) (sym (rows_next i net.tables))
      (sized-append 104 (rows_to i net.tables) (rows_at net.tables i) (rows-sized i (omega arith))
      (sized-firsts 104 (row_bytes t.site t.name) (values_of r.columns) no_row (λ x. row-length r.columns x k.columns t.site t.name) r.count r.rows)))

  tables-sized : Sized 104 (map table_bytes tables ++ all_rows tables)
  tables-sized = sized-append 104 (map table_bytes tables) (all_rows tables) (sized-map 104 table_bytes table-length tables) (rows-sized net.tablecount (omega arith))

  -- ── the whole ──

  abbrev records : List (List ℕ)
  records = (map table_bytes tables ++ all_rows tables) ++ held

  held-sized : Sized 104 held
  held-sized = subst (Sized 104) (sym (records-all net)) (threads-sized net ok net.threadcount (omega arith))

  records-sized : Sized 104 records
  records-sized = sized-append 104 (map table_bytes tables ++ all_rows tables) held tables-sized held-sized

  abbrev head : ℕ → List ℕ
  head n = moment_head (length tables) (length (view net).threads) n

  moment_is : moment_put (view net) ≡ head (suc (length records)) ++ end_to_end records
  unfolding moment_put
  moment_is = rw (tables_of_lem net)

  long : length (moment_put (view net)) ≡ 104 + length records * 104
  long = ap length moment_is ∙ length-append (head (suc (length records))) (end_to_end records) ∙ omega (arith, head-length (length tables) (length (view net).threads) (suc (length records)), sized-length 104 records records-sized)

  ends : end_to_end records ≡ written tables ++ end_to_end held
  unfolding written
  ends = ends-append (map table_bytes tables ++ all_rows tables) held

  written-long : length (written tables) ≡ length (map table_bytes tables ++ all_rows tables) * 104
  unfolding written
  written-long = sized-length 104 (map table_bytes tables ++ all_rows tables) tables-sized

  pub moment_length : length (moment_put (view net)) ≡ 104 + length (written tables) + length held * 104
  moment_length = omega (arith, long, written-long, length-append (map table_bytes tables ++ all_rows tables) held)

  -- by its length in bytes
  pub moment_parts : moment_put (view net) ≡ head (length (moment_put (view net)) / 104) ++ (written tables ++ end_to_end held)
  moment_parts =
      let e : suc (length records) ≡ length (moment_put (view net)) / 104 = omega (arith, long) in
      moment_is ∙ ap (λ (n : ℕ). head n ++ end_to_end records) e ∙ ap (λ (l : List ℕ). head (length (moment_put (view net)) / 104) ++ l) ends
