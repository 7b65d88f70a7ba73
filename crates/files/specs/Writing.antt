-- Writing: all tables, then rows table by table, in list order, as records at the start of a lent buffer.
use Rattle.std.specs.Prelude.{ℕ, cond, List, [], ◌∷◌, ◌++◌, map, leb, length, drop}
use Rattle.nets.specs.Nets.{Table, Net}
use Rattle.nets.specs.Sound.{sound}
use Rattle.record_bytes.specs.Encoding.{table_bytes, row_bytes}
use Rattle.value_bytes.specs.Bytes.{end_to_end}

abbrev pub rows_bytes : Table → List (List ℕ)
rows_bytes t = map (row_bytes t.site t.name) t.content.rows

abbrev pub all_rows : List Table → List (List ℕ)
all_rows [] = []
all_rows (t ∷ ts) = rows_bytes t ++ all_rows ts

unfoldable pub written : List Table → List ℕ
written ts = end_to_end (map table_bytes ts ++ all_rows ts)

-- ── the call ──

-- refused with a number; or these bytes are written
pub data Wrote : Type 0 where
  not_written : ℕ → Wrote
  wrote : List ℕ → Wrote

unfoldable pub write : Net → List ℕ → Wrote
write net buffer =
    cond (sound net)
    (cond (leb (length (written net.tables)) (length buffer)) (wrote (written net.tables)) (not_written 21))
    (not_written 10)

-- every byte of the buffer afterwards: those after the written ones are unchanged, and after a refusal all are
abbrev pub buffer_after : List ℕ → Wrote → List ℕ
buffer_after buffer (not_written n) = buffer
buffer_after buffer (wrote bs) = bs ++ drop (length bs) buffer

-- the answer: refused with a number, or the length
pub data WriteSaid : Type 0 where
  refusing : ℕ → WriteSaid
  writing : ℕ → WriteSaid

abbrev pub written_answer : Wrote → WriteSaid
written_answer (not_written n) = refusing n
written_answer (wrote bs) = writing (length bs)
