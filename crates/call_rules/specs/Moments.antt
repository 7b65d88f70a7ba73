-- A moment of a run: all that stands between two picks, as records of 104 bytes. Tables and rows are those of a file; what threads hold has records of its own, kinds 64 to 69.
use Rattle.std.specs.Prelude.{ℕ, suc, cond, List, [], ◌∷◌, ◌++◌, map, length, get_or, replicate, Option, None, Some}
use Rattle.values.specs.Lists.{places}
use Rattle.values.specs.Operands.{Vars, values_in}
use Rattle.rows.specs.Relations.{Row, Columns, Relation}
use Rattle.nets.specs.Nets.{is_sequential, Node, Entry, to_run, visiting, Bindings, Thread, Net}
use Rattle.nets.specs.Sound.{no_node, entry_node}
use Rattle.record_bytes.specs.Encoding.{tuple_bytes, column_bytes, table_bytes}
use Rattle.value_bytes.specs.Bytes.{end_to_end, little_bytes}
use Rattle.files.specs.Writing.{all_rows}
use Rattle.call_rules.specs.Layouts.{entry_kind, to_visit, visit_bytes}

-- the first eight bytes: a kind and two numbers
abbrev pub start_of : ℕ → ℕ → ℕ → List ℕ
start_of k a b = k ∷ a ∷ b ∷ 0 ∷ 0 ∷ 0 ∷ 0 ∷ 0 ∷ []

-- values at 56 to 87, where a row record has them
unfoldable pub values_record : ℕ → ℕ → Row → List ℕ
values_record k i r = start_of k i 0 ++ (replicate 48 0 ++ (tuple_bytes r ++ replicate 16 0))

-- ── bindings ──

-- 66: a variable's number, and its value if it is bound
abbrev pub variable_record : Vars → ℕ → List ℕ
variable_record vs i = values_record 66 i (values_in (get_or vs i None ∷ []))

unfoldable pub variable_records : Vars → List (List ℕ)
variable_records vs = map (variable_record vs) (places 0 16)

-- 67: a table variable's number, 1 if it is bound, its columns
unfoldable pub relation_head : ℕ → ℕ → Columns → List ℕ
relation_head i b cs = start_of 67 i b ++ (column_bytes cs ++ replicate 92 0)

-- 68 for each of its rows
abbrev pub relation_records : ℕ → Option Relation → List (List ℕ)
relation_records i None = relation_head i 0 [] ∷ []
relation_records i (Some r) = relation_head i 1 r.columns ∷ map (values_record 68 i) r.rows

abbrev pub bindings_records : Bindings → List (List ℕ)
bindings_records b =
    variable_records b.vars ++ (relation_records 0 (get_or b.relations 0 None) ++ relation_records 1 (get_or b.relations 1 None))

-- ── threads ──

-- 69: a node to run or a loop, the node's number, the rows still to visit
unfoldable pub entry_record : Entry → List ℕ
entry_record e = start_of 69 (entry_kind e) (entry_node e) ++ (visit_bytes (to_visit e) ++ replicate 80 0)

-- 65: site and depth
unfoldable pub thread_head : ℕ → ℕ → List ℕ
thread_head s d = start_of 65 s d ++ replicate 96 0

-- the bindings that an entry holds: those of a sequential loop, and no others
abbrev pub held_records : List Node → Entry → List (List ℕ)
held_records ds (to_run i) = []
held_records ds (visiting i v b) = cond (is_sequential (get_or ds i no_node).kind) (bindings_records b) []

-- each entry, and behind it what it holds
abbrev pub stack_records : List Node → List Entry → List (List ℕ)
stack_records ds [] = []
stack_records ds (e ∷ s) = entry_record e ∷ (held_records ds e ++ stack_records ds s)

-- its bindings, and its stack from the top down
abbrev pub thread_records : List Node → Thread → List (List ℕ)
thread_records ds t = thread_head t.site.0 (length t.stack) ∷ (bindings_records t.bindings ++ stack_records ds t.stack)

abbrev pub all_threads : List Node → List Thread → List (List ℕ)
all_threads ds [] = []
all_threads ds (t ∷ ts) = thread_records ds t ++ all_threads ds ts

-- ── a moment ──

-- 64: how many tables, threads and records
unfoldable pub moment_head : ℕ → ℕ → ℕ → List ℕ
moment_head tables threads n = (64 ∷ tables ∷ threads ∷ 0 ∷ little_bytes n) ++ replicate 96 0

abbrev pub moment_records : Net → List (List ℕ)
moment_records net = (map table_bytes net.tables ++ all_rows net.tables) ++ all_threads net.nodes net.threads

unfoldable pub moment_put : Net → List ℕ
moment_put net = moment_head (length net.tables) (length net.threads) (suc (length (moment_records net))) ++ end_to_end (moment_records net)
