-- Loading: record by record, the first fault with its place; or the net and the picks.
use Rattle.std.specs.Prelude.{ℕ, suc, ◌%◌, Bool, true, false, not, cond, ◌&&◌, List, [], ◌∷◌, ◌++◌, eqb, leb, ltb, length, replicate, Option, None, Some, is_some}
use Rattle.values.specs.declared.Site.{Site}
use Rattle.std.specs.List.{list_any}
use Rattle.rows.specs.Fit.{fits_row}
use Rattle.nets.specs.declared.Pick.{Pick}
use Rattle.nets.specs.Nets.{Table, to_run, Thread, Net}
use Rattle.nets.specs.Tables.{table_at, rows_of, columns_of, change}
use Rattle.nets.specs.Sound.{same_alias, links_ok_as}
use Rattle.nets.specs.Steps.{Check, check}
use Rattle.files.specs.declared.Fault.{Fault}
use Rattle.record_bytes.specs.Decoding.{Record, alias_record, table_record, row_record, node_record, start_record, pick_record, Decoded, good, bad, whole_records, records_in}

-- ── what has been read ──

pub record Progress : Type 0 where
  pub net : Net
  pub picks : List Pick
  -- the group of the last record
  pub group : ℕ

abbrev pub empty_net : Net
empty_net = record { aliases = []; tables = []; nodes = []; threads = [] }

abbrev pub nothing_read : Progress
nothing_read = record { net = empty_net; picks = []; group = 0 }

-- ── checks 5 to 8 ──

-- the groups 1, 2, 3, nodes, 32, 33, in this order
abbrev pub group_of : Record → ℕ
group_of (alias_record a) = 1
group_of (table_record s n cs) = 2
group_of (row_record s n r) = 3
group_of (node_record d) = 4
group_of (start_record s i) = 5
group_of (pick_record p) = 6

-- no earlier alias has its site and locality, no earlier table its site and name
abbrev pub is_new : Net → Record → Bool
is_new net (alias_record a) = not (list_any (λ b. same_alias b a) net.aliases)
is_new net (table_record s n cs) = not (is_some (table_at s n net.tables))
is_new net (row_record s n r) = true
is_new net (node_record d) = true
is_new net (start_record s i) = true
is_new net (pick_record p) = true

-- a row's table is there, and the row fits
abbrev pub row_fits : Net → Record → Bool
row_fits net (alias_record a) = true
row_fits net (table_record s n cs) = true
row_fits net (row_record s n r) = is_some (table_at s n net.tables) && fits_row (columns_of (table_at s n net.tables)) r
row_fits net (node_record d) = true
row_fits net (start_record s i) = true
row_fits net (pick_record p) = true

-- at most 8 tables and starts, 128 nodes, 16 rows of a table
abbrev pub has_room : Net → Record → Bool
has_room net (alias_record a) = true
has_room net (table_record s n cs) = ltb (length net.tables) 8
has_room net (row_record s n r) = ltb (length (rows_of (table_at s n net.tables))) 16
has_room net (node_record d) = ltb (length net.nodes) 128
has_room net (start_record s i) = ltb (length net.threads) 8
has_room net (pick_record p) = true

unfoldable pub load_checks : Progress → Record → List Check
load_checks l r =
    check 5 (leb l.group (group_of r))
    ∷ check 6 (is_new l.net r)
    ∷ check 7 (row_fits l.net r)
    ∷ check 8 (has_room l.net r)
    ∷ []

-- ── what a record adds ──

-- a thread that starts: nothing bound, one node to run
abbrev pub fresh : Site → ℕ → Thread
fresh s i = record { site = s; bindings = record { vars = replicate 16 None; relations = None ∷ None ∷ [] }; stack = to_run i ∷ [] }

abbrev pub bare : Site → ℕ → List ℕ → Table
bare s n cs = record { site = s; name = n; content = record { columns = cs; rows = [] } }

abbrev pub with_tables : Net → List Table → Net
with_tables net ts = record { aliases = net.aliases; tables = ts; nodes = net.nodes; threads = net.threads }

unfoldable pub put : Net → Record → Net
put net (alias_record a) = record { aliases = net.aliases ++ (a ∷ []); tables = net.tables; nodes = net.nodes; threads = net.threads }
put net (table_record s n cs) = with_tables net (net.tables ++ (bare s n cs ∷ []))
put net (row_record s n r) = with_tables net (change s n (λ rs. rs ++ (r ∷ [])) net.tables)
put net (node_record d) = record { aliases = net.aliases; tables = net.tables; nodes = net.nodes ++ (d ∷ []); threads = net.threads }
put net (start_record s i) = record { aliases = net.aliases; tables = net.tables; nodes = net.nodes; threads = net.threads ++ (fresh s i ∷ []) }
put net (pick_record p) = net

abbrev pub picks_of : Record → List Pick
picks_of (alias_record a) = []
picks_of (table_record s n cs) = []
picks_of (row_record s n r) = []
picks_of (node_record d) = []
picks_of (start_record s i) = []
picks_of (pick_record p) = p ∷ []

unfoldable pub advance : Progress → Record → Progress
advance l r = record { net = put l.net r; picks = l.picks ++ picks_of r; group = group_of r }

-- ── record by record ──

-- the number of the first check that fails
abbrev pub failed : Bool → ℕ → Option ℕ → Option ℕ
failed true n o = o
failed false n o = Some n

abbrev pub failing : List Check → Option ℕ
failing [] = None
failing (k ∷ ks) = failed k.passes k.number (failing ks)

-- stopped by a fault, with its number and place; or all was read
pub data Reading : Type 0 where
  stopped : ℕ → ℕ → Reading
  finished : Progress → Reading

abbrev pub proceed : Option ℕ → ℕ → Reading → Reading
proceed None i x = x
proceed (Some n) i x = stopped n i

-- checks 3 to 8, from place `i` on
unfoldable pub read_all : ℕ → Progress → List Decoded → Reading
read_all i l [] = finished l
read_all i l (bad n ∷ xs) = stopped n i
read_all i l (good r ∷ xs) = proceed (failing (load_checks l r)) i (read_all (suc i) (advance l r) xs)

-- ── check 9, again record by record ──

-- with `n` nodes in all, `j` the number of the node met next: this record's, if it is a node
abbrev pub link_ok : ℕ → ℕ → Record → Bool
link_ok n j (alias_record a) = true
link_ok n j (table_record s m cs) = true
link_ok n j (row_record s m r) = true
link_ok n j (node_record d) = links_ok_as d.kind n j d
link_ok n j (start_record s i) = ltb i n
link_ok n j (pick_record p) = true

abbrev pub number_after : ℕ → Record → ℕ
number_after j (alias_record a) = j
number_after j (table_record s m cs) = j
number_after j (row_record s m r) = j
number_after j (node_record d) = suc j
number_after j (start_record s i) = j
number_after j (pick_record p) = j

abbrev pub bad_link : Bool → ℕ → Option ℕ → Option ℕ
bad_link true i o = o
bad_link false i o = Some i

-- the place of the first record that fails it
unfoldable pub first_bad_link : ℕ → ℕ → ℕ → List Decoded → Option ℕ
first_bad_link n i j [] = None
first_bad_link n i j (bad k ∷ xs) = first_bad_link n (suc i) j xs
first_bad_link n i j (good r ∷ xs) = bad_link (link_ok n j r) i (first_bad_link n (suc i) (number_after j r) xs)

-- ── the answer ──

-- rejected with a number and a record place; or accepted with the net and the picks
pub data LoadAnswer : Type 0 where
  rejected : ℕ → ℕ → LoadAnswer
  accepted : Net → List Pick → LoadAnswer

abbrev pub linked : Option ℕ → Progress → LoadAnswer
linked None l = accepted l.net l.picks
linked (Some i) l = rejected 9 i

abbrev pub finish : List Decoded → Reading → LoadAnswer
finish xs (stopped n i) = rejected n i
finish xs (finished l) = linked (first_bad_link (length l.net.nodes) 0 0 xs) l

unfoldable pub load : List Decoded → LoadAnswer
load xs = finish xs (read_all 0 nothing_read xs)

-- checks 1 and 2 precede all records
unfoldable pub load_bytes : List ℕ → LoadAnswer
load_bytes file =
    cond (eqb (length file % 104) 0)
    (cond (leb (whole_records file) 256) (load (records_in file)) (rejected 2 256))
    (rejected 1 (whole_records file))

-- ── what a caller gets ──

abbrev pub fault_of : LoadAnswer → Option Fault
fault_of (rejected n i) = Some (record { number = n; place = i })
fault_of (accepted net ps) = None

abbrev pub is_accepted : LoadAnswer → Bool
is_accepted (rejected n i) = false
is_accepted (accepted net ps) = true

-- a refused file gives the empty net and no picks
abbrev pub net_loaded : LoadAnswer → Net
net_loaded (rejected n i) = empty_net
net_loaded (accepted net ps) = net

abbrev pub picks_loaded : LoadAnswer → List Pick
picks_loaded (rejected n i) = []
picks_loaded (accepted net ps) = ps
