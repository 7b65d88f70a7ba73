-- The bytes that calls hand out for a net's tables, for its threads and for picks. `step_bytes` has those of answers.
use Rattle.std.specs.Prelude.{ℕ, List, [], ◌∷◌, ◌++◌, map, length}
use Rattle.values.specs.Lists.{bit, among, places}
use Rattle.nets.specs.declared.Pick.{Pick}
use Rattle.nets.specs.Nets.{Entry, to_run, visiting, Thread, Net}
use Rattle.nets.specs.Sound.{entry_node}
use Rattle.nets.specs.Scenes.{top}
use Rattle.nets.specs.Accounts.{after}
use Rattle.value_bytes.specs.Bytes.{end_to_end}
use Rattle.files.specs.Writing.{written}

-- ── tables: table and row records ──

unfoldable pub tables_put : Net → List Pick → List ℕ
tables_put net ps = written (after net ps).tables

-- ── threads: site, depth, the top entry's kind and node, four zeros, the rows still to visit; 24 bytes each ──

-- 0 for a node to run, 1 for a loop
abbrev pub entry_kind : Entry → ℕ
entry_kind (to_run i) = 0
entry_kind (visiting i v b) = 1

-- a node to run has none
abbrev pub to_visit : Entry → List ℕ
to_visit (to_run i) = []
to_visit (visiting i v b) = v

-- 1 for each row place of the list
unfoldable pub visit_bytes : List ℕ → List ℕ
visit_bytes v = map (λ (i : ℕ). bit (among i v)) (places 0 16)

unfoldable pub head_bytes : ℕ → ℕ → Entry → List ℕ
head_bytes s d e = s ∷ d ∷ entry_kind e ∷ entry_node e ∷ 0 ∷ 0 ∷ 0 ∷ 0 ∷ []

unfoldable pub thread_bytes : Thread → List ℕ
thread_bytes t = head_bytes t.site.0 (length t.stack) (top t.stack) ++ visit_bytes (to_visit (top t.stack))

unfoldable pub threads_put : Net → List Pick → List ℕ
threads_put net ps = end_to_end (map thread_bytes (after net ps).threads)

-- ── picks: thread place and row place ──

unfoldable pub picks_put : List Pick → List ℕ
picks_put ps = end_to_end (map (λ (p : Pick). p.thread ∷ p.row ∷ []) ps)
