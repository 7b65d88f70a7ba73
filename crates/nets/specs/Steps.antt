-- One step: the checks 10..20 in their order, what a done step does, and the step.
use Rattle.std.specs.Prelude.{ℕ, zero, suc, ◌+◌, Bool, true, false, not, cond, ◌&&◌, ◌||◌, List, [], ◌∷◌, ◌++◌, eqb, leb, ltb, get_or, set, length, Option, None, Some, is_some}
use Rattle.values.specs.declared.Operand.{Operand}
use Rattle.values.specs.Lists.{filter, count, among}
use Rattle.std.specs.List.{list_all, list_any}
use Rattle.values.specs.Operands.{Vars, is_got, values_in, reads, formals, bind}
use Rattle.rows.specs.Relations.{Row, Relation}
use Rattle.rows.specs.Matching.{matches1, row_vars, hits, unselected}
use Rattle.rows.specs.Fit.{fits, same_columns}
use Rattle.row_change.specs.Changes.{changes, updated, selection}
use Rattle.row_change.specs.Aggregates.{column_fits}
use Rattle.nets.specs.declared.Pick.{Pick}
use Rattle.nets.specs.Nets.{Table, Kind, acting, other, insert, insert_table, delete, update, create, drop, has_locality, needs_table, is_create, has_template, reads_relation, binds_relation, is_aggregate, is_sequential, is_parallel, Node, Entry, to_run, visiting, Bindings, Thread, Net, Outcome, refused, done}
use Rattle.nets.specs.Tables.{change, remove}
use Rattle.nets.specs.Sound.{sound, no_node, entry_node}
use Rattle.nets.specs.Scenes.{Scene, below, scene_of, vars, template, site_of_l, site, table, Parts, parts, hit_rows, own_draft, result, visit, row_at, pick_ready, opens}

-- ── the checks 12..20 ──

-- checks 16 to 18 and `room_by` take `Parts` and not the whole scene, so that contracts of the code can cite them, too

abbrev pub is_bound : Vars → ℕ → Bool
is_bound e i = is_got (get_or e i None)

abbrev pub is_bound_table : List (Option Relation) → ℕ → Bool
is_bound_table rs i = is_some (get_or rs i None)

-- every variable that the operands read is among the bound ones
abbrev pub known : (ℕ → Bool) → List Operand → Bool
known v os = list_all (λ o. list_all v (reads o)) os

-- with the variables `v` and the table variables `r` bound: L, T and T' read bound ones; the predicate and t also formals of T
unfoldable pub reads_ok : (ℕ → Bool) → (ℕ → Bool) → Node → Bool
reads_ok v r d =
    known v (d.locality ∷ d.result ∷ d.selector.template)
    && known (λ i. v i || among i (formals d.selector.template)) (d.selector.left ∷ d.selector.right ∷ d.tuple)
    && (not (reads_relation d.kind) || r d.read)

unfoldable pub check12 : Scene → Bool
check12 c = reads_ok (is_bound (vars c)) (is_bound_table c.thread.bindings.relations) c.node

unfoldable pub check13 : Scene → Bool
check13 c = not (has_locality c.node.kind) || is_some (site_of_l c)

unfoldable pub check14 : Scene → Bool
check14 c = not (needs_table c.node.kind) || is_some (table c)

unfoldable pub check15 : Scene → Bool
check15 c = not (is_create c.node.kind) || not (is_some (table c))

-- T is as long as the columns
abbrev pub template_fits : Kind → Parts → Bool
template_fits k p = not (has_template k) || eqb (length p.node.selector.template) (length p.source.columns)

-- the row or table to insert fits
abbrev pub insert_fits : Kind → Parts → Bool
insert_fits (acting insert) p = fits p.content.columns (own_draft p)
insert_fits (acting insert_table) p = same_columns p.content.columns p.source.columns
insert_fits (acting delete) p = true
insert_fits (acting update) p = true
insert_fits (acting create) p = true
insert_fits (acting drop) p = true
insert_fits (other o) p = true

-- functions 2..4 name a column that is there and Int
abbrev pub function_fits : Kind → Parts → Bool
function_fits k p = not (is_aggregate k) || column_fits p.node.function p.node.column p.source.columns

unfoldable pub check16 : Parts → Bool
check16 p = template_fits p.node.kind p && insert_fits p.node.kind p && function_fits p.node.kind p

-- a loop entry holds the table variable
abbrev pub holds : List Node → ℕ → Entry → Bool
holds ds v (to_run i) = false
holds ds v (visiting i l b) = eqb v (get_or ds i no_node).read

-- one holds the table variable that the step binds
abbrev pub held : Scene → Bool
held c = list_any (holds c.net.nodes c.node.bound) c.thread.stack

-- a table variable to be bound is not held
unfoldable pub check17 : Parts → Bool → Bool
check17 p is_held = not (binds_relation p.node.kind) || not is_held

-- there is a result, and T' matches it
unfoldable pub check18 : Parts → Bool
check18 p = not (is_aggregate p.node.kind) || (is_got (result p) && matches1 p.vars p.node.result (result p))

unfoldable pub check19 : Scene → Bool
check19 c = not (opens c) || pick_ready c

-- 16 rows in a table, 8 tables; with the number of tables before the step
abbrev pub room_by : Kind → Parts → ℕ → Bool
room_by (acting insert) p tables = ltb (length p.content.rows) 16
room_by (acting insert_table) p tables = leb (length p.content.rows + length p.source.rows) 16
room_by (acting delete) p tables = true
room_by (acting update) p tables = true
room_by (acting create) p tables = ltb tables 8
room_by (acting drop) p tables = true
room_by (other o) p tables = true

-- a round needs a stack entry, or a thread
unfoldable pub room_for_round : Scene → Bool
room_for_round c = cond (is_parallel c.node.kind) (ltb (length c.net.threads) 8) (ltb (length c.thread.stack) 8)

unfoldable pub check20 : Scene → Bool
check20 c = room_by c.node.kind (parts c) (length c.net.tables) && (not (opens c) || room_for_round c)

-- ── what a done step does to the tables ──

-- what it makes of the rows of its table, where that table stays
unfoldable pub rows_by : Kind → Parts → List Row → List Row
rows_by (acting insert) p rs = rs ++ (values_in (own_draft p) ∷ [])
rows_by (acting insert_table) p rs = rs ++ p.source.rows
rows_by (acting delete) p rs = unselected p.vars p.node.selector rs
rows_by (acting update) p rs = updated p.vars p.node.selector p.node.tuple p.content.columns rs
rows_by (acting create) p rs = rs
rows_by (acting drop) p rs = rs
rows_by (other o) p rs = rs

-- the tables with those rows
abbrev pub with_rows_by : Kind → Scene → List Table
with_rows_by k c = change (site c) c.node.name (rows_by k (parts c)) c.net.tables

unfoldable pub tables_by : Kind → Scene → List Table
tables_by (acting insert) c = with_rows_by (acting insert) c
tables_by (acting insert_table) c = with_rows_by (acting insert_table) c
tables_by (acting delete) c = with_rows_by (acting delete) c
tables_by (acting update) c = with_rows_by (acting update) c
tables_by (acting create) c = c.net.tables ++ (record { site = site c; name = c.node.name; content = record { columns = c.node.columns; rows = [] } } ∷ [])
tables_by (acting drop) c = remove (site c) c.node.name c.net.tables
tables_by (other o) c = c.net.tables

-- how many rows an update changes
abbrev pub change_count : Parts → ℕ
change_count p = count (changes p.vars p.node.selector p.node.tuple p.content.columns) p.content.rows

-- the counts answered: rows added, rows taken
unfoldable pub added_by : Kind → Parts → ℕ
added_by (acting insert) p = 1
added_by (acting insert_table) p = length p.source.rows
added_by (acting delete) p = 0
added_by (acting update) p = change_count p
added_by (acting create) p = 0
added_by (acting drop) p = 0
added_by (other o) p = 0

unfoldable pub taken_by : Kind → Parts → ℕ
taken_by (acting insert) p = 0
taken_by (acting insert_table) p = 0
taken_by (acting delete) p = count (hits p.vars p.node.selector) p.content.rows
taken_by (acting update) p = change_count p
taken_by (acting create) p = 0
taken_by (acting drop) p = length p.content.rows
taken_by (other o) p = 0

-- ── what it does to the bindings ──

-- what a table variable is bound to: a delete's rows, a select's result. Asked only of kinds 18, 19 and 20, which bind one
unfoldable pub bound_by : Kind → Parts → Relation
bound_by (acting a) p = record { columns = p.source.columns; rows = hit_rows p }
bound_by (other o) p = selection p.vars p.node.selector p.node.tuple p.source

-- the variables: an aggregate binds the formal of T'
unfoldable pub vars_by : Kind → Parts → Vars
vars_by k p = cond (is_aggregate k) (bind (p.node.result ∷ []) (result p ∷ []) p.vars) p.vars

abbrev pub with_vars : Bindings → Vars → Bindings
with_vars b e = record { vars = e; relations = b.relations }

-- variables keep their last binding, until a round of a sequential loop ends (`restored`)
unfoldable pub bindings_by : Kind → Scene → Bindings
bindings_by k c =
    record {
      vars = vars_by k (parts c);
      relations = cond (binds_relation k) (set c.thread.bindings.relations c.node.bound (Some (bound_by k (parts c)))) c.thread.bindings.relations;
    }

-- ── what it does to the threads ──

abbrev pub with_stack : Thread → List Entry → Thread
with_stack t s = record { site = t.site; bindings = t.bindings; stack = s }

abbrev pub with_bindings : Thread → Bindings → Thread
with_bindings t b = record { site = t.site; bindings = b; stack = t.stack }

-- a thread whose stack is empty is removed
abbrev pub keep_thread : Thread → List Entry → List Thread
keep_thread t [] = []
keep_thread t (x ∷ xs) = with_stack t (x ∷ xs) ∷ []

-- what a round binds ends with the round: where the entry directly above a sequential loop's entry is removed, all the bindings that the loop's entry keeps come back. `s` is the stack below the entry removed
abbrev pub restored : List Node → Thread → List Entry → Thread
restored ds t [] = t
restored ds t (to_run i ∷ s) = t
restored ds t (visiting i v b ∷ s) = cond (is_sequential (get_or ds i no_node).kind) (with_bindings t b) t

-- going on, with `s` the stack below the top: to next, or with 255 the entry is removed
abbrev pub go_on : List Node → ℕ → Thread → List Entry → List Thread
go_on ds next t s = cond (eqb next 255) (keep_thread (restored ds t s) s) (keep_thread t (to_run next ∷ s))

-- the thread at a place gives way to what became of it; where nothing did, the list closes up
abbrev pub settle : ℕ → List Thread → List Thread → List Thread
settle i us [] = []
settle zero us (t ∷ ts) = us ++ ts
settle (suc i) us (t ∷ ts) = t ∷ settle i us ts

-- a step that opens no round
abbrev pub plain : Scene → List Thread
plain c =
    settle c.at
    (go_on c.net.nodes c.node.next (with_bindings c.thread (bindings_by c.node.kind c)) (below c.thread.stack))
    c.net.threads

-- a round: T's formals bound to the row picked
abbrev pub round_bindings : Scene → Bindings
round_bindings c = with_vars c.thread.bindings (row_vars (vars c) (template c) (row_at c c.row))

-- the bindings of the moment when the loop was first met: the thread's own before its first round, and from then on those that its entry keeps
abbrev pub first_met : Thread → Entry → Bindings
first_met t (to_run i) = t.bindings
first_met t (visiting i v b) = b

-- the loop's entry in a round, without the place of the row picked
abbrev pub loop_entry : Scene → Entry
loop_entry c = visiting (entry_node c.entry) (filter (λ i. not (eqb i c.row)) (visit c)) (first_met c.thread c.entry)

-- sequential: the formals bind in the thread, and the body goes on the stack
abbrev pub sequential_round : Scene → List Thread
sequential_round c =
    settle c.at
    (with_stack (with_bindings c.thread (round_bindings c)) (to_run c.node.body ∷ loop_entry c ∷ below c.thread.stack) ∷ [])
    c.net.threads

-- parallel: a new thread at the same site gets the bindings and the body alone
abbrev pub parallel_round : Scene → List Thread
parallel_round c =
    settle c.at (with_stack c.thread (loop_entry c ∷ below c.thread.stack) ∷ []) c.net.threads
    ++ (with_stack (with_bindings c.thread (round_bindings c)) (to_run c.node.body ∷ []) ∷ [])

unfoldable pub threads_after : Scene → List Thread
threads_after c = cond (opens c) (cond (is_parallel c.node.kind) (parallel_round c) (sequential_round c)) (plain c)

unfoldable pub net_after : Scene → Net
net_after c = record { aliases = c.net.aliases; tables = tables_by c.node.kind c; nodes = c.net.nodes; threads = threads_after c }

unfoldable pub performed : Scene → Outcome
performed c = done (added_by c.node.kind (parts c)) (taken_by c.node.kind (parts c)) (net_after c)

-- ── the step ──

pub record Check : Type 0 where
  pub number : ℕ
  pub values : List ℕ
  pub passes : Bool

-- a check whose refusal has no values beside the number
abbrev pub check : ℕ → Bool → Check
check n b = record { number = n; values = []; passes = b }

-- the first check that fails refuses with its number and values; `r` makes the refusal
abbrev pub verdict : {A : Type 0} → (ℕ → List ℕ → A) → Bool → ℕ → List ℕ → A → A
verdict r true n vs o = o
verdict r false n vs o = r n vs

unfoldable pub first_refusal : {A : Type 0} → (ℕ → List ℕ → A) → List Check → A → A
first_refusal r [] o = o
first_refusal r (k ∷ ks) o = verdict r k.passes k.number k.values (first_refusal r ks o)

unfoldable pub checks : Scene → List Check
checks c =
    check 10 (sound c.net)
    ∷ check 11 (ltb c.at (length c.net.threads))
    ∷ check 12 (check12 c)
    ∷ check 13 (check13 c)
    ∷ check 14 (check14 c)
    ∷ check 15 (check15 c)
    ∷ check 16 (check16 (parts c))
    ∷ check 17 (check17 (parts c) (held c))
    ∷ check 18 (check18 (parts c))
    ∷ check 19 (check19 c)
    ∷ check 20 (check20 c)
    ∷ []

unfoldable pub step : Net → Pick → Outcome
step net p = first_refusal refused (checks (scene_of net p)) (performed (scene_of net p))

-- what is left of `checks` for a step that is no loop, after 10 to 15; with whether its table variable is held, and the number of tables. Only the code speaks of it
abbrev pub part_checks : Parts → Bool → ℕ → List Check
part_checks p is_held tables =
    check 16 (check16 p)
    ∷ check 17 (check17 p is_held)
    ∷ check 18 (check18 p)
    ∷ check 20 (room_by p.node.kind p tables)
    ∷ []
