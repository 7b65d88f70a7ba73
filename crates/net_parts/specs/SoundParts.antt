-- What the soundness test of the code speaks of besides `sound`: aliases by their places, formals, links, rows, and threads in two parts.
use Rattle.std.specs.Prelude.{ℕ, ◌+◌, ◌*◌, Bool, true, false, not, ◌&&◌, ◌||◌, List, [], ◌∷◌, eqb, leb, ltb, length, get_or, Option, None, Some}
use Rattle.values.specs.declared.Value.{Value}
use Rattle.values.specs.Lists.{agree, among}
use Rattle.std.specs.List.{list_all}
use Rattle.values.specs.Values.{site_ok, kind_of, in_range}
use Rattle.rows.specs.Relations.{Row, Columns, Relation}
use Rattle.nets.specs.declared.Alias.{Alias}
use Rattle.nets.specs.declared.Frame.{Frame}
use Rattle.nets.specs.declared.Saved.{Saved}
use Rattle.nets.specs.Nets.{Kind, is_loop, is_sequential, Node, Entry, to_run, visiting, Thread}
use Rattle.nets.specs.Sound.{no_node, relation_ok, variable_ok, has_places, bindings_ok, same_relation, agree_on}
use Rattle.nets.specs.View.{variable_of, entry_of}

-- ── aliases ──

-- the place of a site and a locality
abbrev pub alias_place : Alias → ℕ
alias_place a = a.site.0 * 8 + a.locality.0

-- ── templates ──

-- the formal of this variable
abbrev pub formal_is : ℕ → Option ℕ → Bool
formal_is i None = false
formal_is i (Some j) = eqb i j

-- a formal that is none of the others; any other operand is new
abbrev pub formal_new : Option ℕ → List ℕ → Bool
formal_new None l = true
formal_new (Some i) l = not (among i l)

-- ── links ──

-- check 9 by a node's kind and two links alone
abbrev pub links_at : Kind → ℕ → ℕ → ℕ → ℕ → Bool
links_at k n i next body = (eqb next 255 || (ltb i next && ltb next n)) && (not (is_loop k) || (ltb i body && ltb body n))

-- ── rows ──

-- a value of its column's kind, in range
abbrev pub cell_ok : ℕ → Value → Bool
cell_ok k v = eqb k (kind_of v) && in_range v

-- a row that fits its columns, all values in range
abbrev pub row_ok : Columns → Row → Bool
row_ok cs r = agree cell_ok cs r

-- ── threads in two parts: all but what their loop entries hold, and that ──

abbrev pub bare_entry_ok : List Node → List (Option Relation) → Entry → Bool
bare_entry_ok ds rs (to_run i) = ltb i (length ds)
bare_entry_ok ds rs (visiting i v b) = ltb i (length ds) && is_loop (get_or ds i no_node).kind && has_places v (get_or rs (get_or ds i no_node).read None)

-- a frame's entry, whatever it holds
abbrev pub frame_ok : List Node → List (Option Relation) → Frame → Bool
frame_ok ds rs f = bare_entry_ok ds rs (entry_of (record { vars = []; relations = [] }) f)

abbrev pub bare_stack_ok : List Node → List (Option Relation) → List Entry → Bool
bare_stack_ok ds rs s = leb 1 (length s) && leb (length s) 8 && list_all (bare_entry_ok ds rs) s

abbrev pub bare_thread_ok : List Node → Thread → Bool
bare_thread_ok ds t = site_ok t.site && bindings_ok t.bindings && bare_stack_ok ds t.bindings.relations t.stack

-- what a sequential loop's entry above the entries `s` holds: in its ranges, and as the thread's own on each table variable that it or one of `s` holds
abbrev pub saved_right : List Node → List (Option Relation) → List Entry → Entry → Bool
saved_right ds rs s (to_run i) = true
saved_right ds rs s (visiting i v b) =
    not (is_sequential (get_or ds i no_node).kind) || (bindings_ok b && list_all (agree_on ds rs b.relations) (visiting i v b ∷ s))

abbrev pub all_saved_right : List Node → List (Option Relation) → List Entry → Bool
all_saved_right ds rs [] = true
all_saved_right ds rs (x ∷ s) = saved_right ds rs s x && all_saved_right ds rs s

-- the same of what the code stores, with the thread's own table variable `o` of the number that the loop does not read; `held` says whether an entry further down reads it
abbrev pub saved_fits : Bool → Option Relation → Saved → Bool
saved_fits held o b =
    eqb (length b.vars) 16
    && list_all variable_ok b.vars
    && relation_ok (variable_of b.other)
    && (not held || same_relation o (variable_of b.other))
