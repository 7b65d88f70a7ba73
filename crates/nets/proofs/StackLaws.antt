-- A thread that goes on to its node's next is sound, with the bindings that its step leaves. Assumes nothing.
use Prim.Native.Nat.{ℕ, ◌≤◌}
use mathlib.Core.Path.{sym, subst}
use mathlib.Core.Bool.{Bool, true, false, not, cond, ◌&&◌, ◌||◌}
use mathlib.Core.List.{List, [], ◌∷◌}
use mathlib.Core.Logic.{◌≢◌}
use Rattle.std.specs.Prelude.{Option, None, Some}
use native.Mathlib.Omega.{arith}
use lib.Dec.{T, T_not, eqb, ltb, le→leb, eqb_refl}
use lib.ListN.{get_or, set, length}
use lib.Seq.{get_or-set_other}
use Rattle.std.specs.List.{list_all, list_any}
use Rattle.values.specs.Values.{site_ok}
use Rattle.values.proofs.Bools.{and_l, and_r, and_in}
use Rattle.values.proofs.ListLaws.{all_weaken, not-any}
use Rattle.rows.specs.Relations.{Relation}
use Rattle.nets.specs.Nets.{Kind, acting, other, insert, insert_table, delete, update, create, drop, select, select_relation, aggregate, sequential, parallel, bad_kind, Node, Entry, to_run, visiting, Bindings, Thread}
use Rattle.nets.specs.Sound.{no_node, relation_ok, bindings_ok, fields_ok_as, links_ok_as, agree_on, entries_ok, thread_ok}
use Rattle.nets.specs.Scenes.{Scene, below, parts}
use Rattle.nets.specs.Steps.{holds, bound_by, vars_by, bindings_by, with_bindings, keep_thread, restored, go_on}
use Rattle.nets.proofs.SavedLaws.{relation_refl, entries_swap, push_run, Back, restored-ok, restored-site}
use Rattle.nets.proofs.SureLaws.{Sure}
use Rattle.nets.proofs.BindingLaws.{bind_relation, bind-relation, deleted_ok, stored_ok, result_ok}

-- ── a table variable bound anew ──

-- an entry that does not hold it sees the same as before
module _ (ds : List Node) (rs : List (Option Relation)) (b : ℕ) (r : Relation) where
  entry_set : (x : Entry) → T (not (holds ds b x)) → T (agree_on ds rs (set rs b (Some r)) x)
  entry_set (to_run i) k = tt
  entry_set (visiting i v q) k = rw (get_or-set_other rs b (get_or ds i no_node).read (Some r) None other) (relation_refl (get_or rs (get_or ds i no_node).read None))
    where
      other : (get_or ds i no_node).read ≢ b
      other e = T_not (eqb b (get_or ds i no_node).read) k (subst (λ (x : ℕ). T (eqb b x)) (sym e) (eqb_refl b))

  entries-set : (l : List Entry) → T (entries_ok ds rs l) → T (not (list_any (holds ds b) l)) → T (entries_ok ds (set rs b (Some r)) l)
  entries-set l h k =
      entries_swap ds rs (set rs b (Some r)) l (all_weaken (λ x. not (holds ds b x)) (agree_on ds rs (set rs b (Some r))) l entry_set (not-any (holds ds b) l k)) h

-- ── the bindings that a step leaves ──

-- sound, and the entries below the top are sound with them
record Rebound (c : Scene) (b : Bindings) : Type 0 where
  bindings : T (bindings_ok b)
  entries : T (entries_ok c.net.nodes b.relations (below c.thread.stack))

module _ {k : Kind} {c : Scene} (s : Sure k c) where
  same : Rebound c c.thread.bindings
  same = record { bindings = s.bindings; entries = s.entries }

  -- a table variable that no entry below holds
  bound : T (not (list_any (holds c.net.nodes c.node.bound) (below c.thread.stack))) → (r : Relation) → T (relation_ok (Some r)) → Rebound c (bind_relation c r)
  bound free r h =
      record {
        bindings = bind-relation c r s.bindings h;
        entries = entries-set c.net.nodes c.thread.bindings.relations c.node.bound r (below c.thread.stack) s.entries free;
      }

rebound : (k : Kind) (c : Scene) → Sure k c → Rebound c (bindings_by k c)
unfolding vars_by bindings_by fields_ok_as
rebound (acting insert) c s = same s
rebound (acting insert_table) c s = same s
rebound (acting delete) c s = bound s s.free (bound_by (acting delete) (parts c)) (deleted_ok s s.source_columns)
rebound (other select) c s = bound s s.free (bound_by (other select) (parts c)) (stored_ok s select (search (and_l, and_r, s.node) depth 14) s.long s.source_columns)
rebound (other select_relation) c s = bound s s.free (bound_by (other select_relation) (parts c)) (stored_ok s select_relation (search (and_l, and_r, s.node) depth 14) s.long s.source_columns)
rebound (acting update) c s = same s
rebound (other aggregate) c s = record { bindings = result_ok s; entries = s.entries }
rebound (acting create) c s = same s
rebound (acting drop) c s = same s
rebound (other sequential) c s = same s
rebound (other parallel) c s = same s
rebound (other bad_kind) c s = same s

-- ── going on ──

-- next is 255 or a node
next-ok : {k : Kind} {c : Scene} → Sure k c → T (eqb c.node.next 255 || ltb c.node.next (length c.net.nodes))
unfolding links_ok_as
next-ok {k} {c} s = go (eqb c.node.next 255) (search (and_l, and_r, s.node))
  where
    go : (b : Bool) → T (b || (ltb s.number c.node.next && ltb c.node.next (length c.net.nodes))) → T (b || ltb c.node.next (length c.net.nodes))
    go true h = tt
    go false h = search and_r

keep-ok : (ds : List Node) (t : Thread) (l : List Entry) → T (site_ok t.site) → T (bindings_ok t.bindings) → length l ≤ 8 → T (entries_ok ds t.bindings.relations l) → T (list_all (thread_ok ds) (keep_thread t l))
keep-ok ds t [] p h q k = tt
keep-ok ds t (x ∷ l) p h q k =
    let few = le→leb (length (x ∷ l)) 8 q in
    let some = le→leb 1 (length (x ∷ l)) (omega arith) in
    search and_in

-- the thread after a step that opens no round
pub goes_on_lem : {k : Kind} {c : Scene} → Sure k c → T (list_all (thread_ok c.net.nodes) (go_on c.net.nodes c.node.next (with_bindings c.thread (bindings_by k c)) (below c.thread.stack)))
goes_on_lem {k} {c} s = go (eqb c.node.next 255) (next-ok s)
  where
    ds : List Node
    ds = c.net.nodes

    l : List Entry
    l = below c.thread.stack

    t : Thread
    t = with_bindings c.thread (bindings_by k c)

    b : Rebound c (bindings_by k c)
    b = rebound k c s

    back : Back ds (restored ds t l) l
    back = restored-ok ds t l (record { bindings = b.bindings; entries = b.entries })

    go : (b : Bool) → T (b || ltb c.node.next (length ds)) → T (list_all (thread_ok ds) (cond b (keep_thread (restored ds t l) l) (keep_thread t (to_run c.node.next ∷ l))))
    go true h = keep-ok ds (restored ds t l) l (rw (restored-site ds t l) s.site_fine) back.bindings (omega (arith, s.depth)) back.entries
    go false h = keep-ok ds t (to_run c.node.next ∷ l) s.site_fine b.bindings s.depth (push_run ds t.bindings.relations c.node.next l h b.entries)
