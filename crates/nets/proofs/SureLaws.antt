-- What is known of a scene whose checks passed, over its node's kind. Assumes nothing.
use Prim.Native.Nat.{ℕ, zero, suc, ◌≤◌, ◌<◌}
use mathlib.Core.Path.{◌≡◌, refl}
use mathlib.Core.Bool.{Bool, true, false, not, cond, ◌||◌}
use mathlib.Core.List.{List, [], ◌∷◌}
use Rattle.std.specs.Prelude.{Option, None, Some, is_some}
use native.Mathlib.Omega.{arith}
use lib.Dec.{T, eqb, ltb→lt, leb→le}
use lib.ListN.{get_or, length}
use Rattle.values.specs.Lists.{among, or_else}
use Rattle.std.specs.List.{list_all, list_any}
use Rattle.values.specs.Values.{site_ok, in_range}
use Rattle.values.specs.Operands.{formals}
use Rattle.values.proofs.Bools.{and_l, and_r, and_in}
use Rattle.values.proofs.ListLaws.{all-at, all_get_d, find-all, filter-length}
use Rattle.rows.specs.Relations.{Relation, no_relation}
use Rattle.rows.specs.Matching.{hits}
use Rattle.rows.specs.Fit.{relation_fits}
use Rattle.nets.specs.declared.Pick.{Pick}
use Rattle.nets.specs.Nets.{Table, Kind, needs_table, has_template, reads_relation, binds_relation, Node, Entry, to_run, visiting, Thread, Net}
use Rattle.nets.specs.Tables.{is_at, content_of}
use Rattle.nets.specs.Sound.{no_node, no_thread, entry_node, columns_ok, rows_ok, table_ok, relation_ok, bindings_ok, node_ok_as, nodes_ok, entry_ok, saved_agrees, all_saved_agree, entries_ok, stack_ok, thread_ok}
use Rattle.nets.specs.Scenes.{Scene, scene_of, top, below, vars, template, site, table, relation, source, parts, hit_rows, opens}
use Rattle.nets.specs.Steps.{is_bound, known, reads_ok, check12, check14, check16, holds, check17, room_by, room_for_round, check20}
use Rattle.nets.proofs.SourceLaws.{source_fits}
use Rattle.nets.proofs.StepLaws.{Pass}
use Rattle.nets.proofs.SoundLaws.{Clauses, clauses}

pub record Sure (k : Kind) (c : Scene) : Type 0 where
  -- the thread
  pub site_fine : T (site_ok c.thread.site)
  pub bindings : T (bindings_ok c.thread.bindings)
  pub depth : suc (length (below c.thread.stack)) ≤ 8
  pub stack_length : length c.thread.stack ≡ suc (length (below c.thread.stack))
  pub entries : T (entries_ok c.net.nodes c.thread.bindings.relations (below c.thread.stack))
  pub top_ok : T (entry_ok c.net.nodes c.thread.bindings.relations c.entry)
  pub top_agrees : T (saved_agrees c.net.nodes c.thread.bindings.relations (c.entry ∷ below c.thread.stack) c.entry)
  -- the node
  pub node_is : get_or c.net.nodes (entry_node c.entry) no_node ≡ c.node
  pub number : ℕ
  pub node : T (node_ok_as k (length c.net.nodes) number c.node)
  -- the rows it reads
  pub source_fit : T (relation_fits (source c))
  pub source_range : T (list_all (λ x. list_all in_range x) (source c).rows)
  pub source_columns : T (not (reads_relation k || needs_table k) || columns_ok (source c).columns)
  pub hits_few : length (hit_rows (parts c)) ≤ 16
  -- the checks
  pub known_tuple : T (known (λ i. is_bound (vars c) i || among i (formals (template c))) (c.node.selector.left ∷ c.node.selector.right ∷ c.node.tuple))
  pub held : T (not (reads_relation k) || is_some (relation c))
  pub long : T (not (has_template k) || eqb (length (template c)) (length (source c).columns))
  pub free : T (not (binds_relation k) || not (list_any (holds c.net.nodes c.node.bound) (below c.thread.stack)))
  pub room : T (room_by k (parts c) (length c.net.tables))
  pub round_room : T (not (opens c) || room_for_round c)

-- ── the thread and its stack ──

pub entry-node : (ds : List Node) (rs : List (Option Relation)) (x : Entry) → T (entry_ok ds rs x) → entry_node x < length ds
entry-node ds rs (to_run i) h = ltb→lt i (length ds) h
entry-node ds rs (visiting i v b) h = ltb→lt i (length ds) (search (and_l, and_r))

pub record StackFacts (ds : List Node) (rs : List (Option Relation)) (s : List Entry) : Type 0 where
  pub s_depth : suc (length (below s)) ≤ 8
  pub s_length : length s ≡ suc (length (below s))
  pub s_entries : T (entries_ok ds rs (below s))
  pub s_agrees : T (saved_agrees ds rs (top s ∷ below s) (top s))
  pub s_top : T (entry_ok ds rs (top s))

pub stack-facts : (ds : List Node) (rs : List (Option Relation)) (s : List Entry) → T (stack_ok ds rs s) → StackFacts ds rs s
stack-facts ds rs [] h = absurd h
stack-facts ds rs (x ∷ s) h =
    record {
      s_depth = leb→le (suc (length s)) 8 (search (and_l, and_r));
      s_length = refl;
      s_entries = and_in (list_all (entry_ok ds rs) s) (all_saved_agree ds rs s) (search (and_l, and_r)) (search (and_l, and_r));
      s_agrees = search (and_l, and_r);
      s_top = search (and_l, and_r);
    }

below_free : (p : Entry → Bool) (b : Bool) (s : List Entry) → T (b || not (list_any p s)) → T (b || not (list_any p (below s)))
below_free p true s h = tt
below_free p false [] h = tt
below_free p false (x ∷ s) h = go (p x) h
  where
    go : (b : Bool) → T (not (b || list_any p s)) → T (not (list_any p s))
    go true h = absurd h
    go false h = h

-- ── the node ──

pub node_at : (n j : ℕ) (ds : List Node) (i : ℕ) → i < length ds → T (nodes_ok n j ds) → (m : ℕ) × T (node_ok_as (get_or ds i no_node).kind n m (get_or ds i no_node))
node_at n j [] i l h = absurd (omega arith)
node_at n j (d ∷ ds) zero l h = (j, and_l (node_ok_as d.kind n j d) (nodes_ok n (suc j) ds) h)
node_at n j (d ∷ ds) (suc i) l h = node_at n (suc j) ds i (omega arith) (and_r (node_ok_as d.kind n j d) (nodes_ok n (suc j) ds) h)

-- ── the source ──

-- its rows are sound, and so are its columns where it is there
record SourceFacts (there : Bool) (r : Relation) : Type 0 where
  s_rows : T (rows_ok r.rows)
  s_columns : T (not there || columns_ok r.columns)

of_relation : (o : Option Relation) → T (relation_ok o) → SourceFacts (is_some o) (or_else no_relation o)
of_relation None h = record { s_rows = tt; s_columns = tt }
of_relation (Some r) h = record { s_rows = search (and_l, and_r); s_columns = search (and_l, and_r) }

of_table : (o : Option Table) → ((t : Table) → o ≡ Some t → T (table_ok t)) → SourceFacts (is_some o) (content_of o)
of_table None h = record { s_rows = tt; s_columns = tt }
of_table (Some t) h = let k = h t refl in record { s_rows = search (and_l, and_r); s_columns = search (and_l, and_r) }

or_chain : (a b c : Bool) → T (not a || b) → T (not b || c) → T (not a || c)
or_chain true true c h k = k
or_chain true false c h k = absurd h
or_chain false b c h k = tt

-- by whether it is the table variable read
source-facts : (b n : Bool) (o : Option Relation) (u : Option Table) → T (not b || is_some o) → T (not n || is_some u) → SourceFacts (is_some o) (or_else no_relation o) → SourceFacts (is_some u) (content_of u) →
    SourceFacts (b || n) (cond b (or_else no_relation o) (content_of u))
source-facts true n o u p q f g = record { s_rows = f.s_rows; s_columns = or_chain true (is_some o) (columns_ok (or_else no_relation o).columns) p f.s_columns }
source-facts false n o u p q f g = record { s_rows = g.s_rows; s_columns = or_chain n (is_some u) (columns_ok (content_of u).columns) q g.s_columns }

-- ── the scene ──

pub sure : (net : Net) (p : Pick) → Pass (scene_of net p) → Sure (scene_of net p).node.kind (scene_of net p)
unfolding scene_of check12 reads_ok check14 check16 check17 check20 source relation table
sure net p h =
    record {
      site_fine = search (and_l, thread_fine);
      bindings = search (and_l, and_r, thread_fine);
      depth = s.s_depth;
      stack_length = s.s_length;
      entries = s.s_entries;
      top_ok = s.s_top;
      top_agrees = s.s_agrees;
      node_is = refl;
      number = d.0;
      node = d.1;
      source_fit = source_fits net p h.ten;
      source_range = search (and_r, rows);
      source_columns = src.s_columns;
      hits_few = omega (arith, filter-length (hits (vars c) c.node.selector) (source c).rows, leb→le (length (source c).rows) 16 (search (and_l, rows)));
      known_tuple = search (and_l, and_r, twelve);
      held = held;
      long = search (and_l, sixteen);
      free = below_free (holds net.nodes c.node.bound) (not (binds_relation c.node.kind)) t.stack h.seventeen;
      room = search (and_l, twenty);
      round_room = search (and_r, twenty);
    }
  where
    c : Scene
    c = scene_of net p

    t : Thread
    t = get_or net.threads p.thread no_thread

    q : Clauses net
    q = clauses net h.ten

    twelve : T (check12 c)
    twelve = h.twelve

    sixteen : T (check16 (parts c))
    sixteen = h.sixteen

    twenty : T (check20 c)
    twenty = h.twenty

    held : T (not (reads_relation c.node.kind) || is_some (relation c))
    held = search (and_l, and_r, twelve)

    thread_fine : T (thread_ok net.nodes t)
    thread_fine = all-at (thread_ok net.nodes) net.threads p.thread no_thread q.threads (ltb→lt p.thread (length net.threads) h.eleven)

    s : StackFacts net.nodes t.bindings.relations t.stack
    s = stack-facts net.nodes t.bindings.relations t.stack (search (and_r, thread_fine))

    d : (m : ℕ) × T (node_ok_as c.node.kind (length net.nodes) m c.node)
    d = node_at (length net.nodes) 0 net.nodes (entry_node (top t.stack)) (entry-node net.nodes t.bindings.relations (top t.stack) s.s_top) q.nodes

    relations : T (list_all relation_ok t.bindings.relations)
    relations = search (and_l, and_r, thread_fine) depth 8

    src : SourceFacts (reads_relation c.node.kind || needs_table c.node.kind) (source c)
    src =
        source-facts (reads_relation c.node.kind) (needs_table c.node.kind) (relation c) (table c) held h.fourteen
        (of_relation (relation c) (all_get_d relation_ok t.bindings.relations c.node.read None relations tt))
        (of_table (table c) (λ u e. find-all (is_at (site c) c.node.name) table_ok net.tables u e q.tables))

    rows : T (rows_ok (source c).rows)
    rows = src.s_rows
