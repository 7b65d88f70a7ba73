-- The threads after a step are sound and at most eight, also where it opens a round. Assumes nothing.
use Prim.Native.Nat.{ℕ, zero, suc, ◌+◌, ◌≤◌, ◌<◌}
use mathlib.Core.Path.{◌≡◌, refl, ap, sym, subst, ◌∙◌}
use mathlib.Core.Bool.{Bool, true, false, not, cond, ◌&&◌, ◌||◌}
use mathlib.Core.List.{List, [], ◌∷◌, map}
use Rattle.std.specs.Prelude.{Option, None, Some, is_some}
use native.Mathlib.Omega.{arith}
use lib.Dec.{T, eqb, ltb, ltb→lt, lt→ltb, le→leb}
use lib.ListN.{get_or, length, length-append}
use Rattle.values.specs.Lists.{among, filter, places, or_else}
use Rattle.std.specs.List.{list_all}
use Rattle.values.specs.Values.{in_range}
use Rattle.values.proofs.Bools.{and_l, and_r, and_in, T_of}
use Rattle.values.proofs.ListLaws.{all_filter, all_get_d, all_append, all-map_of}
use Rattle.rows.specs.Relations.{Relation, no_relation}
use Rattle.nets.specs.Nets.{Kind, code, reads_relation, is_loop, is_sequential, is_parallel, Node, Entry, to_run, visiting, Thread}
use Rattle.nets.specs.Tables.{content_of}
use Rattle.nets.specs.Sound.{no_node, entry_node, variable_ok, bindings_ok, links_ok_as, has_places, entry_ok, agree_on, saved_agrees, all_saved_agree, entries_ok, thread_ok}
use Rattle.nets.specs.Scenes.{Scene, below, template, table, relation, source, still_to_visit, visit, row_at, any_ready, opens}
use Rattle.nets.specs.Steps.{room_for_round, bindings_by, with_stack, with_bindings, keep_thread, restored, go_on, settle, plain, round_bindings, first_met, loop_entry, sequential_round, parallel_round, threads_after}
use Rattle.nets.proofs.StepLaws.{given}
use Rattle.nets.proofs.SureLaws.{Sure, entry-node}
use Rattle.nets.proofs.BindingLaws.{bind-vars}
use Rattle.nets.proofs.SavedLaws.{agree_same, push_run}
use Rattle.nets.proofs.StackLaws.{goes_on_lem}

-- ── the places to visit ──

places-below : (j n m : ℕ) → j + n ≤ m → T (list_all (λ i. ltb i m) (places j n))
places-below j zero m h = tt
places-below j (suc n) m h = and_in (ltb j m) (list_all (λ i. ltb i m) (places (suc j) n)) (lt→ltb j m (omega arith)) (places-below (suc j) n m (omega arith))

pub visits-ok : (ds : List Node) (rs : List (Option Relation)) (x : Entry) (d : Node) (r : Relation) → get_or ds (entry_node x) no_node ≡ d → get_or rs d.read None ≡ Some r → T (entry_ok ds rs x) → T (list_all (λ i. ltb i (length r.rows)) (still_to_visit x (length r.rows)))
visits-ok ds rs (to_run i) d r e q h = places-below 0 (length r.rows) (length r.rows) (omega arith)
visits-ok ds rs (visiting i v b) d r e q h =
    subst (λ (o : Option Relation). T (has_places v o)) (ap (λ (n : Node). get_or rs n.read None) e ∙ q) (search (and_l, and_r))

-- ── what a loop reads ──

or_r : (a b : Bool) → T b → T (a || b)
or_r true b h = tt
or_r false b h = h

pub loop-reads : (k : Kind) → T (is_loop k) → T (reads_relation k)
loop-reads k h = or_r (eqb (code k) 17) (among (code k) (20 ∷ 25 ∷ 26 ∷ [])) (or_r (eqb (code k) 20) (is_loop k) h)

pub is-some : {A : Type 0} (o : Option A) → T (is_some o) → (a : A) × (o ≡ Some a)
is-some None h = absurd h
is-some (Some a) h = (a, refl)

-- ── what a loop's entry holds ──

module _ (ds : List Node) (t : Thread) where
  -- it is sound
  held-ok : (x : Entry) → T (bindings_ok t.bindings) → T (entry_ok ds t.bindings.relations x) → T (not (is_sequential (get_or ds (entry_node x) no_node).kind) || bindings_ok (first_met t x))
  held-ok (to_run i) h k = or_r (not (is_sequential (get_or ds i no_node).kind)) (bindings_ok t.bindings) h
  held-ok (visiting i v b) h k = search (and_l, and_r)

  -- and agrees on what the loop's entry and those below it hold
  held-agrees : (x : Entry) (v : List ℕ) (l : List Entry) → T (saved_agrees ds t.bindings.relations (x ∷ l) x) →
      T (saved_agrees ds t.bindings.relations (visiting (entry_node x) v (first_met t x) ∷ l) (visiting (entry_node x) v (first_met t x)))
  held-agrees (to_run i) v l h =
      or_r (not (is_sequential (get_or ds i no_node).kind)) (list_all (agree_on ds t.bindings.relations t.bindings.relations) (visiting i v t.bindings ∷ l))
      (agree_same ds t.bindings.relations (visiting i v t.bindings ∷ l))
  held-agrees (visiting i w b) v l h = h

-- ── a round ──

module _ {c : Scene} (s : Sure c.node.kind c) (loop : T (is_loop c.node.kind)) where
  the_relation : (r : Relation) × (relation c ≡ Some r)
  the_relation = is-some (relation c) (given (reads_relation c.node.kind) (is_some (relation c)) (loop-reads c.node.kind loop) s.held)

  the_source : source c ≡ the_relation.0
  unfolding source
  the_source = go (reads_relation c.node.kind) (loop-reads c.node.kind loop) ∙ ap (or_else no_relation) the_relation.1
    where
      go : (b : Bool) → T b → cond b (or_else no_relation (relation c)) (content_of (table c)) ≡ or_else no_relation (relation c)
      go true h = refl
      go false h = absurd h

  loop-entry-ok : T (entry_ok c.net.nodes c.thread.bindings.relations (loop_entry c))
  unfolding relation visit
  loop-entry-ok =
      let r : Relation = the_relation.0 in
      let here = lt→ltb (entry_node c.entry) (length c.net.nodes) (entry-node c.net.nodes c.thread.bindings.relations c.entry s.top_ok) in
      let visits : T (list_all (λ i. ltb i (length r.rows)) (visit c)) =
      subst (λ (q : Relation). T (list_all (λ i. ltb i (length r.rows)) (still_to_visit c.entry (length q.rows)))) (sym the_source)
      (visits-ok c.net.nodes c.thread.bindings.relations c.entry c.node r s.node_is the_relation.1 s.top_ok) in
      let fewer = all_filter (λ i. ltb i (length r.rows)) (λ i. not (eqb i c.row)) (visit c) visits in
      let holds : T (not (is_sequential c.node.kind) || bindings_ok (first_met c.thread c.entry)) =
      subst (λ (d : Node). T (not (is_sequential d.kind) || bindings_ok (first_met c.thread c.entry))) s.node_is (held-ok c.net.nodes c.thread c.entry s.bindings s.top_ok) in
      rw (s.node_is, the_relation.1) (search (and_in, here, loop, fewer, holds))

  -- the loop's entry on those below it
  loop-entries-ok : T (entries_ok c.net.nodes c.thread.bindings.relations (loop_entry c ∷ below c.thread.stack))
  loop-entries-ok =
      let a = and_l (list_all (entry_ok c.net.nodes c.thread.bindings.relations) (below c.thread.stack)) (all_saved_agree c.net.nodes c.thread.bindings.relations (below c.thread.stack)) s.entries in
      let b = and_r (list_all (entry_ok c.net.nodes c.thread.bindings.relations) (below c.thread.stack)) (all_saved_agree c.net.nodes c.thread.bindings.relations (below c.thread.stack)) s.entries in
      let agrees = held-agrees c.net.nodes c.thread c.entry (filter (λ i. not (eqb i c.row)) (visit c)) (below c.thread.stack) s.top_agrees in
      search (and_in, loop-entry-ok, agrees)

  body_ok : T (ltb c.node.body (length c.net.nodes))
  unfolding links_ok_as
  body_ok =
      and_r (ltb s.number c.node.body) (ltb c.node.body (length c.net.nodes))
      (given (is_loop c.node.kind) (ltb s.number c.node.body && ltb c.node.body (length c.net.nodes)) loop (search (and_l, and_r, s.node)))

  round_ok : T (bindings_ok (round_bindings c))
  unfolding row_at
  round_ok =
      bind-vars s (template c) (map Some (row_at c c.row))
      (all-map_of in_range variable_ok Some (row_at c c.row) (λ v h. h) (all_get_d (λ x. list_all in_range x) (source c).rows c.row [] s.source_range tt))

  -- the loop's own thread, with the body on its stack or not, and the new thread
  sequential_ok : suc (length c.thread.stack) ≤ 8 → T (thread_ok c.net.nodes (with_stack (with_bindings c.thread (round_bindings c)) (to_run c.node.body ∷ loop_entry c ∷ below c.thread.stack)))
  sequential_ok few =
      let deep = le→leb (suc (suc (length (below c.thread.stack)))) 8 (omega (arith, s.stack_length)) in
      let one = le→leb 1 (suc (suc (length (below c.thread.stack)))) (omega arith) in
      let entries = push_run c.net.nodes c.thread.bindings.relations c.node.body (loop_entry c ∷ below c.thread.stack) body_ok loop-entries-ok in
      search (and_in, s.site_fine, round_ok, entries) depth 8

  waiting-ok : T (thread_ok c.net.nodes (with_stack c.thread (loop_entry c ∷ below c.thread.stack)))
  waiting-ok =
      let deep = le→leb (suc (length (below c.thread.stack))) 8 s.depth in
      let one = le→leb 1 (suc (length (below c.thread.stack))) (omega arith) in
      search (and_in, s.site_fine, s.bindings, loop-entries-ok) depth 8

  forked_ok : T (thread_ok c.net.nodes (with_stack (with_bindings c.thread (round_bindings c)) (to_run c.node.body ∷ [])))
  forked_ok = search (and_in, s.site_fine, body_ok, round_ok) depth 8

-- ── the list of threads ──

all-settle : (p : Thread → Bool) (i : ℕ) (us ts : List Thread) → T (list_all p us) → T (list_all p ts) → T (list_all p (settle i us ts))
all-settle p i us [] h k = tt
all-settle p zero us (t ∷ ts) h k = all_append p us ts h (and_r (p t) (list_all p ts) k)
all-settle p (suc i) us (t ∷ ts) h k = and_in (p t) (list_all p (settle i us ts)) (and_l (p t) (list_all p ts) k) (all-settle p i us ts h (and_r (p t) (list_all p ts) k))

length-settle : (i : ℕ) (us ts : List Thread) → length us ≤ 1 → length (settle i us ts) ≤ length ts
length-settle i us [] h = omega arith
length-settle zero us (t ∷ ts) h = rw length-append (omega arith)
length-settle (suc i) us (t ∷ ts) h = omega (arith, length-settle i us ts h)

length-keep : (t : Thread) (l : List Entry) → length (keep_thread t l) ≤ 1
length-keep t [] = omega arith
length-keep t (x ∷ l) = omega arith

length-go : (ds : List Node) (n : ℕ) (t : Thread) (l : List Entry) → length (go_on ds n t l) ≤ 1
length-go ds n t l = go (eqb n 255)
  where
    go : (b : Bool) → length (cond b (keep_thread (restored ds t l) l) (keep_thread t (to_run n ∷ l))) ≤ 1
    go true = length-keep (restored ds t l) l
    go false = length-keep t (to_run n ∷ l)

-- sound and at most eight
pub record Threads (ds : List Node) (ts : List Thread) : Type 0 where
  pub fine : T (list_all (thread_ok ds) ts)
  pub few : length ts ≤ 8

module _ {c : Scene} (s : Sure c.node.kind c) (before : Threads c.net.nodes c.net.threads) where
  settled : (us : List Thread) → T (list_all (thread_ok c.net.nodes) us) → length us ≤ 1 → Threads c.net.nodes (settle c.at us c.net.threads)
  settled us h one =
      record {
        fine = all-settle (thread_ok c.net.nodes) c.at us c.net.threads h before.fine;
        few = omega (arith, length-settle c.at us c.net.threads one, before.few);
      }

  plain_ok : Threads c.net.nodes (plain c)
  plain_ok =
      let t = with_bindings c.thread (bindings_by c.node.kind c) in
      settled (go_on c.net.nodes c.node.next t (below c.thread.stack)) (goes_on_lem s) (length-go c.net.nodes c.node.next t (below c.thread.stack))

  parallel_ok : T (is_loop c.node.kind) → length c.net.threads < 8 → Threads c.net.nodes (parallel_round c)
  parallel_ok loop few =
      let w = with_stack c.thread (loop_entry c ∷ below c.thread.stack) ∷ [] in
      let f = with_stack (with_bindings c.thread (round_bindings c)) (to_run c.node.body ∷ []) ∷ [] in
      let q = settled w (search (and_in, waiting-ok s loop)) (omega arith) in
      record {
        fine = all_append (thread_ok c.net.nodes) (settle c.at w c.net.threads) f q.fine (search (and_in, forked_ok s loop));
        few = rw length-append (omega (arith, length-settle c.at w c.net.threads (omega arith)));
      }

  round_threads : (b : Bool) → T (is_loop c.node.kind) → T (cond b (ltb (length c.net.threads) 8) (ltb (length c.thread.stack) 8)) → Threads c.net.nodes (cond b (parallel_round c) (sequential_round c))
  round_threads true loop r = parallel_ok loop (ltb→lt (length c.net.threads) 8 r)
  round_threads false loop r =
      settled (with_stack (with_bindings c.thread (round_bindings c)) (to_run c.node.body ∷ loop_entry c ∷ below c.thread.stack) ∷ [])
      (search (and_in, sequential_ok s loop (ltb→lt (length c.thread.stack) 8 r))) (omega arith)

  opens-loop : T (opens c) → T (is_loop c.node.kind)
  unfolding opens
  opens-loop h = and_l (is_loop c.node.kind) (any_ready c) h

  pub threads-ok : Threads c.net.nodes (threads_after c)
  unfolding threads_after room_for_round
  threads-ok = go (opens c) refl
    where
      go : (b : Bool) → opens c ≡ b → Threads c.net.nodes (cond b (cond (is_parallel c.node.kind) (parallel_round c) (sequential_round c)) (plain c))
      go true e =
          let is_open = T_of (opens c) e in
          round_threads (is_parallel c.node.kind) (opens-loop is_open) (given (opens c) (room_for_round c) is_open s.round_room)
      go false e = plain_ok
