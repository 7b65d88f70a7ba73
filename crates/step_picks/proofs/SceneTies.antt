-- The scene of a pick in a sound net: its thread, entry and node are there and sound, in the model and in the code's structs. Assumes nothing.
use Prim.Native.Nat.{ℕ, zero, suc, ◌-◌, ◌<◌, ◌≤◌}
use mathlib.Core.Path.{◌≡◌, refl, ap, ap₂, sym, subst, ◌∙◌}
use mathlib.Core.Bool.{Bool, true, false, cond}
use mathlib.Core.List.{List}
use Rattle.std.specs.Prelude.{Option, None, Some, is_some}
use native.Mathlib.Omega.{arith}
use lib.Dec.{T, eqb, ltb, leb→le, lt→ltb}
use lib.ListN.{length, get_or, get_or-eq_default}
use borrow.Author.Tests.{eqb-true, eqb-false, ltb-true, ltb-false}
use Rattle.values.specs.declared.Site.{Site}
use Rattle.std.specs.List.{list_all}
use Rattle.values.proofs.Bools.{and_l, and_r, is_true}
use Rattle.values.proofs.ListLaws.{all-at, find-all}
use Rattle.values.proofs.ByPlace.{length_by, by_at}
use Rattle.values.proofs.Firsts.{length-firsts, firsts_at}
use Rattle.rows.specs.Relations.{Relation}
use Rattle.step_meets.specs.Situations.{Situation}
use Rattle.nets.specs.declared.Pick.{Pick}
use Rattle.nets.specs.declared.Alias.{Alias}
use Rattle.nets.specs.declared.Frame.{Frame}
use Rattle.nets.specs.declared.Thread.{Thread}
use Rattle.nets.specs.declared.Table.{Table}
use Rattle.nets.specs.declared.Net.{Net}
use Rattle.nets.specs.Nets as M
use Rattle.nets.specs.Sound as S
use Rattle.nets.specs.Sound.{sound, alias_ok, table_ok, thread_ok, entry_ok, entry_node, node_ok_as, bindings_ok}
use Rattle.nets.specs.Tables.{is_at, table_at, content_of}
use Rattle.nets.specs.Scenes.{Scene, scene_of, site, table, still_to_visit}
use Rattle.nets.specs.Steps.{first_refusal, checks, step}
use Rattle.nets.specs.View.{no_alias, no_table, no_frame, no_node, no_thread, node_of, table_of, entry_of, stack_of, thread_of, saved_at, tables_of, nodes_of, thread_at, view}
use Rattle.step_thread.specs.ThreadContracts.{Stacked}
use Rattle.step_meets.specs.MeetContracts.{outcome_at, Meets, relation_read, Fine}
use Rattle.nets.proofs.SoundLaws.{clauses}
use Rattle.nets.proofs.SureLaws.{StackFacts, stack-facts, entry-node, node_at}
use Rattle.nets.proofs.RoundLaws.{visits-ok}
use Rattle.nets.proofs.StackView.{length-stack}
use Rattle.step_thread.proofs.ThreadLaws.{visit-any}
use Rattle.step_meets.proofs.SituationLaws.{Within, shaped}
use Rattle.nets.proofs.TablePlaces.{place_at, table-there, table-at}

-- ── in the model ──

thread-stack : (ds : List M.Node) (t : M.Thread) → T (thread_ok ds t) → StackFacts ds t.bindings.relations t.stack
thread-stack ds t h = stack-facts ds t.bindings.relations t.stack (search (and_l, and_r))

pub thread-entries : (ds : List M.Node) (t : M.Thread) → T (thread_ok ds t) → T (list_all (entry_ok ds t.bindings.relations) t.stack)
thread-entries ds t h = search (and_l, and_r)

pub thread-bindings : (ds : List M.Node) (t : M.Thread) → T (thread_ok ds t) → T (bindings_ok t.bindings)
thread-bindings ds t h = search (and_l, and_r)

content-within : (o : Option M.Table) → ((t : M.Table) → o ≡ Some t → T (table_ok t)) → Within (content_of o)
content-within None h = record { columns = omega arith; rows = omega arith }
content-within (Some t) h =
    let k = h t refl in
    record {
      columns = leb→le (length t.content.columns) 4 (search (and_l, and_r));
      rows = leb→le (length t.content.rows) 16 (search (and_l, and_r));
    }

-- ── counts of the code's structs ──

stack-within : (bs : ℕ → M.Bindings) (t : Thread) (ds : List M.Node) → T (thread_ok ds (thread_of bs t)) → Stacked t
stack-within bs t ds h =
    let k = thread-stack ds (thread_of bs t) h in
    let n = length-stack bs t.depth t.stack in
    record { some = omega (arith, k.s_length); few = omega (arith, k.s_length, k.s_depth) }

-- ── the scene ──

module _ (m : M.Net) (p : Pick) (ok : T (sound m)) (there : p.thread < length m.threads) where
  -- checks 10 and 11 pass
  pub step-later : step m p ≡ outcome_at (scene_of m p)
  unfolding step first_refusal checks scene_of
  step-later = rw (is_true (sound m) ok, is_true (ltb p.thread (length m.threads)) (lt→ltb p.thread (length m.threads) there))

  pub thread-fine : T (thread_ok m.nodes (scene_of m p).thread)
  unfolding scene_of
  thread-fine = all-at (thread_ok m.nodes) m.threads p.thread S.no_thread (clauses m ok).threads there

  stack-fine : StackFacts m.nodes (scene_of m p).thread.bindings.relations (scene_of m p).thread.stack
  stack-fine = thread-stack m.nodes (scene_of m p).thread thread-fine

  pub entry-fine : T (entry_ok m.nodes (scene_of m p).thread.bindings.relations (scene_of m p).entry)
  unfolding scene_of
  entry-fine = stack-fine.s_top

  pub node-below : entry_node (scene_of m p).entry < length m.nodes
  node-below = entry-node m.nodes (scene_of m p).thread.bindings.relations (scene_of m p).entry entry-fine

  pub node-fine : (i : ℕ) × T (node_ok_as (scene_of m p).node.kind (length m.nodes) i (scene_of m p).node)
  unfolding scene_of
  node-fine = node_at (length m.nodes) 0 m.nodes (entry_node (scene_of m p).entry) node-below (clauses m ok).nodes

  table-fine : Within (content_of (table (scene_of m p)))
  unfolding table scene_of
  table-fine =
      content-within (table (scene_of m p))
      (λ t e. find-all (is_at (site (scene_of m p)) (scene_of m p).node.name) table_ok m.tables t e (clauses m ok).tables)

  -- ── the parts that the code holds of it ──

  pub meets-fine : (s : Situation) → Meets s (scene_of m p) → Fine s
  unfolding scene_of
  meets-fine s q =
      record {
        number = node-fine.0;
        count = length m.nodes;
        node = subst (λ (d : M.Node). T (node_ok_as d.kind (length m.nodes) node-fine.0 d)) q.node node-fine.1;
        bindings = subst (λ (t : M.Thread). T (bindings_ok t.bindings)) q.thread (thread-bindings m.nodes c.thread thread-fine);
        stacked = stack-within s.saved s.thread m.nodes (subst (λ (t : M.Thread). T (thread_ok m.nodes t)) q.thread thread-fine);
        content = shaped s.content (subst Within (sym q.content) table-fine);
        visits = λ l r e.
            subst (λ (v : List ℕ). T (list_all (λ i. ltb i (length r.rows)) v)) (ap (λ (x : M.Entry). still_to_visit x (length r.rows)) q.entry ∙ visit-any (s.saved (s.thread.depth - 1)) s.frame (length r.rows))
            (visits-ok m.nodes c.thread.bindings.relations c.entry c.node r refl (read r e) entry-fine);
      }
    where
      c : Scene
      c = scene_of m p

      read : (r : Relation) → relation_read s ≡ Some r → get_or c.thread.bindings.relations c.node.read None ≡ Some r
      read r e = ap₂ (λ (t : M.Thread) (d : M.Node). get_or t.bindings.relations d.read None) q.thread q.node ∙ e

-- ── in the code's structs ──

-- what a test of every entry says of each frame in use
pub stack-all : (bs : ℕ → M.Bindings) (q : M.Entry → Bool) (n : ℕ) (l : List Frame) → T (list_all q (stack_of bs n l)) → (j : ℕ) → j < n → T (q (entry_of (bs j) (get_or l j no_frame)))
stack-all bs q zero l h j k = absurd (omega arith)
stack-all bs q (suc n) l h j k = go (eqb j n) refl (stack-all bs q n l (and_r (q (entry_of (bs n) (get_or l n no_frame))) (list_all q (stack_of bs n l)) h) j)
  where
    go : (b : Bool) → eqb j n ≡ b → (j < n → T (q (entry_of (bs j) (get_or l j no_frame)))) → T (q (entry_of (bs j) (get_or l j no_frame)))
    go true e ih = subst (λ (i : ℕ). T (q (entry_of (bs i) (get_or l i no_frame)))) (sym (eqb-true j n e)) (and_l (q (entry_of (bs n) (get_or l n no_frame))) (list_all q (stack_of bs n l)) h)
    go false e ih = let d : j ≡ n → ⊥ = eqb-false j n e in ih (omega arith)

abbrev pub thread_in : Net → ℕ → Thread
thread_in net i = get_or net.threads i no_thread

-- what the entries of its stack hold
abbrev pub saved_in : Net → ℕ → ℕ → M.Bindings
saved_in net i = saved_at (nodes_of net.nodecount net.nodes) net.saved i (thread_in net i)

-- the thread that it stands for
abbrev pub thread_seen : Net → ℕ → M.Thread
thread_seen net i = thread_of (saved_in net i) (thread_in net i)

-- counts
module _ (net : Net) (ok : T (sound (view net))) where
  pub few-tables : net.tablecount ≤ 8
  unfolding view
  few-tables = subst (λ (n : ℕ). n ≤ 8) (length-firsts table_of no_table net.tablecount net.tables) (leb→le (length (view net).tables) 8 (clauses (view net) ok).few_tables)

  pub few-nodes : net.nodecount ≤ 128
  unfolding view
  few-nodes = subst (λ (n : ℕ). n ≤ 128) (length-firsts node_of no_node net.nodecount net.nodes) (leb→le (length (view net).nodes) 128 (clauses (view net) ok).few_nodes)

  pub few-threads : net.threadcount ≤ 8
  unfolding view
  few-threads = subst (λ (n : ℕ). n ≤ 8) (length_by (thread_at (nodes_of net.nodecount net.nodes) net.saved net.threads) 0 net.threadcount) (leb→le (length (view net).threads) 8 (clauses (view net) ok).few_threads)

  -- past the array's end stands an alias of locality 0, which is not sound
  pub few-aliases : length net.aliases ≡ 56 → net.aliascount ≤ 56
  unfolding view
  few-aliases long = go (ltb 56 net.aliascount) refl
    where
      past : 56 < net.aliascount → T (alias_ok no_alias)
      past h =
          subst (λ (a : Alias). T (alias_ok a))
          (firsts_at (λ (a : Alias). a) no_alias net.aliascount net.aliases 56 no_alias h ∙ get_or-eq_default net.aliases no_alias (omega arith))
          (all-at alias_ok (view net).aliases 56 no_alias (clauses (view net) ok).aliases (rw length-firsts h))

      go : (b : Bool) → ltb 56 net.aliascount ≡ b → net.aliascount ≤ 56
      go true e = absurd (past (ltb-true 56 net.aliascount e))
      go false e = omega (arith, ltb-false 56 net.aliascount e)

module _ (net : Net) (p : Pick) (ok : T (sound (view net))) (there : p.thread < net.threadcount) where
  pub pick-there : p.thread < length (view net).threads
  unfolding view
  pick-there = subst (λ (n : ℕ). p.thread < n) (sym (length_by (thread_at (nodes_of net.nodecount net.nodes) net.saved net.threads) 0 net.threadcount)) there

  pub scene_thread : (scene_of (view net) p).thread ≡ thread_seen net p.thread
  unfolding scene_of view
  scene_thread = by_at (thread_at (nodes_of net.nodecount net.nodes) net.saved net.threads) net.threadcount p.thread S.no_thread there

  pub thread-ok : T (thread_ok (view net).nodes (thread_seen net p.thread))
  thread-ok = subst (λ (t : M.Thread). T (thread_ok (view net).nodes t)) scene_thread (thread-fine (view net) p ok pick-there)

  pub thread-stacked : Stacked (thread_in net p.thread)
  thread-stacked = stack-within (saved_in net p.thread) (thread_in net p.thread) (view net).nodes thread-ok

  -- checks 10 and 11 pass
  pub step_is : step (view net) p ≡ outcome_at (scene_of (view net) p)
  step_is = step-later (view net) p ok pick-there

  pub situation-fine : (s : Situation) → Meets s (scene_of (view net) p) → Fine s
  situation-fine s q = meets-fine (view net) p ok pick-there s q

-- ── tables by their place in the array ──

module _ (s : Site) (n : ℕ) (k : ℕ) (l : List Table) where
  pub table-found : is_some (table_at s n (tables_of k l)) ≡ ltb (place_at s n (tables_of k l)) k
  table-found = table-there s n (tables_of k l) ∙ ap (ltb (place_at s n (tables_of k l))) (length-firsts table_of no_table k l)

  pub table-missing : k ≤ place_at s n (tables_of k l) → table_at s n (tables_of k l) ≡ None
  table-missing h = go (table_at s n (tables_of k l)) table-found
    where
      go : (o : Option M.Table) → is_some o ≡ ltb (place_at s n (tables_of k l)) k → o ≡ None
      go None e = refl
      go (Some t) e = let low = ltb-true (place_at s n (tables_of k l)) k (sym e) in absurd (omega arith)

  -- what stands at the place, if it is one
  pub table-read : cond (ltb (place_at s n (tables_of k l)) k) (Some (get_or (tables_of k l) (place_at s n (tables_of k l)) (table_of no_table))) None ≡ table_at s n (tables_of k l)
  table-read = go (ltb (place_at s n (tables_of k l)) k) refl
    where
      go : (b : Bool) → ltb (place_at s n (tables_of k l)) k ≡ b → cond b (Some (get_or (tables_of k l) (place_at s n (tables_of k l)) (table_of no_table))) None ≡ table_at s n (tables_of k l)
      go true e = sym (table-at s n (tables_of k l) (table_of no_table) (rw length-firsts (ltb-true (place_at s n (tables_of k l)) k e)))
      go false e = sym (table-missing (ltb-false (place_at s n (tables_of k l)) k e))
