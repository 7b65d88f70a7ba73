-- What a sound net gives the parts of a moment. Assumes nothing.
use Prim.Native.Nat.{ℕ, zero, suc, ◌+◌, ◌*◌, ◌<◌, ◌≤◌}
use mathlib.Core.Path.{◌≡◌, refl, sym, ap, subst, ◌∙◌}
use mathlib.Core.Bool.{Bool, true, false, not, cond, ◌||◌}
use mathlib.Core.List.{List, [], ◌∷◌, map}
use Rattle.std.specs.Prelude.{Option, None, Some}
use native.Mathlib.Omega.{arith}
use lib.Dec.{T, eqb, ltb, leb, leb→le}
use lib.ListN.{length, get_or, take, length-take, get_or-map}
use borrow.Author.Tests.{ltb-true, ltb-false}
use Rattle.std.specs.List.{list_all}
use Rattle.values.proofs.Bools.{and_l, and_r}
use Rattle.values.proofs.ByPlace.{length_by, all_by}
use Rattle.values.proofs.Firsts.{length-firsts, firsts_taken}
use Rattle.rows.specs.Relations.{Relation}
use Rattle.nets.specs.declared.Entry.{Entry}
use Rattle.nets.specs.declared.Entry.TheVariants.{Run, Loop}
use Rattle.nets.specs.declared.Frame.{Frame}
use Rattle.nets.specs.View.{TableVariable}
use Rattle.nets.specs.declared.Saved.{Saved}
use Rattle.nets.specs.declared.Thread.{Thread}
use Rattle.nets.specs.declared.Net.{Net}
use Rattle.nets.specs.Nets as M
use Rattle.nets.specs.Sound as S
use Rattle.nets.specs.Sound.{relation_ok, bindings_ok, entry_ok, thread_ok, sound}
use Rattle.nets.specs.View.{no_node, no_thread, no_frame, no_variable, no_saved, node_of, nodes_of, entry_of, stack_of, variable_of, thread_of, saved_of, read_at, saved_at, thread_at, threads_of, view}
use Rattle.nets.proofs.ShapeLaws.{relation-shaped}
use Rattle.nets.proofs.SoundLaws.{clauses}
use Rattle.nets.proofs.StackView.{length-stack}
use Rattle.call_rules.specs.Moments.{thread_records}
use Rattle.call_hold.specs.Holdings.{VariableShaped, holds_by, HoldsAre, held_by, HeldShaped, thread_given, ThreadShaped}
use Rattle.call_hold.proofs.HeldLaws.{given_is}

-- ── table variables ──

shaped-variable : (v : TableVariable) → T (relation_ok (variable_of v)) → VariableShaped v
shaped-variable (Some r) h = record { shaped = relation-shaped r h }
shaped-variable None h = record { shaped = tt }

-- of all table variables, the one at a place; past the last one none is bound
all-at : (rs : List (Option Relation)) (i : ℕ) → T (list_all relation_ok rs) → T (relation_ok (get_or rs i None))
all-at [] i h = tt
all-at (r ∷ rs) zero h = and_l (relation_ok r) (list_all relation_ok rs) h
all-at (r ∷ rs) (suc i) h = all-at rs i (and_r (relation_ok r) (list_all relation_ok rs) h)

bindings-relations : (b : M.Bindings) → T (bindings_ok b) → T (list_all relation_ok b.relations)
bindings-relations b h = search (and_l, and_r) depth 8

-- ── what entries hold ──

-- the table variable that is saved for a sequential loop
saved-shaped : (d : M.Node) (rs : List TableVariable) (s : Saved) → T (not (M.is_sequential d.kind) || bindings_ok (saved_of d.read rs s)) → 1 ≤ holds_by d → VariableShaped s.other
saved-shaped d rs s h k = go (M.is_sequential d.kind) d.read h k
  where
    go : (q : Bool) (r : ℕ) → T (not q || bindings_ok (saved_of r rs s)) → 1 ≤ cond q (cond (eqb r 0) 1 2) 0 → VariableShaped s.other
    go false r h k = absurd (omega arith)
    go true zero h k = shaped-variable s.other (all-at (saved_of 0 rs s).relations 1 (bindings-relations (saved_of 0 rs s) h))
    go true (suc r) h k = shaped-variable s.other (all-at (saved_of (suc r) rs s).relations 0 (bindings-relations (saved_of (suc r) rs s) h))

-- what a sound entry holds
held_of_entry : (ds : List M.Node) (holds : List ℕ) → HoldsAre ds holds → (rs : List TableVariable) (qs : List (Option Relation)) (s : Saved) (f : Frame) →
    T (entry_ok ds qs (entry_of (saved_of (read_at ds f) rs s) f)) → HeldShaped (held_by holds f.entry) s
held_of_entry ds holds k rs qs s f h = record { other = go f.entry h }
  where
    go : (e : Entry) →
        let g : Frame = record { entry = e; visit = f.visit } in
        T (entry_ok ds qs (entry_of (saved_of (read_at ds g) rs s) g)) → 1 ≤ held_by holds e → VariableShaped s.other
    go (Run i) h q = absurd (omega arith)
    go (Loop i) h q = saved-shaped (get_or ds i S.no_node) rs s (search (and_l, and_r)) (omega (arith, k.at i))

-- what holds of all entries holds of the one at each place
all-stack : (p : M.Entry → Bool) (bs : ℕ → M.Bindings) (l : List Frame) (n j : ℕ) → j < n → T (list_all p (stack_of bs n l)) → T (p (entry_of (bs j) (get_or l j no_frame)))
all-stack p bs l zero j h t = absurd (omega arith)
all-stack p bs l (suc n) j h t = go (ltb j n) refl (λ q. all-stack p bs l n j q (and_r (p (entry_of (bs n) (get_or l n no_frame))) (list_all p (stack_of bs n l)) t))
  where
    go : (b : Bool) → ltb j n ≡ b → (j < n → T (p (entry_of (bs j) (get_or l j no_frame)))) → T (p (entry_of (bs j) (get_or l j no_frame)))
    go true e below = below (ltb-true j n e)
    go false e below =
        let q : j ≡ n = omega (arith, ltb-false j n e) in
        subst (λ (m : ℕ). T (p (entry_of (bs m) (get_or l m no_frame)))) (sym q) (and_l (p (entry_of (bs n) (get_or l n no_frame))) (list_all p (stack_of bs n l)) t)

-- ── what is saved for one thread ──

abbrev pub saved_for : List Saved → ℕ → List Saved
saved_for l i =
    get_or l (i * 8) no_saved
    ∷ get_or l (i * 8 + 1) no_saved
    ∷ get_or l (i * 8 + 2) no_saved
    ∷ get_or l (i * 8 + 3) no_saved
    ∷ get_or l (i * 8 + 4) no_saved
    ∷ get_or l (i * 8 + 5) no_saved
    ∷ get_or l (i * 8 + 6) no_saved
    ∷ get_or l (i * 8 + 7) no_saved
    ∷ []

saved_for_lem : (l : List Saved) (i j : ℕ) → j < 8 → get_or (saved_for l i) j no_saved ≡ get_or l (i * 8 + j) no_saved
saved_for_lem l i zero h = let e : i * 8 ≡ i * 8 + 0 = omega arith in ap (λ (n : ℕ). get_or l n no_saved) e
saved_for_lem l i (suc zero) h = refl
saved_for_lem l i (suc (suc zero)) h = refl
saved_for_lem l i (suc (suc (suc zero))) h = refl
saved_for_lem l i (suc (suc (suc (suc zero)))) h = refl
saved_for_lem l i (suc (suc (suc (suc (suc zero))))) h = refl
saved_for_lem l i (suc (suc (suc (suc (suc (suc zero)))))) h = refl
saved_for_lem l i (suc (suc (suc (suc (suc (suc (suc zero))))))) h = refl
saved_for_lem l i (suc (suc (suc (suc (suc (suc (suc (suc j)))))))) h = absurd (omega arith)

-- ── a thread ──

relations-ok : (ds : List M.Node) (t : M.Thread) → T (thread_ok ds t) → T (list_all relation_ok t.bindings.relations)
relations-ok ds t h = search (and_l, and_r) depth 12

few-entries : (ds : List M.Node) (t : M.Thread) → T (thread_ok ds t) → T (leb (length t.stack) 8)
few-entries ds t h = search (and_l, and_r) depth 12

entries-ok : (ds : List M.Node) (t : M.Thread) → T (thread_ok ds t) → T (list_all (entry_ok ds t.bindings.relations) t.stack)
entries-ok ds t h = search (and_l, and_r) depth 12

module _ (ds : List M.Node) (saved : List Saved) (i : ℕ) (t : Thread) (h : T (thread_ok ds (thread_of (saved_at ds saved i t) t))) where
  abbrev bs : ℕ → M.Bindings
  bs j = saved_at ds saved i t j

  few : t.depth ≤ 8
  few = omega (arith, leb→le (length (stack_of bs t.depth t.stack)) 8 (few-entries ds (thread_of bs t) h), length-stack bs t.depth t.stack)

  -- what the entry at a place holds
  holds_at : (j : ℕ) → j < t.depth → bs j ≡ saved_of (read_at ds (get_or t.stack j no_frame)) t.relations (get_or (saved_for saved i) j no_saved)
  holds_at j q = ap (saved_of (read_at ds (get_or t.stack j no_frame)) t.relations) (sym (saved_for_lem saved i j (omega (arith, few))))

  thread-shaped : (holds : List ℕ) → HoldsAre ds holds → ThreadShaped holds (saved_for saved i) t
  thread-shaped holds k =
      let at : (j : ℕ) → T (relation_ok (variable_of (get_or t.relations j no_variable))) =
      λ j. subst (λ (r : Option Relation). T (relation_ok r)) (get_or-map variable_of t.relations j no_variable) (all-at (thread_of bs t).bindings.relations j (relations-ok ds (thread_of bs t) h)) in
      let ok : (j : ℕ) → j < t.depth → T (entry_ok ds (thread_of bs t).bindings.relations (entry_of (saved_of (read_at ds (get_or t.stack j no_frame)) t.relations (get_or (saved_for saved i) j no_saved)) (get_or t.stack j no_frame))) =
      λ j q. subst (λ (b : M.Bindings). T (entry_ok ds (thread_of bs t).bindings.relations (entry_of b (get_or t.stack j no_frame)))) (holds_at j q) (all-stack (entry_ok ds (thread_of bs t).bindings.relations) bs t.stack t.depth j q (entries-ok ds (thread_of bs t) h)) in
      record {
        relations = record { first = shaped-variable (get_or t.relations 0 no_variable) (at 0); second = shaped-variable (get_or t.relations 1 no_variable) (at 1) };
        depth = few;
        held = λ j q. held_of_entry ds holds k t.relations (thread_of bs t).bindings.relations (get_or (saved_for saved i) j no_saved) (get_or t.stack j no_frame) (ok j q);
      }

  thread-given : (holds : List ℕ) → HoldsAre ds holds → thread_given holds (saved_for saved i) t ≡ thread_records ds (thread_of bs t)
  thread-given holds k = given_is ds holds k bs (saved_for saved i) t holds_at

-- ── a net ──

abbrev pub nodes_in : Net → List M.Node
nodes_in net = nodes_of net.nodecount net.nodes

-- the nodes in use, as a part of the array
module _ (net : Net) (l : length net.nodes ≡ 128) (few : net.nodecount ≤ 128) where
  pub nodes-few : length (take net.nodecount net.nodes) ≤ 128
  nodes-few = rw (length-take, l) (omega (arith, few))

  pub nodes-said : (holds : List ℕ) → HoldsAre (map node_of (take net.nodecount net.nodes)) holds → HoldsAre (nodes_in net) holds
  nodes-said holds h = rw (firsts_taken node_of no_node net.nodecount net.nodes (omega (arith, few, l))) h

pub nodes_of_lem : (net : Net) → (view net).nodes ≡ nodes_in net
unfolding view
nodes_of_lem net = refl

pub threads_of_lem : (net : Net) → (view net).threads ≡ threads_of (nodes_in net) net.saved net.threadcount net.threads
unfolding view
threads_of_lem net = refl

pub threads-count : (net : Net) → length (view net).threads ≡ net.threadcount
threads-count net = ap length (threads_of_lem net) ∙ length_by (thread_at (nodes_in net) net.saved net.threads) 0 net.threadcount

module _ (net : Net) (ok : T (sound (view net))) where
  pub few-nodes : net.nodecount ≤ 128
  few-nodes =
      omega (arith, leb→le (length (view net).nodes) 128 (clauses (view net) ok).few_nodes, ap length (nodes_of_lem net), length-firsts node_of no_node net.nodecount net.nodes)

  pub few-threads : net.threadcount ≤ 8
  few-threads = omega (arith, leb→le (length (view net).threads) 8 (clauses (view net) ok).few_threads, threads-count net)

  thread-ok : (i : ℕ) → i < net.threadcount → T (thread_ok (nodes_in net) (thread_at (nodes_in net) net.saved net.threads i))
  unfolding view
  thread-ok i h = all_by (thread_at (nodes_in net) net.saved net.threads) (thread_ok (nodes_in net)) net.threadcount i h (clauses (view net) ok).threads

  module _ (holds : List ℕ) (k : HoldsAre (nodes_in net) holds) (i : ℕ) (h : i < net.threadcount) where
    pub shaped-at : ThreadShaped holds (saved_for net.saved i) (get_or net.threads i no_thread)
    shaped-at = thread-shaped (nodes_in net) net.saved i (get_or net.threads i no_thread) (thread-ok i h) holds k

    pub given-at : thread_given holds (saved_for net.saved i) (get_or net.threads i no_thread) ≡ thread_records (nodes_in net) (thread_at (nodes_in net) net.saved net.threads i)
    given-at = thread-given (nodes_in net) net.saved i (get_or net.threads i no_thread) (thread-ok i h) holds k
