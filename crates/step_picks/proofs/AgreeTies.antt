-- What the loop entries below the top of a picked thread's stack hold is not changed by a done step: by check 17 where it binds a table variable, and by agreement where bindings come back. Assumes nothing.
use Prim.Native.Nat.{ℕ, ◌-◌, ◌<◌}
use mathlib.Core.Path.{◌≡◌, refl, ap, sym, subst, ◌∙◌}
use mathlib.Core.Bool.{Bool, true, false, not, cond}
use mathlib.Core.List.{List, ◌∷◌, map}
use Rattle.std.specs.Prelude.{Option, None}
use native.Mathlib.Omega.{arith}
use lib.Dec.{T, T_not, eqb, eqb_refl}
use lib.ListN.{length, get_or, set, get_or-map}
use lib.Seq.{get_or-set_other}
use Rattle.std.specs.List.{list_all, list_any}
use Rattle.values.proofs.Bools.{and_l, and_r, T_of}
use Rattle.values.proofs.ListLaws.{not-any}
use Rattle.rows.specs.Relations.{Relation}
use Rattle.nets.specs.declared.Entry.{Entry}
use Rattle.nets.specs.declared.Entry.TheVariants.{Run, Loop}
use Rattle.nets.specs.declared.Frame.{Frame}
use Rattle.nets.specs.declared.Pick.{Pick}
use Rattle.nets.specs.View.{TableVariable}
use Rattle.nets.specs.declared.Thread.{Thread}
use Rattle.nets.specs.declared.Net.{Net}
use Rattle.nets.specs.Nets as M
use Rattle.nets.specs.Nets.{Kind, binds_relation, is_loop, is_sequential, visiting}
use Rattle.nets.specs.Sound as S
use Rattle.nets.specs.Sound.{sound, entry_ok, fields_ok_as, links_ok_as, has_places, bindings_ok, same_relation, agree_on, saved_agrees, all_saved_agree, entries_ok, node_ok_as}
use Rattle.nets.specs.Scenes.{below, scene_of}
use Rattle.nets.specs.Steps.{holds}
use Rattle.nets.specs.View.{no_frame, no_variable, marked, entry_with, entry_of, stack_of, variable_of, read_at, nodes_of, view}
use Rattle.nets.proofs.SavedLaws.{relation_eq}
use Rattle.nets.proofs.SoundLaws.{clauses}
use Rattle.nets.proofs.StackView.{stack_cons}
use Rattle.nets.proofs.StepLaws.{Pass, given}
use Rattle.nets.proofs.SureLaws.{Sure, sure, entry-node, node_at}
use Rattle.step_meets.proofs.SituationLaws.{read_below}
use Rattle.step_picks.proofs.SavedTies.{SeesSame}
use Rattle.step_picks.proofs.SceneTies.{thread_in, saved_in, thread_seen, scene_thread, thread-stacked, stack-all}

module _ (net : Net) (p : Pick) (ok : T (sound (view net))) (there : p.thread < net.threadcount) (passed : Pass (scene_of (view net) p)) where
  abbrev thread : Thread
  thread = thread_in net p.thread

  abbrev nodes : List M.Node
  nodes = nodes_of net.nodecount net.nodes

  abbrev bs : ℕ → M.Bindings
  bs = saved_in net p.thread

  abbrev relations : List (Option Relation)
  relations = map variable_of thread.relations

  -- the entries below the top
  abbrev under : List M.Entry
  under = stack_of bs (thread.depth - 1) thread.stack

  abbrev frame : ℕ → Frame
  frame j = get_or thread.stack j no_frame

  facts : Sure (scene_of (view net) p).node.kind (scene_of (view net) p)
  facts = sure (view net) p passed

  under-is : below (thread_seen net p.thread).stack ≡ under
  under-is = ap below (stack_cons bs thread.depth thread.stack (thread-stacked net p ok there).some)

  entries : T (entries_ok nodes relations under)
  unfolding view scene_of
  entries =
      subst (λ (l : List M.Entry). T (entries_ok nodes relations l)) under-is
      (subst (λ (t : M.Thread). T (entries_ok nodes t.bindings.relations (below t.stack))) (scene_thread net p ok there) facts.entries)

  -- ── one entry ──

  module _ (j : ℕ) (low : j < thread.depth - 1) (i : ℕ) (loop : (frame j).entry ≡ Loop i) where
    entry-is : entry_of (bs j) (frame j) ≡ visiting i (marked 0 (frame j).visit) (bs j)
    entry-is = ap (entry_with (bs j) (frame j).visit) loop

    number_is : (get_or nodes i S.no_node).read ≡ read_at nodes (frame j)
    number_is = sym (ap (λ (x : Entry). (get_or nodes (node_of x) S.no_node).read) loop)
      where
        node_of : Entry → ℕ
        node_of (Run k) = k
        node_of (Loop k) = k

    entry-ok : T (entry_ok nodes relations (visiting i (marked 0 (frame j).visit) (bs j)))
    entry-ok =
        subst (λ (x : M.Entry). T (entry_ok nodes relations x)) entry-is
        (stack-all bs (entry_ok nodes relations) (thread.depth - 1) thread.stack (and_l (list_all (entry_ok nodes relations) under) (all_saved_agree nodes relations under) entries) j low)

    -- it reads one of the two table variables
    pub read_low : read_at nodes (frame j) < 2
    unfolding view
    read_low =
        let h : i < length nodes = entry-node nodes relations (visiting i (marked 0 (frame j).visit) (bs j)) entry-ok in
        let d = node_at (length nodes) 0 nodes i h (clauses (view net) ok).nodes in
        subst (λ (n : ℕ). n < 2) number_is
        (read_below (get_or nodes i S.no_node).kind (get_or nodes i S.no_node)
        (and_l (fields_ok_as (get_or nodes i S.no_node).kind (get_or nodes i S.no_node)) (links_ok_as (get_or nodes i S.no_node).kind (length nodes) d.0 (get_or nodes i S.no_node)) d.1))

    -- and not the one that the step binds
    not-bound : T (binds_relation (scene_of (view net) p).node.kind) → read_at nodes (frame j) ≡ (scene_of (view net) p).node.bound → ⊥
    unfolding view scene_of
    not-bound binds e =
        let b : ℕ = (scene_of (view net) p).node.bound in
        let free : T (not (list_any (holds nodes b) under)) =
        subst (λ (l : List M.Entry). T (not (list_any (holds nodes b) l))) under-is
        (subst (λ (t : M.Thread). T (not (list_any (holds nodes b) (below t.stack)))) (scene_thread net p ok there)
        (given (binds_relation (scene_of (view net) p).node.kind) (not (list_any (holds nodes b) (below (scene_of (view net) p).thread.stack))) binds facts.free)) in
        let here : T (not (holds nodes b (visiting i (marked 0 (frame j).visit) (bs j)))) =
        subst (λ (x : M.Entry). T (not (holds nodes b x))) entry-is (stack-all bs (λ x. not (holds nodes b x)) (thread.depth - 1) thread.stack (not-any (holds nodes b) under free) j low) in
        T_not (eqb b (get_or nodes i S.no_node).read) here (subst (λ (n : ℕ). T (eqb b n)) (sym e ∙ sym number_is) (eqb_refl b))

  -- ── a table variable bound anew ──

  pub sees_bound :
      (vs : List TableVariable) (k : Kind) (b : ℕ) (o : Option Relation) → (scene_of (view net) p).node.kind ≡ k → (scene_of (view net) p).node.bound ≡ b →
      map variable_of vs ≡ cond (binds_relation k) (set relations b o) relations → (j : ℕ) → j < thread.depth - 1 → SeesSame nodes (frame j) vs thread.relations
  sees_bound vs k b o kind-is bound-is e j low i loop = (
    read_low j low i loop,
    sym (get_or-map variable_of vs (read_at nodes (frame j)) no_variable)
        ∙ ap (λ (l : List (Option Relation)). get_or l (read_at nodes (frame j)) None) e
        ∙ go (binds_relation k) refl
        ∙ get_or-map variable_of thread.relations (read_at nodes (frame j)) no_variable,
  )
    where
      go : (z : Bool) → binds_relation k ≡ z → get_or (cond z (set relations b o) relations) (read_at nodes (frame j)) None ≡ get_or relations (read_at nodes (frame j)) None
      go true x =
          get_or-set_other relations b (read_at nodes (frame j)) o None
          (λ d. not-bound j low i loop (T_of _ (ap binds_relation kind-is ∙ x)) (d ∙ sym bound-is))
      go false x = refl

  -- ── bindings that come back ──

  module _ (deep : 1 < thread.depth) {n : ℕ} (outer : (frame (thread.depth - 2)).entry ≡ Loop n) (sequential : is_sequential (get_or nodes n S.no_node).kind ≡ true) where
    here : thread.depth - 2 < thread.depth - 1
    here = omega (arith, deep)

    -- the entry of the loop whose round ends, and those below it
    top-is : under ≡ visiting n (marked 0 (frame (thread.depth - 2)).visit) (bs (thread.depth - 2)) ∷ stack_of bs (thread.depth - 2) thread.stack
    top-is =
        let e : thread.depth - 1 - 1 ≡ thread.depth - 2 = omega arith in
        stack_cons bs (thread.depth - 1) thread.stack (omega (arith, deep))
        ∙ ap (λ (k : ℕ). entry_of (bs k) (frame k) ∷ stack_of bs k thread.stack) e
        ∙ ap (λ (x : M.Entry). x ∷ stack_of bs (thread.depth - 2) thread.stack) (entry-is (thread.depth - 2) here n outer)

    all-agree : T (list_all (agree_on nodes relations (bs (thread.depth - 2)).relations) under)
    all-agree =
        let x : M.Entry = visiting n (marked 0 (frame (thread.depth - 2)).visit) (bs (thread.depth - 2)) in
        let l : List M.Entry = stack_of bs (thread.depth - 2) thread.stack in
        let h : T (all_saved_agree nodes relations (x ∷ l)) = subst (λ (k : List M.Entry). T (all_saved_agree nodes relations k)) top-is (and_r (list_all (entry_ok nodes relations) under) (all_saved_agree nodes relations under) entries) in
        let a : T (saved_agrees nodes relations (x ∷ l) x) = and_l (saved_agrees nodes relations (x ∷ l) x) (all_saved_agree nodes relations l) h in
        subst (λ (k : List M.Entry). T (list_all (agree_on nodes relations (bs (thread.depth - 2)).relations) k)) (sym top-is)
        (given (is_sequential (get_or nodes n S.no_node).kind) (list_all (agree_on nodes relations (bs (thread.depth - 2)).relations) (x ∷ l)) (T_of _ sequential) a)

    pub agrees-below :
        (j : ℕ) → j < thread.depth - 1 → (i : ℕ) → (frame j).entry ≡ Loop i → get_or relations (read_at nodes (frame j)) None ≡ get_or (bs (thread.depth - 2)).relations (read_at nodes (frame j)) None
    agrees-below j low i loop =
        subst (λ (m : ℕ). get_or relations m None ≡ get_or (bs (thread.depth - 2)).relations m None) (number_is j low i loop)
        (relation_eq (get_or relations (get_or nodes i S.no_node).read None) (get_or (bs (thread.depth - 2)).relations (get_or nodes i S.no_node).read None)
        (subst (λ (x : M.Entry). T (agree_on nodes relations (bs (thread.depth - 2)).relations x)) (entry-is j low i loop)
        (stack-all bs (agree_on nodes relations (bs (thread.depth - 2)).relations) (thread.depth - 1) thread.stack all-agree j low)))
