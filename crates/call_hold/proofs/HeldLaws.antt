-- The records that the code gives out for a thread are those of the thread that it stands for. Assumes nothing.
use Prim.Native.Nat.{ℕ, zero, suc, ◌<◌}
use mathlib.Core.Path.{◌≡◌, refl, sym, ap, ap₂, ◌∙◌}
use mathlib.Core.Bool.{Bool, true, false, cond}
use mathlib.Core.List.{List, [], ◌∷◌, ◌++◌}
use native.Mathlib.Omega.{arith}
use borrow.Author.Tests.{ne_eqb}
use lib.Dec.{eqb}
use lib.ListN.{get_or}
use Rattle.nets.specs.declared.Entry.{Entry}
use Rattle.nets.specs.declared.Entry.TheVariants.{Run, Loop}
use Rattle.nets.specs.declared.Frame.{Frame}
use Rattle.nets.specs.View.{TableVariable}
use Rattle.nets.specs.declared.Saved.{Saved}
use Rattle.nets.specs.declared.Thread.{Thread}
use Rattle.nets.specs.Nets as M
use Rattle.nets.specs.Sound.{no_node}
use Rattle.nets.specs.View.{no_frame, no_saved, entry_of, stack_of, bindings_of, thread_of, saved_of, read_at}
use Rattle.nets.proofs.StackView.{length-stack}
use Rattle.call_rules.specs.Moments.{bindings_records, entry_record, held_records, stack_records, thread_head, thread_records}
use Rattle.call_rules.specs.Openings.{entry_alone}
use Rattle.call_thread.proofs.ThreadLaws.{alone-kind, alone-visit, alone-node}
use Rattle.call_hold.proofs.HoldLaws.{none-given}
use Rattle.call_hold.specs.Holdings.{holds_by, HoldsAre, held_by, held_given, stack_given, thread_given}

-- ── an entry ──

record_alone : (b : M.Bindings) (f : Frame) → entry_record (entry_alone f) ≡ entry_record (entry_of b f)
unfolding entry_record
record_alone b f = rw (alone-kind b f, alone-visit b f, alone-node b f) refl

-- what the entries of a node's loop hold
held_by_node : (d : M.Node) (rs : List TableVariable) (s : Saved) → held_given (holds_by d) rs s ≡ cond (M.is_sequential d.kind) (bindings_records (saved_of d.read rs s)) []
unfolding held_given
held_by_node d rs s = go (M.is_sequential d.kind) d.read
  where
    go : (q : Bool) (r : ℕ) → held_given (cond q (cond (eqb r 0) 1 2) 0) rs s ≡ cond q (bindings_records (saved_of r rs s)) []
    go false r = refl
    go true zero = refl
    go true (suc r) = rw (ne_eqb (suc r) 0 (λ e. omega arith)) refl

module _ (ds : List M.Node) (holds : List ℕ) (k : HoldsAre ds holds) where
  held-is : (f : Frame) (rs : List TableVariable) (s : Saved) → held_given (held_by holds f.entry) rs s ≡ held_records ds (entry_of (saved_of (read_at ds f) rs s) f)
  held-is f rs s = go f.entry
    where
      go : (e : Entry) → let g : Frame = record { entry = e; visit = f.visit } in held_given (held_by holds e) rs s ≡ held_records ds (entry_of (saved_of (read_at ds g) rs s) g)
      go (Run i) = none-given 0 rs s refl
      go (Loop i) = ap (λ (h : ℕ). held_given h rs s) (k.at i) ∙ held_by_node (get_or ds i no_node) rs s

  -- ── a thread ──

  -- `bs` gives what the entry at each place of the stack holds
  module _ (bs : ℕ → M.Bindings) (ss : List Saved) (t : Thread) (same : (j : ℕ) → j < t.depth → bs j ≡ saved_of (read_at ds (get_or t.stack j no_frame)) t.relations (get_or ss j no_saved)) where
    stack_is : (n : ℕ) → ((j : ℕ) → j < n → j < t.depth) → stack_given holds ss t n ≡ stack_records ds (stack_of bs n t.stack)
    stack_is zero h = refl
    stack_is (suc n) h =
        let f = get_or t.stack n no_frame in
        let b = same n (h n (omega arith)) in
        let held = held-is f t.relations (get_or ss n no_saved) ∙ ap (λ (x : M.Bindings). held_records ds (entry_of x f)) (sym b) in
        ap₂ ◌∷◌ (record_alone (bs n) f) (ap₂ ◌++◌ held (stack_is n (λ j q. h j (omega arith))))

    pub given_is : thread_given holds ss t ≡ thread_records ds (thread_of bs t)
    given_is =
        ap₂ ◌∷◌ (ap (thread_head t.site.0) (sym (length-stack bs t.depth t.stack)))
        (ap (λ (l : List (List ℕ)). bindings_records (bindings_of t.vars t.relations) ++ l) (stack_is t.depth (λ j q. q)))
