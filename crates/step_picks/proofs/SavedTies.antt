-- What the entries of a thread's loops hold after its step, as the code stores it. Assumes nothing.
use Prim.Native.Nat.{ℕ, zero, suc, ◌+◌, ◌-◌, ◌*◌, ◌<◌, ◌≤◌}
use mathlib.Core.Path.{◌≡◌, refl, ap, ap₂, sym, subst, ◌∙◌}
use mathlib.Core.Bool.{Bool, true, false, not, cond, ◌&&◌}
use mathlib.Core.List.{List, [], ◌∷◌, map}
use Rattle.std.specs.Prelude.{Option, None}
use native.Mathlib.Omega.{arith}
use lib.Dec.{T, eqb, ltb, lt→ltb}
use lib.ListN.{length, get_or, set, length-set, get_or-map, get_or-eq_default}
use lib.Seq.{get_or-set_same, get_or-set_other}
use borrow.Author.Tests.{ltb-true, ltb-false, eq-eqb, eqb-true, eqb-false}
use Rattle.values.specs.Operands.{Got}
use Rattle.values.proofs.Bools.{is_true}
use Rattle.rows.specs.Relations.{Relation}
use Rattle.nets.specs.declared.Entry.{Entry}
use Rattle.nets.specs.declared.Entry.TheVariants.{Run, Loop}
use Rattle.nets.specs.declared.Frame.{Frame}
use Rattle.nets.specs.View.{TableVariable}
use Rattle.nets.specs.declared.Saved.{Saved}
use Rattle.nets.specs.declared.Thread.{Thread}
use Rattle.nets.specs.Nets as M
use Rattle.nets.specs.Nets.{is_loop, is_sequential, visiting}
use Rattle.nets.specs.Sound as S
use Rattle.nets.specs.Steps.{restored}
use Rattle.nets.specs.View.{no_variable, no_saved, no_frame, marked, kind_at, entry_with, entry_of, stack_of, variable_of, bindings_of, thread_of, saved_of, node_in, read_at, saved_at}
use Rattle.nets.proofs.StackView.{stack_cons, stack_same}
use Rattle.step_thread.specs.ThreadContracts.{is_run, Stacked}
use Rattle.step_meets.specs.declared.Decided.{Decided}
use Rattle.step_meets.specs.Situations.{Situation, over_of, moved, saved_after}
use Rattle.step_meets.specs.MeetContracts.{Framed}
use Rattle.step_meets.proofs.MovedLaws.{saved-below}
use Rattle.step_picks.proofs.ThreadTies.{Kept}

-- ── what an entry sees of table variables ──

-- the same on the one that the entry holds
abbrev pub SeesSame : List M.Node → Frame → List TableVariable → List TableVariable → Type 0
SeesSame ds f ks ls = (i : ℕ) → f.entry ≡ Loop i → (read_at ds f < 2) × (variable_of (get_or ks (read_at ds f) no_variable) ≡ variable_of (get_or ls (read_at ds f) no_variable))

by_read : (n : ℕ) (ks ls : List TableVariable) (b : Saved) → n < 2 → variable_of (get_or ks n no_variable) ≡ variable_of (get_or ls n no_variable) → saved_of n ks b ≡ saved_of n ls b
by_read zero ks ls b l e = λ i. record { vars = b.vars; relations = e i ∷ variable_of b.other ∷ [] }
by_read (suc zero) ks ls b l e = λ i. record { vars = b.vars; relations = variable_of b.other ∷ e i ∷ [] }
by_read (suc (suc n)) ks ls b l e = absurd (omega arith)

-- then it holds the same
sees_same : (ds : List M.Node) (f : Frame) (ks ls : List TableVariable) (b : Saved) → SeesSame ds f ks ls → entry_of (saved_of (read_at ds f) ks b) f ≡ entry_of (saved_of (read_at ds f) ls b) f
sees_same ds f ks ls b h = go f.entry refl
  where
    go : (x : Entry) → f.entry ≡ x → entry_with (saved_of (read_at ds f) ks b) f.visit x ≡ entry_with (saved_of (read_at ds f) ls b) f.visit x
    go (Run i) e = refl
    go (Loop i) e = ap (visiting i (marked 0 f.visit)) (by_read (read_at ds f) ks ls b (h i e).0 (h i e).1)

-- what is saved where a loop that reads `n` is first met are the bindings that stand
pub first-saved : (n : ℕ) (vs : List TableVariable) (b : Saved) → n < 2 → length vs ≡ 2 → b.other ≡ get_or vs (1 - n) no_variable → saved_of n vs b ≡ bindings_of b.vars vs
first-saved n [] b low two e = absurd (omega arith)
first-saved n (x ∷ []) b low two e = absurd (omega arith)
first-saved zero (x ∷ y ∷ []) b low two e = λ i. record { vars = b.vars; relations = variable_of x ∷ variable_of (e i) ∷ [] }
first-saved (suc zero) (x ∷ y ∷ []) b low two e = λ i. record { vars = b.vars; relations = variable_of (e i) ∷ variable_of y ∷ [] }
first-saved (suc (suc n)) (x ∷ y ∷ []) b low two e = absurd (omega arith)
first-saved n (x ∷ y ∷ z ∷ vs) b low two e = absurd (omega arith)

-- bringing them back leaves those bindings
back-bindings :
    (n : ℕ) (vs rs : List TableVariable) (b : Saved) → n < 2 → length vs ≡ 2 → variable_of (get_or vs n no_variable) ≡ variable_of (get_or rs n no_variable) → bindings_of b.vars (set vs (1 - n) b.other) ≡ saved_of n rs b
back-bindings n [] rs b low two e = absurd (omega arith)
back-bindings n (x ∷ []) rs b low two e = absurd (omega arith)
back-bindings zero (x ∷ y ∷ []) rs b low two e = λ i. record { vars = b.vars; relations = e i ∷ variable_of b.other ∷ [] }
back-bindings (suc zero) (x ∷ y ∷ []) rs b low two e = λ i. record { vars = b.vars; relations = variable_of b.other ∷ e i ∷ [] }
back-bindings (suc (suc n)) (x ∷ y ∷ []) rs b low two e = absurd (omega arith)
back-bindings n (x ∷ y ∷ z ∷ vs) rs b low two e = absurd (omega arith)

-- the table variable that is stored
pub other_of : (n : ℕ) (rs : List TableVariable) (b : Saved) → n < 2 → get_or (saved_of n rs b).relations (1 - n) None ≡ variable_of b.other
other_of zero rs b low = refl
other_of (suc zero) rs b low = refl
other_of (suc (suc n)) rs b low = absurd (omega arith)

-- of two numbers below two
two_cases : (n m : ℕ) → n < 2 → m < 2 → (n ≡ m → ⊥) → n ≡ 1 - m
two_cases n m p q d = omega arith

-- ── the top of the stack ──

-- what its entry holds where it is a loop's: the bindings at the first round, and what it held from then on
pub top-holds :
    (ds : List M.Node) (old new : List Saved) (at : ℕ) (s : Situation) → ((j : ℕ) → s.saved j ≡ saved_at ds old at s.thread j) → (r : Decided) → Framed s r →
    (get_or ds (node_in s.frame.entry) S.no_node).read ≡ s.node.read → s.frame ≡ get_or s.thread.stack (s.thread.depth - 1) no_frame → s.node.read < 2 →
    (vs : List TableVariable) → length vs ≡ 2 → (T (is_loop (kind_at s.node.kind)) → map variable_of vs ≡ map variable_of s.thread.relations) →
    Kept old new at (s.thread.depth - 1) r.saves (record { vars = s.thread.vars; other = get_or vs (1 - s.node.read) no_variable }) →
    (i : ℕ) → s.thread.depth ≤ r.depth → r.frame.entry ≡ Loop i → saved_of (read_at ds r.frame) vs (get_or new (at * 8 + (s.thread.depth - 1)) no_saved) ≡ saved_after s r (s.thread.depth - 1)
top-holds ds old new at s seen r framed node-is frame_is low vs two loops kept i h e =
    ap (λ (n : ℕ). saved_of n vs (get_or new (at * 8 + top) no_saved)) read_is ∙ go r.saves refl
  where
    top : ℕ
    top = s.thread.depth - 1

    facts : (i ≡ node_in s.frame.entry) × T (is_loop (kind_at s.node.kind)) × (r.saves ≡ is_run s.frame.entry)
    facts = framed.loop i h e

    -- the node of the frame stored is that of the frame met
    read_is : read_at ds r.frame ≡ s.node.read
    read_is = ap (λ (n : ℕ). (get_or ds n S.no_node).read) (ap node_in e ∙ facts.0) ∙ node-is

    relations : map variable_of vs ≡ map variable_of s.thread.relations
    relations = loops facts.1

    variable : variable_of (get_or vs s.node.read no_variable) ≡ variable_of (get_or s.thread.relations s.node.read no_variable)
    variable =
        sym (get_or-map variable_of vs s.node.read no_variable) ∙ ap (λ (l : List (Option Relation)). get_or l s.node.read None) relations ∙ get_or-map variable_of s.thread.relations s.node.read no_variable

    go : (b : Bool) → r.saves ≡ b → saved_of s.node.read vs (get_or new (at * 8 + top) no_saved) ≡ saved_after s r top
    go true x =
        ap (saved_of s.node.read vs) (kept.first x)
        ∙ first-saved s.node.read vs _ low two refl
        ∙ (λ k. record { vars = s.thread.vars; relations = relations k })
        ∙ sym (rw (x, eq-eqb top top refl))
    go false x =
        ap (saved_of s.node.read vs) (kept.later x)
        ∙ by_read s.node.read vs s.thread.relations (get_or old (at * 8 + top) no_saved) low variable
        ∙ ap (λ (n : ℕ). saved_of n s.thread.relations (get_or old (at * 8 + top) no_saved)) (sym node-is ∙ ap (read_at ds) frame_is)
        ∙ sym (seen top) ∙ sym (rw x)

-- ── the thread that was picked ──

module _
    (ds : List M.Node) (old : List Saved) (at : ℕ) (s : Situation) (seen : (j : ℕ) → s.saved j ≡ saved_at ds old at s.thread j)
    (r : Decided) (framed : Framed s r) (ok : Stacked s.thread) (eight : length s.thread.stack ≡ 8)
    (above : ℕ) (over : above ≡ over_of s.thread.depth) (body : Frame) {b : ℕ} (runs : body.entry ≡ Run b) (vs : List TableVariable)
    (sees : (j : ℕ) → j < s.thread.depth - 1 → SeesSame ds (get_or s.thread.stack j no_frame) vs s.thread.relations)
    (new : List Saved) (same : (j : ℕ) → j < s.thread.depth - 1 → get_or new (at * 8 + j) no_saved ≡ get_or old (at * 8 + j) no_saved)
    (top : (i : ℕ) → s.thread.depth ≤ r.depth → r.frame.entry ≡ Loop i → saved_of (read_at ds r.frame) vs (get_or new (at * 8 + (s.thread.depth - 1)) no_saved) ≡ saved_after s r (s.thread.depth - 1)) where
  abbrev depth : ℕ
  depth = s.thread.depth

  abbrev frames : List Frame
  frames = (moved s.thread r above body vs).stack

  abbrev frame : ℕ → Frame
  frame j = get_or s.thread.stack j no_frame

  -- ── its frames ──

  above-past : depth - 1 ≤ above
  above-past = subst (λ (i : ℕ). depth - 1 ≤ i) (sym over) (go (ltb depth 8))
    where
      go : (x : Bool) → depth - 1 ≤ cond x depth (depth - 1)
      go true = omega arith
      go false = omega arith

  pub frame-low : (j : ℕ) → j < depth - 1 → get_or frames j no_frame ≡ frame j
  frame-low j h =
      get_or-set_other (set s.thread.stack above body) (depth - 1) j r.frame no_frame (λ e. omega arith)
      ∙ get_or-set_other s.thread.stack above j body no_frame (λ e. omega (arith, above-past))

  frame-at-top : get_or frames (depth - 1) no_frame ≡ r.frame
  frame-at-top =
      get_or-set_same (set s.thread.stack above body) (depth - 1) r.frame no_frame (omega (arith, length-set s.thread.stack above body, eight, ok.some, ok.few))

  -- above the top stands the body, or nothing
  frame-over : (x y : M.Bindings) → entry_of x (get_or frames depth no_frame) ≡ entry_of y (get_or frames depth no_frame)
  frame-over x y = go (ltb depth 8) refl
    where
      at_body : depth < 8 → get_or frames depth no_frame ≡ body
      at_body h =
          get_or-set_other (set s.thread.stack above body) (depth - 1) depth r.frame no_frame (λ e. omega (arith, ok.some))
          ∙ ap (λ (i : ℕ). get_or (set s.thread.stack i body) depth no_frame) (over ∙ ap (λ (z : Bool). cond z depth (depth - 1)) (is_true (ltb depth 8) (lt→ltb depth 8 h)))
          ∙ get_or-set_same s.thread.stack depth body no_frame (omega (arith, eight))

      past : 8 ≤ depth → get_or frames depth no_frame ≡ no_frame
      past h = get_or-eq_default frames no_frame (omega (arith, length-set (set s.thread.stack above body) (depth - 1) r.frame, length-set s.thread.stack above body, eight))

      go : (z : Bool) → ltb depth 8 ≡ z → entry_of x (get_or frames depth no_frame) ≡ entry_of y (get_or frames depth no_frame)
      go true e =
          ap (entry_of x) (at_body (ltb-true depth 8 e)) ∙ ap (entry_with x body.visit) runs
          ∙ sym (ap (entry_of y) (at_body (ltb-true depth 8 e)) ∙ ap (entry_with y body.visit) runs)
      go false e = ap (entry_of x) (past (ltb-false depth 8 e)) ∙ sym (ap (entry_of y) (past (ltb-false depth 8 e)))

  -- ── what its entries hold ──

  -- with variables `es` and table variables `ws`
  abbrev with : List Got → List TableVariable → Thread
  with es ws = record { site = s.thread.site; vars = es; relations = ws; stack = frames; depth = r.depth }

  low_same :
      (ws : List TableVariable) → ((j : ℕ) → j < depth - 1 → SeesSame ds (frame j) ws s.thread.relations) → (j : ℕ) → j < depth - 1 →
      entry_of (saved_of (read_at ds (get_or frames j no_frame)) ws (get_or new (at * 8 + j) no_saved)) (get_or frames j no_frame) ≡ entry_of (saved_after s r j) (get_or frames j no_frame)
  low_same ws h j q =
      ap (λ (f : Frame). entry_of (saved_of (read_at ds f) ws (get_or new (at * 8 + j) no_saved)) f) (frame-low j q)
      ∙ ap (λ (x : Saved). entry_of (saved_of (read_at ds (frame j)) ws x) (frame j)) (same j q)
      ∙ sees_same ds (frame j) ws s.thread.relations (get_or old (at * 8 + j) no_saved) (h j q)
      ∙ ap (λ (x : M.Bindings). entry_of x (frame j)) (sym (saved-below s r j q ∙ seen j))
      ∙ ap (entry_of (saved_after s r j)) (sym (frame-low j q))

  each_same : (j : ℕ) → j < r.depth → entry_of (saved_of (read_at ds (get_or frames j no_frame)) vs (get_or new (at * 8 + j) no_saved)) (get_or frames j no_frame) ≡ entry_of (saved_after s r j) (get_or frames j no_frame)
  each_same j h = by_low (ltb j (depth - 1)) refl
    where
      at_top : depth ≤ r.depth → (x : Entry) → r.frame.entry ≡ x → entry_with (saved_of (read_at ds r.frame) vs (get_or new (at * 8 + (depth - 1)) no_saved)) r.frame.visit x ≡ entry_with (saved_after s r (depth - 1)) r.frame.visit x
      at_top q (Run i) e = refl
      at_top q (Loop i) e = ap (visiting i (marked 0 r.frame.visit)) (top i q e)

      top-same : depth ≤ r.depth → entry_of (saved_of (read_at ds (get_or frames (depth - 1) no_frame)) vs (get_or new (at * 8 + (depth - 1)) no_saved)) (get_or frames (depth - 1) no_frame) ≡ entry_of (saved_after s r (depth - 1)) (get_or frames (depth - 1) no_frame)
      top-same q =
          ap (λ (f : Frame). entry_of (saved_of (read_at ds f) vs (get_or new (at * 8 + (depth - 1)) no_saved)) f) frame-at-top
          ∙ at_top q r.frame.entry refl ∙ ap (entry_of (saved_after s r (depth - 1))) (sym frame-at-top)

      by_top : (z : Bool) → eqb j (depth - 1) ≡ z → depth - 1 ≤ j → entry_of (saved_of (read_at ds (get_or frames j no_frame)) vs (get_or new (at * 8 + j) no_saved)) (get_or frames j no_frame) ≡ entry_of (saved_after s r j) (get_or frames j no_frame)
      by_top true e q =
          subst (λ (k : ℕ). entry_of (saved_of (read_at ds (get_or frames k no_frame)) vs (get_or new (at * 8 + k) no_saved)) (get_or frames k no_frame) ≡ entry_of (saved_after s r k) (get_or frames k no_frame)) (sym (eqb-true j (depth - 1) e))
          (top-same (omega (arith, eqb-true j (depth - 1) e, ok.some)))
      by_top false e q =
          let n : j ≡ depth - 1 → ⊥ = eqb-false j (depth - 1) e in
          let d : depth ≡ j = omega (arith, framed.height) in
          subst (λ (k : ℕ). entry_of (saved_of (read_at ds (get_or frames k no_frame)) vs (get_or new (at * 8 + k) no_saved)) (get_or frames k no_frame) ≡ entry_of (saved_after s r k) (get_or frames k no_frame)) d (frame-over _ _)

      by_low : (z : Bool) → ltb j (depth - 1) ≡ z → entry_of (saved_of (read_at ds (get_or frames j no_frame)) vs (get_or new (at * 8 + j) no_saved)) (get_or frames j no_frame) ≡ entry_of (saved_after s r j) (get_or frames j no_frame)
      by_low true e = low_same vs sees j (ltb-true j (depth - 1) e)
      by_low false e = by_top (eqb j (depth - 1)) refl (ltb-false j (depth - 1) e)

  -- where nothing comes back
  pub thread-stored : thread_of (saved_at ds new at (moved s.thread r above body vs)) (moved s.thread r above body vs) ≡ thread_of (saved_after s r) (moved s.thread r above body vs)
  thread-stored =
      ap (λ (l : List M.Entry). record { site = s.thread.site; bindings = bindings_of r.vars vs; stack = l })
      (stack_same (saved_at ds new at (moved s.thread r above body vs)) (saved_after s r) r.depth frames frames each_same)

  -- ── nothing comes back ──

  abbrev stored : M.Thread
  stored = thread_of (saved_after s r) (moved s.thread r above body vs)

  -- where no entry is removed, or the last one
  pub none-back : (ltb r.depth depth && ltb 1 depth) ≡ false → cond (ltb r.depth depth) (restored ds stored stored.stack) stored ≡ stored
  none-back e = go (ltb r.depth depth) refl
    where
      alone : ltb r.depth depth ≡ true → depth ≤ 1
      alone x = ltb-false 1 depth (sym (ap (λ (z : Bool). z && ltb 1 depth) x) ∙ e)

      go : (z : Bool) → ltb r.depth depth ≡ z → cond z (restored ds stored stored.stack) stored ≡ stored
      go true x =
          let n : r.depth ≡ 0 = omega (arith, alone x, ltb-true r.depth depth x) in
          ap (λ (k : ℕ). restored ds stored (stack_of (saved_after s r) k frames)) n
      go false x = refl

  module _ (deep : 1 < depth) (ends : r.depth ≡ depth - 1) where
    -- the entry below the one that is removed
    under-is : stored.stack ≡ entry_of (saved_after s r (depth - 2)) (frame (depth - 2)) ∷ stack_of (saved_after s r) (depth - 2) frames
    under-is =
        let e : r.depth - 1 ≡ depth - 2 = omega (arith, ends) in
        stack_cons (saved_after s r) r.depth frames (omega (arith, ends, deep))
        ∙ ap (λ (k : ℕ). entry_of (saved_after s r k) (get_or frames k no_frame) ∷ stack_of (saved_after s r) k frames) e
        ∙ ap (λ (f : Frame). entry_of (saved_after s r (depth - 2)) f ∷ stack_of (saved_after s r) (depth - 2) frames) (frame-low (depth - 2) (omega (arith, deep)))

    -- or where it is no sequential loop's
    pub other-back : (not (is_run (frame (depth - 2)).entry) && is_sequential (get_or ds (node_in (frame (depth - 2)).entry) S.no_node).kind) ≡ false → restored ds stored stored.stack ≡ stored
    other-back e = ap (restored ds stored) under-is ∙ go (frame (depth - 2)).entry refl
      where
        go : (x : Entry) → (frame (depth - 2)).entry ≡ x → restored ds stored (entry_with (saved_after s r (depth - 2)) (frame (depth - 2)).visit (frame (depth - 2)).entry ∷ stack_of (saved_after s r) (depth - 2) frames) ≡ stored
        go (Run i) x = ap (λ (y : Entry). restored ds stored (entry_with (saved_after s r (depth - 2)) (frame (depth - 2)).visit y ∷ stack_of (saved_after s r) (depth - 2) frames)) x
        go (Loop i) x =
            let k : is_sequential (get_or ds i S.no_node).kind ≡ false = sym (ap (λ (y : Entry). not (is_run y) && is_sequential (get_or ds (node_in y) S.no_node).kind) x) ∙ e in
            ap (λ (y : Entry). restored ds stored (entry_with (saved_after s r (depth - 2)) (frame (depth - 2)).visit y ∷ stack_of (saved_after s r) (depth - 2) frames)) x ∙ rw k

  -- ── bindings that come back ──

  module _ (deep : 1 < depth) (ends : r.depth ≡ depth - 1) (two : length vs ≡ 2) {n : ℕ} (loop : (frame (depth - 2)).entry ≡ Loop n) (sequential : is_sequential (get_or ds n S.no_node).kind ≡ true)
      (agrees : (j : ℕ) → j < depth - 1 → (i : ℕ) → (frame j).entry ≡ Loop i →
      get_or (map variable_of s.thread.relations) (read_at ds (frame j)) None ≡ get_or (s.saved (depth - 2)).relations (read_at ds (frame j)) None) where
    abbrev outer : Frame
    outer = frame (depth - 2)

    abbrev held : Saved
    held = get_or old (at * 8 + (depth - 2)) no_saved

    abbrev number : ℕ
    number = read_at ds outer

    abbrev back : List TableVariable
    back = set vs (1 - number) held.other

    here : depth - 2 < depth - 1
    here = omega (arith, deep)

    low : number < 2
    low = (sees (depth - 2) here n loop).0

    holds : saved_after s r (depth - 2) ≡ saved_of number s.thread.relations held
    holds = saved-below s r (depth - 2) here ∙ seen (depth - 2)

    -- each entry below sees what it saw
    back_sees : (j : ℕ) → j < depth - 1 → SeesSame ds (frame j) back s.thread.relations
    back_sees j h i e = ((sees j h i e).0, go (eqb (read_at ds (frame j)) number) refl)
      where
        m : ℕ
        m = read_at ds (frame j)

        go : (z : Bool) → eqb m number ≡ z → variable_of (get_or back m no_variable) ≡ variable_of (get_or s.thread.relations m no_variable)
        go true x =
            let q : m ≡ number = eqb-true m number x in
            ap variable_of (get_or-set_other vs (1 - number) m held.other no_variable (λ y. omega (arith, low))) ∙ (sees j h i e).1
        go false x =
            let d : m ≡ 1 - number = two_cases m number (sees j h i e).0 low (eqb-false m number x) in
            ap variable_of (ap (λ (k : ℕ). get_or back k no_variable) d ∙ get_or-set_same vs (1 - number) held.other no_variable (omega (arith, two)))
            ∙ sym (other_of number s.thread.relations held low)
            ∙ ap₂ (λ (x : M.Bindings) (k : ℕ). get_or x.relations k None) (sym (seen (depth - 2))) (sym d)
            ∙ sym (agrees j h i e)
            ∙ get_or-map variable_of s.thread.relations m no_variable

    pub thread-back :
        thread_of (saved_at ds new at (with held.vars back)) (with held.vars back)
        ≡ restored ds stored stored.stack
    thread-back =
        (λ i. record { site = s.thread.site; bindings = bindings i; stack = stacks i })
        ∙ sym (ap (λ (l : List M.Entry). restored ds stored l) (under-is deep ends ∙ ap (λ (x : M.Entry). x ∷ stack_of (saved_after s r) (depth - 2) frames) entry-is) ∙ rw sequential)
      where
        bindings : bindings_of held.vars back ≡ saved_after s r (depth - 2)
        bindings = back-bindings number vs s.thread.relations held low two (sees (depth - 2) here n loop).1 ∙ sym holds

        stacks : stack_of (saved_at ds new at (with held.vars back)) r.depth frames ≡ stack_of (saved_after s r) r.depth frames
        stacks = stack_same (saved_at ds new at (with held.vars back)) (saved_after s r) r.depth frames frames (λ j h. low_same back back_sees j (omega (arith, ends)))

        entry-is : entry_of (saved_after s r (depth - 2)) outer ≡ visiting n (marked 0 outer.visit) (saved_after s r (depth - 2))
        entry-is = ap (entry_with (saved_after s r (depth - 2)) outer.visit) loop
