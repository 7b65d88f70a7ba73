-- A thread whose top frame, height, variables and table variables are stored anew: where it goes on, and a round's. Assumes nothing.
use Prim.Native.Nat.{ℕ, zero, suc, ◌+◌, ◌-◌, ◌<◌, ◌≤◌}
use mathlib.Core.Path.{◌≡◌, refl, ap, ap₂, sym, subst, ◌∙◌}
use mathlib.Core.Bool.{Bool, true, false, cond, ◌&&◌}
use mathlib.Core.List.{List, [], ◌∷◌}
use native.Mathlib.Omega.{arith}
use native.Mathlib.Numerals.{add-one}
use lib.Dec.{T, ltb, eqb}
use lib.ListN.{length, get_or, set, length-set}
use lib.Seq.{get_or-set_same, get_or-set_other}
use borrow.Author.Tests.{lt-ltb, le-ltb, eq-eqb, ne_eqb}
use Rattle.nets.specs.declared.Entry.{Entry}
use Rattle.nets.specs.declared.Entry.TheVariants.{Run, Loop}
use Rattle.nets.specs.declared.Frame.{Frame}
use Rattle.nets.specs.View.{TableVariable}
use Rattle.nets.specs.declared.Thread.{Thread}
use Rattle.nets.specs.Nets as M
use Rattle.nets.specs.Nets.{to_run, visiting, is_loop, is_sequential}
use Rattle.nets.specs.Sound.{no_node}
use Rattle.nets.specs.Scenes.{below}
use Rattle.nets.specs.Steps.{with_stack, with_bindings, keep_thread, restored, go_on, first_met}
use Rattle.nets.specs.View.{no_frame, kind_at, node_in, entry_with, entry_of, stack_of, bindings_of, thread_of}
use Rattle.nets.proofs.StackView.{stack_same}
use Rattle.step_thread.specs.ThreadContracts.{is_run, Stacked, goes_on}
use Rattle.step_thread.proofs.ThreadLaws.{stack-past, stack_set}
use Rattle.step_meets.specs.declared.Decided.{Decided}
use Rattle.step_meets.specs.Situations.{Situation, over_of, moved, saved_after, Onward, starts_thread}
use Rattle.step_meets.specs.MeetContracts.{Framed}

-- ── stacks ──

module _ (bs : ℕ → M.Bindings) (l : List Frame) (f g : Frame) (eight : length l ≡ 8) where
  -- the place above is no lower than the top
  over-past : (n : ℕ) → n - 1 ≤ over_of n
  over-past n = go (ltb n 8) refl
    where
      go : (b : Bool) → ltb n 8 ≡ b → n - 1 ≤ cond b n (n - 1)
      go true e = omega arith
      go false e = omega arith

  below-past : (n : ℕ) → 1 ≤ n → (i : ℕ) → n - 1 ≤ i → (h : Frame) (k : List Frame) → below (stack_of bs n (set k i h)) ≡ below (stack_of bs n k)
  below-past zero h i p x k = absurd (omega arith)
  below-past (suc n) h i p x k = stack-past bs n k i x (omega arith)

  past_two : (n i : ℕ) → n ≤ i → stack_of bs n (set (set l i f) n g) ≡ stack_of bs n l
  past_two n i h = stack-past bs n (set l i f) n g (omega arith) ∙ stack-past bs n l i f h

  stack-ends : (n : ℕ) → 1 ≤ n → stack_of bs (n - 1) (set (set l (over_of n) f) (n - 1) g) ≡ below (stack_of bs n l)
  stack-ends zero h = absurd (omega arith)
  stack-ends (suc n) h = let e : suc n - 1 ≡ n = omega arith in past_two (suc n - 1) (over_of (suc n)) (over-past (suc n)) ∙ ap (λ (k : ℕ). stack_of bs k l) e

  stack-top_anew : (n : ℕ) → 1 ≤ n → n ≤ 8 → stack_of bs n (set (set l (over_of n) f) (n - 1) g) ≡ entry_of (bs (n - 1)) g ∷ below (stack_of bs n l)
  stack-top_anew n h k =
      stack_set bs n (set l (over_of n) f) g h (omega (arith, length-set l (over_of n) f, eight))
      ∙ ap (entry_of (bs (n - 1)) g ∷◌) (below-past n h (over_of n) (over-past n) f l)

  stack-over : (n : ℕ) → 1 ≤ n → n < 8 → stack_of bs (n + 1) (set (set l (over_of n) f) (n - 1) g) ≡ entry_of (bs n) f ∷ entry_of (bs (n - 1)) g ∷ below (stack_of bs n l)
  stack-over zero h k = absurd (omega arith)
  stack-over (suc n) h k =
      let e : suc n - 1 ≡ n = omega arith in
      let b : ltb (suc n) 8 ≡ true = lt-ltb (suc n) 8 k in
      rw (e, b, add-one)
      (ap₂ ◌∷◌
      (ap (entry_of (bs (suc n))) (get_or-set_past (set l (suc n) f) n g (suc n) (omega arith) ∙ get_or-set_same l (suc n) f no_frame (omega (arith, eight))))
      (ap₂ ◌∷◌ (ap (entry_of (bs n)) (get_or-set_same (set l (suc n) f) n g no_frame (omega (arith, length-set l (suc n) f, eight)))) (stack-past bs n (set l (suc n) f) n g (omega arith) ∙ stack-past bs n l (suc n) f (omega arith))))
    where
      get_or-set_past : (k : List Frame) (i : ℕ) (x : Frame) (j : ℕ) → i < j → get_or (set k i x) j no_frame ≡ get_or k j no_frame
      get_or-set_past k i x j p = get_or-set_other k i j x no_frame (λ q. omega arith)

-- ── threads ──

abbrev moved_to : Thread → Decided → List TableVariable → List M.Entry → M.Thread
moved_to t r vs x = record { site = t.site; bindings = bindings_of r.vars vs; stack = x }

-- the entries below the top hold what they held
below-same : (bs cs : ℕ → M.Bindings) (n : ℕ) (l : List Frame) → ((j : ℕ) → j < n - 1 → cs j ≡ bs j) → below (stack_of cs n l) ≡ below (stack_of bs n l)
below-same bs cs zero l h = refl
below-same bs cs (suc n) l h = stack_same cs bs n l l (λ j q. ap (λ (b : M.Bindings). entry_of b (get_or l j no_frame)) (h j (omega arith)))

-- the bindings that come back do not ask for the thread's own stack
restored-with : (ds : List M.Node) (t : M.Thread) (s : List M.Entry) → goes_on (restored ds (with_stack t s) s) ≡ keep_thread (restored ds t s) s
restored-with ds t [] = refl
restored-with ds t (to_run i ∷ s) = refl
restored-with ds t (visiting i v b ∷ s) = go (is_sequential (get_or ds i no_node).kind)
  where
    go : (q : Bool) → goes_on (cond q (with_bindings (with_stack t (visiting i v b ∷ s)) b) (with_stack t (visiting i v b ∷ s))) ≡ keep_thread (cond q (with_bindings t b) t) (visiting i v b ∷ s)
    go true = refl
    go false = refl

-- with what the entries of the stack hold before, `bs`, and after, `cs`
module _ (t : Thread) (bs cs : ℕ → M.Bindings) (r : Decided) (above : ℕ) (over : above ≡ over_of t.depth) (f : Frame) (vs : List TableVariable) (ok : Stacked t) (eight : length t.stack ≡ 8)
    (same : (j : ℕ) → j < t.depth - 1 → cs j ≡ bs j) where
  abbrev stored_at : ℕ → List Frame
  stored_at i = set (set t.stack i f) (t.depth - 1) r.frame

  abbrev stays : List M.Entry
  stays = below (thread_of bs t).stack

  stays-is : below (stack_of cs t.depth t.stack) ≡ stays
  stays-is = below-same bs cs t.depth t.stack same

  -- of some height
  moved_as : {n : ℕ} → r.depth ≡ n → thread_of cs (moved t r above f vs) ≡ moved_to t r vs (stack_of cs n (stored_at (over_of t.depth)))
  moved_as e = ap₂ (λ (n i : ℕ). moved_to t r vs (stack_of cs n (stored_at i))) e over

  pub moved-top : r.depth ≡ t.depth → thread_of cs (moved t r above f vs) ≡ moved_to t r vs (entry_of (cs (t.depth - 1)) r.frame ∷ stays)
  moved-top e =
      moved_as e
      ∙ ap (moved_to t r vs) (stack-top_anew cs t.stack f r.frame eight t.depth ok.some ok.few ∙ ap (entry_of (cs (t.depth - 1)) r.frame ∷◌) stays-is)

  pub moved-over : t.depth < 8 → r.depth ≡ t.depth + 1 → thread_of cs (moved t r above f vs) ≡ moved_to t r vs (entry_of (cs t.depth) f ∷ entry_of (cs (t.depth - 1)) r.frame ∷ stays)
  moved-over h e =
      moved_as e
      ∙ ap (moved_to t r vs) (stack-over cs t.stack f r.frame eight t.depth ok.some h ∙ ap (λ (l : List M.Entry). entry_of (cs t.depth) f ∷ entry_of (cs (t.depth - 1)) r.frame ∷ l) stays-is)

  moved_ends : r.depth ≡ t.depth - 1 → thread_of cs (moved t r above f vs) ≡ moved_to t r vs stays
  moved_ends e = moved_as e ∙ ap (moved_to t r vs) (stack-ends cs t.stack f r.frame eight t.depth ok.some ∙ stays-is)

  -- the thread afterwards, where an entry was removed or not
  abbrev back_by : List M.Node → Bool → M.Thread → M.Thread
  back_by ds b u = cond b (restored ds u u.stack) u

  -- on to next
  pub goes_on_lem :
      (ds : List M.Node) (next : ℕ) → Onward t.depth next r →
      goes_on (back_by ds (ltb r.depth t.depth) (thread_of cs (moved t r above f vs))) ≡ go_on ds next (with_bindings (thread_of bs t) (bindings_of r.vars vs)) stays
  goes_on_lem ds next o = go (eqb next 255) refl
    where
      u : M.Thread
      u = with_bindings (thread_of bs t) (bindings_of r.vars vs)

      ended : eqb next 255 ≡ true → ltb r.depth t.depth ≡ true
      ended e = lt-ltb r.depth t.depth (omega (arith, o.ends e, ok.some))

      stayed : eqb next 255 ≡ false → ltb r.depth t.depth ≡ false
      stayed e = le-ltb r.depth t.depth (omega (arith, o.stays e))

      go : (b : Bool) → eqb next 255 ≡ b → goes_on (back_by ds (ltb r.depth t.depth) (thread_of cs (moved t r above f vs))) ≡ go_on ds next u stays
      go true e =
          ap₂ (λ (b : Bool) (x : M.Thread). goes_on (back_by ds b x)) (ended e) (moved_ends (o.ends e))
          ∙ restored-with ds u stays ∙ rw e
      go false e =
          ap₂ (λ (b : Bool) (x : M.Thread). goes_on (back_by ds b x)) (stayed e) (moved-top (o.stays e))
          ∙ ap (λ (x : Entry). goes_on (with_stack u (entry_with (cs (t.depth - 1)) r.frame.visit x ∷ stays))) (o.goes e) ∙ rw e

-- ── what the entries hold ──

-- those below the top hold what they held
pub saved-below : (s : Situation) (r : Decided) (j : ℕ) → j < s.thread.depth - 1 → saved_after s r j ≡ s.saved j
saved-below s r j h = rw (ne_eqb j (s.thread.depth - 1) (λ e. omega arith)) (go r.saves)
  where
    go : (b : Bool) → cond (b && false) (bindings_of s.thread.vars s.thread.relations) (s.saved j) ≡ s.saved j
    go true = refl
    go false = refl

-- a loop's entry holds the bindings of the moment when it was first met
pub saved-top : (s : Situation) (r : Decided) → r.saves ≡ is_run s.frame.entry → first_met (thread_of s.saved s.thread) (entry_of (s.saved (s.thread.depth - 1)) s.frame) ≡ saved_after s r (s.thread.depth - 1)
saved-top s r e = rw (e, eq-eqb (s.thread.depth - 1) (s.thread.depth - 1) refl) (go s.frame.entry)
  where
    go : (x : Entry) → first_met (thread_of s.saved s.thread) (entry_with (s.saved (s.thread.depth - 1)) s.frame.visit x) ≡ cond (is_run x && true) (bindings_of s.thread.vars s.thread.relations) (s.saved (s.thread.depth - 1))
    go (Run i) = refl
    go (Loop i) = refl

-- ── the frame on top ──

run_or-loop : {n i : ℕ} → Run n ≡ Loop i → ⊥
run_or-loop e = subst (λ (x : Entry). T (is_run x)) e tt

-- going on leaves no loop's frame there
pub onward_framed : (s : Situation) (r : Decided) (next : ℕ) → 1 ≤ s.thread.depth → starts_thread r ≡ false → Onward s.thread.depth next r → Framed s r
onward_framed s r next deep f o = go (eqb next 255) refl
  where
    go : (b : Bool) → eqb next 255 ≡ b → Framed s r
    go true e = record { height = omega (arith, o.ends e); low = omega (arith, o.ends e); fork = λ h. absurd (subst T f h); loop = λ i h x. absurd (omega (arith, o.ends e)) }
    go false e = record { height = omega (arith, o.stays e); low = omega (arith, o.stays e); fork = λ h. absurd (subst T f h); loop = λ i h x. absurd (run_or-loop (sym (o.goes e) ∙ x)) }

-- a round leaves that of its loop
pub round_framed :
    (s : Situation) (r : Decided) {i : ℕ} → r.depth ≤ s.thread.depth + 1 → s.thread.depth ≤ r.depth → r.frame.entry ≡ Loop i → i ≡ node_in s.frame.entry → T (is_loop (kind_at s.node.kind)) → r.saves ≡ is_run s.frame.entry → Framed s r
round_framed s r h g e n l f = record { height = h; low = omega arith; fork = λ x. g; loop = λ j k x. (ap node_in (sym x ∙ e) ∙ n, l, f) }

-- ── what going on stores ──

clash : (b : Bool) → b ≡ true → b ≡ false → ⊥
clash true e f = subst T f tt
clash false e f = subst T (sym e) tt

pub onward_ends : (n : ℕ) (next : ℕ) (r : Decided) → next ≡ 255 → r.depth ≡ n - 1 → Onward n next r
onward_ends m next r e d =
    record { ends = λ h. d; stays = λ h. absurd (clash (eqb next 255) (eq-eqb next 255 e) h); goes = λ h. absurd (clash (eqb next 255) (eq-eqb next 255 e) h) }

pub onward_goes : (n : ℕ) (next : ℕ) (r : Decided) → (next ≡ 255 → ⊥) → r.depth ≡ n → r.frame.entry ≡ Run next → Onward n next r
onward_goes m next r n d x = record { ends = λ h. absurd (clash (eqb next 255) h (ne_eqb next 255 n)); stays = λ h. d; goes = λ h. x }
