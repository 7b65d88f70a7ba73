-- The list of threads, each with what the entries of its loops hold, as the code stores it: one gives way to another, one is removed, a fork goes last. Assumes nothing.
use Prim.Native.Nat.{ℕ, suc, ◌+◌, ◌-◌, ◌*◌, ◌<◌, ◌≤◌}
use mathlib.Core.Path.{◌≡◌, refl, ap, ap₂, sym, subst, ◌∙◌}
use mathlib.Core.Bool.{Bool, true, false, cond}
use mathlib.Core.List.{List, [], ◌∷◌, ◌++◌, append-nil}
use native.Mathlib.Omega.{arith}
use lib.Dec.{T, ltb}
use lib.ListN.{length, get_or, set, length-set}
use lib.Seq.{get_or-set_same, get_or-set_other}
use borrow.Author.Tests.{ltb-true, ltb-false}
use Rattle.values.proofs.ByPlace.{by_next, by_same, by_set, by_remove}
use Rattle.values.proofs.RemoveLaws.{Closing}
use Rattle.nets.specs.declared.Saved.{Saved}
use Rattle.nets.specs.declared.Thread.{Thread}
use Rattle.nets.specs.Nets as M
use Rattle.nets.specs.Steps.{restored, settle}
use Rattle.nets.specs.View.{no_saved, no_frame, no_thread, entry_of, stack_of, bindings_of, thread_of, saved_of, read_at, saved_at, thread_at, threads_of}
use Rattle.nets.proofs.StackView.{stack_same}
use Rattle.step_meets.specs.Situations.{Change}
use Rattle.step_meets.specs.MeetContracts.{becomes}
use Rattle.step_thread.specs.ThreadContracts.{goes_on, forks_of}
use Rattle.step_thread.proofs.ThreadLaws.{goes_on_gone, goes_on_there, settle-none, settle-one}

-- ── one thread ──

-- a thread whose entries have the same saved for them, at this place and at that
pub same-saved :
    (ds : List M.Node) (a b : List Saved) (i k : ℕ) (t : Thread) → ((j : ℕ) → j < t.depth → get_or a (i * 8 + j) no_saved ≡ get_or b (k * 8 + j) no_saved) →
    thread_of (saved_at ds a i t) t ≡ thread_of (saved_at ds b k t) t
same-saved ds a b i k t h =
    ap (λ (l : List M.Entry). record { site = t.site; bindings = bindings_of t.vars t.relations; stack = l })
    (stack_same (saved_at ds a i t) (saved_at ds b k t) t.depth t.stack t.stack
    (λ j q. ap (λ (x : Saved). entry_of (saved_of (read_at ds (get_or t.stack j no_frame)) t.relations x) (get_or t.stack j no_frame)) (h j q)))

-- one without an entry is gone
pub becomes_gone : (ds : List M.Node) (d : Change) → d.thread.depth ≡ 0 → goes_on (becomes ds d) ≡ []
becomes_gone ds d e = go d.ends
  where
    u : M.Thread
    u = thread_of d.saved d.thread

    none : u.stack ≡ []
    none = ap (λ (n : ℕ). stack_of d.saved n d.thread.stack) e

    go : (b : Bool) → goes_on (cond b (restored ds u u.stack) u) ≡ []
    go true = ap (λ (s : List M.Entry). goes_on (restored ds u s)) none ∙ goes_on_gone d.saved d.thread e
    go false = goes_on_gone d.saved d.thread e

-- ── all threads ──

-- what is saved for threads at other places is the same
pub record Beside (old new : List Saved) (at : ℕ) : Type 0 where
  pub same : (i : ℕ) → (i ≡ at → ⊥) → (j : ℕ) → j < 8 → get_or new (i * 8 + j) no_saved ≡ get_or old (i * 8 + j) no_saved

-- at the top of the thread `b` is saved, where it saves; all else is as it was
pub record Kept (old new : List Saved) (at top : ℕ) (saves : Bool) (b : Saved) : Type 0 where
  pub size : length new ≡ length old
  pub beside : Beside old new at
  pub low : (j : ℕ) → j < top → get_or new (at * 8 + j) no_saved ≡ get_or old (at * 8 + j) no_saved
  pub first : saves ≡ true → get_or new (at * 8 + top) no_saved ≡ b
  pub later : saves ≡ false → get_or new (at * 8 + top) no_saved ≡ get_or old (at * 8 + top) no_saved

module _ (old : List Saved) (at top : ℕ) (b : Saved) {saves : Bool} where
  pub kept-saved : saves ≡ true → top < 8 → at * 8 + top < length old → Kept old (set old (at * 8 + top) b) at top saves b
  kept-saved e low high =
      record {
        size = length-set old (at * 8 + top) b;
        beside = record { same = λ i d j h. get_or-set_other old (at * 8 + top) (i * 8 + j) b no_saved (λ x. d (apart i j h x)) };
        low = λ j h. get_or-set_other old (at * 8 + top) (at * 8 + j) b no_saved (λ x. omega arith);
        first = λ x. get_or-set_same old (at * 8 + top) b no_saved high;
        later = λ x. absurd (subst T (sym e ∙ x) tt);
      }
    where
      apart : (i j : ℕ) → j < 8 → i * 8 + j ≡ at * 8 + top → i ≡ at
      apart i j h x = omega arith

  pub kept_same : saves ≡ false → Kept old old at top saves b
  kept_same e = record { size = refl; beside = record { same = λ i d j h. refl }; low = λ j h. refl; first = λ x. absurd (subst T (sym x ∙ e) tt); later = λ x. refl }

module _ (ds : List M.Node) (n : ℕ) (l : List Thread) (old new : List Saved) (at : ℕ) (low : at < n) (eight : length l ≡ 8) (few : n ≤ 8) (stacks : (i : ℕ) → i < n → (get_or l i no_thread).depth ≤ 8)
    (beside : Beside old new at) where
  other-same : (u : Thread) (i : ℕ) → i < n → (i ≡ at → ⊥) → thread_at ds old l i ≡ thread_at ds new (set l at u) i
  other-same u i h d =
      let e : get_or (set l at u) i no_thread ≡ get_or l i no_thread = get_or-set_other l at i u no_thread d in
      same-saved ds old new i i (get_or l i no_thread) (λ j q. sym (beside.same i d j (omega (arith, stacks i h))))
      ∙ ap (λ (t : Thread). thread_of (saved_at ds new i t) t) (sym e)

  module _ (u : Thread) (x : M.Thread) (is : thread_of (saved_at ds new at u) u ≡ x) (deep : 1 ≤ u.depth) where
    put : threads_of ds new n (set l at u) ≡ settle at (goes_on x) (threads_of ds old n l)
    put =
        sym (by_set (thread_at ds old l) (thread_at ds new (set l at u)) n at x (ap (λ (t : Thread). thread_of (saved_at ds new at t) t) (get_or-set_same l at u no_thread (omega (arith, eight))) ∙ is) (other-same u))
        ∙ sym (settle-one at x (threads_of ds old n l))
        ∙ ap (λ (us : List M.Thread). settle at us (threads_of ds old n l)) (sym (subst (λ (y : M.Thread). goes_on y ≡ y ∷ []) is (goes_on_there (saved_at ds new at u) u deep)))

    pub thread-stays : (fork : M.Thread) {f : Bool} → f ≡ false → threads_of ds new n (set l at u) ≡ settle at (goes_on x) (threads_of ds old n l) ++ forks_of f fork
    thread-stays fork e =
        put ∙ sym (append-nil (settle at (goes_on x) (threads_of ds old n l)))
        ∙ ap (λ (b : Bool). settle at (goes_on x) (threads_of ds old n l) ++ forks_of b fork) (sym e)

    -- and a fork goes last
    pub thread-forks :
        (f : Thread) (fork : M.Thread) → ((bs : ℕ → M.Bindings) → thread_of bs f ≡ fork) → {b : Bool} → b ≡ true → n < 8 →
        threads_of ds new (n + 1) (set (set l at u) n f) ≡ settle at (goes_on x) (threads_of ds old n l) ++ forks_of b fork
    thread-forks f fork made e room =
        by_next (thread_at ds new (set (set l at u) n f)) n
        ∙ ap₂ (λ (ts : List M.Thread) (t : M.Thread). ts ++ (t ∷ []))
        (by_same (thread_at ds new (set (set l at u) n f)) (thread_at ds new (set l at u)) n
        (λ i h. ap (λ (t : Thread). thread_of (saved_at ds new i t) t) (get_or-set_other (set l at u) n i f no_thread (λ d. omega arith)))
        ∙ put)
        (ap (λ (t : Thread). thread_of (saved_at ds new n t) t) (get_or-set_same (set l at u) n f no_thread (omega (arith, length-set l at u, eight))) ∙ made (saved_at ds new n f))
        ∙ ap (λ (z : Bool). settle at (goes_on x) (threads_of ds old n l) ++ forks_of z fork) (sym e)

-- ── a thread is removed ──

-- what is saved for the threads `ts` from place `at` up to `hole` is what was saved for those one place further on; all else is as it was
pub record Shifting (ts : List Thread) (old : List Saved) (at hole : ℕ) (new : List Saved) : Type 0 where
  pub size : length new ≡ length old
  pub low : at * 8 ≤ hole
  pub before : (z : ℕ) → z < at * 8 → get_or new z no_saved ≡ get_or old z no_saved
  pub moved : (i j : ℕ) → at ≤ i → i * 8 + j < hole → j < 8 → j < (get_or ts i no_thread).depth → get_or new (i * 8 + j) no_saved ≡ get_or old (i * 8 + j + 8) no_saved
  pub rest : (z : ℕ) → hole ≤ z → get_or new z no_saved ≡ get_or old z no_saved

module _ (ts : List Thread) (old : List Saved) (at : ℕ) where
  pub shifting_starts : Shifting ts old at (at * 8) old
  shifting_starts = record { size = refl; low = omega arith; before = λ z h. refl; moved = λ i j h q x y. absurd (omega arith); rest = λ z h. refl }

  -- nothing to move for a place that is not in use
  pub shifting_skips : {hole : ℕ} {new : List Saved} → Shifting ts old at hole new → (owner level : ℕ) → hole ≡ owner * 8 + level → level < 8 → (get_or ts owner no_thread).depth ≤ level → Shifting ts old at (hole + 1) new
  shifting_skips {hole} {new} s owner level e h unused =
      record {
        size = s.size;
        low = omega (arith, s.low);
        before = s.before;
        moved = λ i j p q x y. here i j p q x y (ltb (i * 8 + j) hole) refl;
        rest = λ z p. s.rest z (omega arith);
      }
    where
      here : (i j : ℕ) → at ≤ i → i * 8 + j < hole + 1 → j < 8 → j < (get_or ts i no_thread).depth → (b : Bool) → ltb (i * 8 + j) hole ≡ b → get_or new (i * 8 + j) no_saved ≡ get_or old (i * 8 + j + 8) no_saved
      here i j p q x y true d = s.moved i j p (ltb-true (i * 8 + j) hole d) x y
      here i j p q x y false d =
          let k : hole ≤ i * 8 + j = ltb-false (i * 8 + j) hole d in
          let a : i ≡ owner = omega arith in
          let b : j ≡ level = omega arith in
          absurd (subst (λ (m : ℕ). j < (get_or ts m no_thread).depth → ⊥) (sym a) (λ z. omega (arith, unused, z)) y)

  pub shifting_moves : {hole : ℕ} {new : List Saved} → Shifting ts old at hole new → hole < length old → Shifting ts old at (hole + 1) (set new hole (get_or new (hole + 8) no_saved))
  shifting_moves {hole} {new} s high =
      record {
        size = length-set new hole (get_or new (hole + 8) no_saved) ∙ s.size;
        low = omega (arith, s.low);
        before = λ z h. get_or-set_other new hole z (get_or new (hole + 8) no_saved) no_saved (λ e. omega (arith, s.low)) ∙ s.before z h;
        moved = λ i j p q x y. here i j p q x y (ltb (i * 8 + j) hole) refl;
        rest = λ z h. get_or-set_other new hole z (get_or new (hole + 8) no_saved) no_saved (λ e. omega arith) ∙ s.rest z (omega arith);
      }
    where
      put : List Saved
      put = set new hole (get_or new (hole + 8) no_saved)

      here : (i j : ℕ) → at ≤ i → i * 8 + j < hole + 1 → j < 8 → j < (get_or ts i no_thread).depth → (b : Bool) → ltb (i * 8 + j) hole ≡ b → get_or put (i * 8 + j) no_saved ≡ get_or old (i * 8 + j + 8) no_saved
      here i j p q x y true d =
          let k : i * 8 + j < hole = ltb-true (i * 8 + j) hole d in
          get_or-set_other new hole (i * 8 + j) (get_or new (hole + 8) no_saved) no_saved (λ e. omega arith) ∙ s.moved i j p k x y
      here i j p q x y false d =
          let k : hole ≤ i * 8 + j = ltb-false (i * 8 + j) hole d in
          let e : i * 8 + j ≡ hole = omega arith in
          ap (λ (z : ℕ). get_or put z no_saved) e
          ∙ get_or-set_same new hole (get_or new (hole + 8) no_saved) no_saved (omega (arith, s.size))
          ∙ s.rest (hole + 8) (omega arith) ∙ ap (λ (z : ℕ). get_or old (z + 8) no_saved) (sym e)

-- the threads behind it, with what their entries hold
pub thread_gone :
    (ds : List M.Node) (n : ℕ) (l new : List Thread) (old kept given : List Saved) (at x hole : ℕ) → at < n → (stacks : (i : ℕ) → i < n → (get_or l i no_thread).depth ≤ 8) →
    Closing no_thread l at x new → n - 1 ≤ x → Beside old kept at → Shifting new kept at hole given → (n - 1) * 8 ≤ hole →
    (d : Change) → d.thread.depth ≡ 0 → (f : Bool) → (T f → 1 ≤ d.thread.depth) →
    threads_of ds given (n - 1) new ≡ settle at (goes_on (becomes ds d)) (threads_of ds old n l) ++ forks_of f d.fork
thread_gone ds n l new old kept given at x hole low stacks closing over beside shifting done d gone true forks = absurd (omega (arith, gone, forks tt))
thread_gone ds n l new old kept given at x hole low stacks closing over beside shifting done d gone false forks =
    by_remove (thread_at ds old l) (thread_at ds given new) n at low before behind
    ∙ sym (append-nil _ ∙ ap (λ (us : List M.Thread). settle at us (threads_of ds old n l)) (becomes_gone ds d gone) ∙ settle-none at (threads_of ds old n l))
  where
    -- those before its place
    before : (i : ℕ) → i < at → thread_at ds given new i ≡ thread_at ds old l i
    before i h =
        ap (λ (t : Thread). thread_of (saved_at ds given i t) t) (closing.same i h)
        ∙ same-saved ds given old i i (get_or l i no_thread)
        (λ j q. let e = stacks i (omega arith) in shifting.before (i * 8 + j) (omega (arith, e)) ∙ beside.same i (λ y. omega arith) j (omega (arith, e)))

    -- those behind it
    behind : (i : ℕ) → at ≤ i → i < n - 1 → thread_at ds given new i ≡ thread_at ds old l (suc i)
    behind i h q =
        let e : get_or new i no_thread ≡ get_or l (suc i) no_thread = closing.moved i h (omega arith) in
        let k = stacks (suc i) (omega arith) in
        ap (λ (t : Thread). thread_of (saved_at ds given i t) t) e
        ∙ same-saved ds given old i (suc i) (get_or l (suc i) no_thread)
        (λ j p.
        shifting.moved i j h (omega (arith, k)) (omega (arith, k)) (subst (λ (t : Thread). j < t.depth) (sym e) p)
        ∙ ap (λ (z : ℕ). get_or kept z no_saved) (next i j) ∙ beside.same (suc i) (λ y. omega arith) j (omega (arith, k)))
      where
        next : (i j : ℕ) → i * 8 + j + 8 ≡ suc i * 8 + j
        next i j = omega arith
