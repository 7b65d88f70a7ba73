-- Stacks as the code holds them, the top last, and threads that go on or are gone.
use Prim.Native.Nat.{ℕ, zero, suc, ◌+◌, ◌-◌, ◌<◌, ◌≤◌}
use mathlib.Core.Path.{◌≡◌, refl, ap, ap₂}
use mathlib.Core.List.{List, [], ◌∷◌}
use native.Mathlib.Omega.{arith}
use native.Mathlib.Numerals.{add-one}
use lib.ListN.{length, set}
use lib.Seq.{get_or-set_same, get_or-set_other}
use Rattle.values.specs.Lists.{remove_at}
use Rattle.nets.specs.declared.Entry.{Entry}
use Rattle.nets.specs.declared.Entry.TheVariants.{Run, Loop}
use Rattle.nets.specs.declared.Frame.{Frame}
use Rattle.nets.specs.declared.Thread.{Thread}
use Rattle.nets.specs.Nets as M
use Rattle.nets.specs.Scenes.{below, still_to_visit}
use Rattle.nets.specs.Steps.{with_stack, keep_thread, settle}
use Rattle.nets.specs.View.{no_frame, entry_with, entry_of, stack_of, thread_of}
use Rattle.step_thread.specs.ThreadContracts.{no_bindings, goes_on}

-- ── stacks ──

module _ (bs : ℕ → M.Bindings) where
  -- a store at a place that is not in use
  pub stack-past : (n : ℕ) (l : List Frame) (i : ℕ) (f : Frame) → n ≤ i → stack_of bs n (set l i f) ≡ stack_of bs n l
  stack-past zero l i f h = refl
  stack-past (suc n) l i f h = ap₂ ◌∷◌ (ap (entry_of (bs n)) (get_or-set_other l i n f no_frame (λ e. omega arith))) (stack-past n l i f (omega arith))

  -- one more, stored behind those in use
  pub stack_push : (n : ℕ) (l : List Frame) (f : Frame) → n < length l → stack_of bs (n + 1) (set l n f) ≡ entry_of (bs n) f ∷ stack_of bs n l
  stack_push n l f h = rw add-one (ap₂ ◌∷◌ (ap (entry_of (bs n)) (get_or-set_same l n f no_frame h)) (stack-past n l n f (omega arith)))

  -- another top
  pub stack_set : (n : ℕ) (l : List Frame) (f : Frame) → 1 ≤ n → n ≤ length l → stack_of bs n (set l (n - 1) f) ≡ entry_of (bs (n - 1)) f ∷ below (stack_of bs n l)
  stack_set zero l f h k = absurd (omega arith)
  stack_set (suc n) l f h k =
      let e : suc n - 1 ≡ n = omega arith in
      rw e (ap₂ ◌∷◌ (ap (entry_of (bs n)) (get_or-set_same l n f no_frame (omega arith))) (stack-past n l n f (omega arith)))

-- ── the places to visit ──

-- whatever the entry holds
pub visit-any : (b : M.Bindings) (f : Frame) (n : ℕ) → still_to_visit (entry_of b f) n ≡ still_to_visit (entry_of no_bindings f) n
visit-any b f n = go f.entry
  where
    go : (e : Entry) → still_to_visit (entry_with b f.visit e) n ≡ still_to_visit (entry_with no_bindings f.visit e) n
    go (Run i) = refl
    go (Loop i) = refl

-- ── what becomes of a thread ──

pub goes_on_with : (t : M.Thread) (s : List M.Entry) → goes_on (with_stack t s) ≡ keep_thread t s
goes_on_with t [] = refl
goes_on_with t (x ∷ s) = refl

pub goes_on_gone : (bs : ℕ → M.Bindings) (t : Thread) → t.depth ≡ 0 → goes_on (thread_of bs t) ≡ []
goes_on_gone bs t e = rw e refl

pub goes_on_there : (bs : ℕ → M.Bindings) (t : Thread) → 1 ≤ t.depth → goes_on (thread_of bs t) ≡ thread_of bs t ∷ []
goes_on_there bs t h = go t.depth h
  where
    with : ℕ → M.Thread
    with n = record { site = (thread_of bs t).site; bindings = (thread_of bs t).bindings; stack = stack_of bs n t.stack }

    go : (n : ℕ) → 1 ≤ n → goes_on (with n) ≡ with n ∷ []
    go zero h = absurd (omega arith)
    go (suc n) h = refl

pub settle-none : (i : ℕ) (ts : List M.Thread) → settle i [] ts ≡ remove_at i ts
settle-none i [] = refl
settle-none zero (t ∷ ts) = refl
settle-none (suc i) (t ∷ ts) = ap (t ∷◌) (settle-none i ts)

pub settle-one : (i : ℕ) (t : M.Thread) (ts : List M.Thread) → settle i (t ∷ []) ts ≡ set ts i t
settle-one i t [] = refl
settle-one zero t (u ∷ ts) = refl
settle-one (suc i) t (u ∷ ts) = ap (u ∷◌) (settle-one i t ts)
