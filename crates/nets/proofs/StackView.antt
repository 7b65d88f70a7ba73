-- A thread's stack as the code holds it: its length, its top, and when two are the same. Assumes nothing.
use Prim.Native.Nat.{ℕ, zero, suc, ◌-◌, ◌<◌, ◌≤◌}
use mathlib.Core.Path.{◌≡◌, refl, ap, ap₂}
use mathlib.Core.List.{List, [], ◌∷◌}
use native.Mathlib.Omega.{arith}
use lib.ListN.{length, get_or}
use Rattle.nets.specs.declared.Entry.{Entry}
use Rattle.nets.specs.declared.Entry.TheVariants.{Run, Loop}
use Rattle.nets.specs.declared.Frame.{Frame}
use Rattle.nets.specs.Nets.{Bindings}
use Rattle.nets.specs.Sound.{entry_node}
use Rattle.nets.specs.View.{no_frame, node_in, entry_of, stack_of}

pub length-stack : (bs : ℕ → Bindings) (n : ℕ) (l : List Frame) → length (stack_of bs n l) ≡ n
length-stack bs zero l = refl
length-stack bs (suc n) l = ap suc (length-stack bs n l)

pub stack_cons : (bs : ℕ → Bindings) (n : ℕ) (l : List Frame) → 0 < n → stack_of bs n l ≡ entry_of (bs (n - 1)) (get_or l (n - 1) no_frame) ∷ stack_of bs (n - 1) l
stack_cons bs zero l h = absurd (omega arith)
stack_cons bs (suc n) l h = let q : suc n - 1 ≡ n = omega arith in rw q

pub stack_end : (bs : ℕ → Bindings) (n : ℕ) (l : List Frame) → n ≤ 0 → stack_of bs n l ≡ []
stack_end bs zero l h = refl
stack_end bs (suc n) l h = absurd (omega arith)

-- two stacks with the same entry at each place
pub stack_same : (bs cs : ℕ → Bindings) (n : ℕ) (k l : List Frame) → ((j : ℕ) → j < n → entry_of (bs j) (get_or k j no_frame) ≡ entry_of (cs j) (get_or l j no_frame)) → stack_of bs n k ≡ stack_of cs n l
stack_same bs cs zero k l h = refl
stack_same bs cs (suc n) k l h = ap₂ ◌∷◌ (h n (omega arith)) (stack_same bs cs n k l (λ j q. h j (omega arith)))

-- an entry's node does not depend on what it holds
pub entry-node_in : (b : Bindings) (f : Frame) → entry_node (entry_of b f) ≡ node_in f.entry
entry-node_in b f = go f.entry
  where
    go : (e : Entry) → entry_node (entry_of b (record { entry = e; visit = f.visit })) ≡ node_in e
    go (Run i) = refl
    go (Loop i) = refl
