-- Frames of a stack that hold a table variable. Assumes nothing.
use Prim.Native.Nat.{ℕ, ◌+◌, ◌<◌}
use mathlib.Core.Path.{◌≡◌, refl, ap, subst, ◌∙◌}
use mathlib.Core.Bool.{Bool, true, false, ◌||◌}
use mathlib.Core.List.{List}
use native.Mathlib.Numerals.{add-one}
use lib.Dec.{T, eqb, ltb, ltb→lt}
use lib.ListN.{get_or}
use Rattle.std.specs.List.{list_all, list_any}
use Rattle.values.proofs.Firsts.{firsts_at}
use Rattle.nets.specs.declared.Entry.{Entry}
use Rattle.nets.specs.declared.Entry.TheVariants.{Run, Loop}
use Rattle.nets.specs.declared.Frame.{Frame}
use Rattle.nets.specs.declared.Node.{Node}
use Rattle.nets.specs.Nets as M
use Rattle.nets.specs.Sound as S
use Rattle.nets.specs.Sound.{entry_node}
use Rattle.nets.specs.Steps.{holds}
use Rattle.nets.specs.View.{no_frame, no_node, node_of, entry_with, entry_of, stack_of, nodes_of}
use Rattle.step_picks.proofs.SceneTies.{stack-all}

-- ── a test of the frames in use, one frame more ──

or_comm : (a b : Bool) → (a || b) ≡ (b || a)
or_comm true true = refl
or_comm true false = refl
or_comm false true = refl
or_comm false false = refl

module _ (bs : ℕ → M.Bindings) (q : M.Entry → Bool) (l : List Frame) where
  any-more : (i : ℕ) {held b : Bool} → held ≡ list_any q (stack_of bs i l) → q (entry_of (bs i) (get_or l i no_frame)) ≡ b → (held || b) ≡ list_any q (stack_of bs (i + 1) l)
  any-more i {held} {b} e f = or_comm held b ∙ ap (λ (a : Bool). b || a) e ∙ rw (add-one, f) refl

  any_skip : (i : ℕ) {held : Bool} → held ≡ list_any q (stack_of bs i l) → q (entry_of (bs i) (get_or l i no_frame)) ≡ false → held ≡ list_any q (stack_of bs (i + 1) l)
  any_skip i e f = rw (add-one, f) e

-- ── a frame that holds a table variable ──

module _ (bs : ℕ → M.Bindings) (count v : ℕ) (nodes : List Node) (l : List Frame) (i : ℕ) {held : Bool} (so_far : held ≡ list_any (holds (nodes_of count nodes) v) (stack_of bs i l)) {k : ℕ} where
  -- an entry to run holds none
  pub run_skips : (get_or l i no_frame).entry ≡ Run k → held ≡ list_any (holds (nodes_of count nodes) v) (stack_of bs (i + 1) l)
  run_skips e = any_skip bs (holds (nodes_of count nodes) v) l i so_far (ap (λ (x : Entry). holds (nodes_of count nodes) v (entry_with (bs i) (get_or l i no_frame).visit x)) e)

  -- a loop entry holds the one that its node reads
  pub loop-counts : (get_or l i no_frame).entry ≡ Loop k → k < count → (held || eqb v (get_or nodes k no_node).read) ≡ list_any (holds (nodes_of count nodes) v) (stack_of bs (i + 1) l)
  loop-counts e h =
      any-more bs (holds (nodes_of count nodes) v) l i so_far
      (ap (λ (x : Entry). holds (nodes_of count nodes) v (entry_with (bs i) (get_or l i no_frame).visit x)) e
      ∙ ap (λ (d : M.Node). eqb v d.read) (firsts_at node_of no_node count nodes k S.no_node h))

-- the node of a loop frame is there
pub loop-there : (bs : ℕ → M.Bindings) {count n i k : ℕ} (l : List Frame) → T (list_all (λ x. ltb (entry_node x) count) (stack_of bs n l)) → i < n → (get_or l i no_frame).entry ≡ Loop k → k < count
loop-there bs {count} {n} {i} l h b e =
    ltb→lt _ count
    (subst (λ (x : Entry). T (ltb (entry_node (entry_with (bs i) (get_or l i no_frame).visit x)) count)) e (stack-all bs (λ x. ltb (entry_node x) count) n l h i b))
