-- `call_hold::loops::all_holds` meets its contract: what is said of the nodes passed, and 0 of all others. Assumes nothing.
use Prim.Native.Nat.{ℕ, zero, suc, ◌+◌, ◌<◌, ◌≤◌}
use mathlib.Core.Path.{◌≡◌, refl, sym, ap, ◌∙◌}
use mathlib.Core.Bool.{Bool, true, false}
use mathlib.Core.List.{List, [], ◌∷◌, map}
use native.Mathlib.Omega.{arith}
use borrow.Author.Tests.{ltb-true, ltb-false}
use lib.Dec.{ltb}
use lib.ListN.{length, get_or, set, replicate, length-set}
use lib.Seq.{get_or-set_same, get_or-set_other}
use Rattle.nets.specs.declared.Node.{Node}
use Rattle.nets.specs.Sound as S
use Rattle.nets.specs.View.{no_node, node_of}
use Rattle.call_hold.specs.Holdings.{holds_by, HoldsAre}
use Rattle.call_hold.proofs.loops.all_holds.Invariants.{Said}
use Rattle.call_hold.proofs.loops.all_holds.Goals as goal

said-none : (ns : List Node) → Said ns 0 (replicate {A = ℕ} 256 0)
said-none ns = record { long = refl; passed = λ k h. absurd (omega arith); others = λ k h. zeros 256 k }
  where
    zeros : (n k : ℕ) → ◌≡◌ {A = ℕ} (get_or (replicate n 0) k 0) 0
    zeros zero k = refl
    zeros (suc n) zero = refl
    zeros (suc n) (suc k) = zeros n k

said_more : (ns : List Node) (i r : ℕ) (holds : List ℕ) → i < 256 → Said ns i holds → r ≡ holds_by (node_of (get_or ns i no_node)) → Said ns (i + 1) (set holds i r)
said_more ns i r holds h s e =
    record {
      long = length-set holds i r ∙ s.long;
      passed = λ k q. go k q (ltb k i) refl;
      others = λ k q. get_or-set_other holds i k r 0 (λ x. omega arith) ∙ s.others k (omega arith);
    }
  where
    go : (k : ℕ) → k < i + 1 → (b : Bool) → ltb k i ≡ b → get_or (set holds i r) k 0 ≡ holds_by (node_of (get_or ns k no_node))
    go k q true t = get_or-set_other holds i k r 0 (λ x. omega (arith, ltb-true k i t)) ∙ s.passed k (ltb-true k i t)
    go k q false t =
        let z : k ≡ i = omega (arith, ltb-false k i t) in
        rw z (get_or-set_same holds i r 0 (omega (arith, s.long)) ∙ e)

-- past the nodes there is none
past : (ns : List Node) (k : ℕ) → length ns ≤ k → get_or (map node_of ns) k S.no_node ≡ S.no_node
past [] k h = refl
past (d ∷ ns) zero h = absurd (omega arith)
past (d ∷ ns) (suc k) h = past ns k (omega arith)

there : (ns : List Node) (k : ℕ) → k < length ns → get_or (map node_of ns) k S.no_node ≡ node_of (get_or ns k no_node)
there [] k h = absurd (omega arith)
there (d ∷ ns) zero h = refl
there (d ∷ ns) (suc k) h = there ns k (omega arith)

said_all : (ns : List Node) (i : ℕ) (holds : List ℕ) → i ≤ length ns → length ns ≤ i → Said ns i holds → HoldsAre (map node_of ns) holds
said_all ns i holds a b s = record { at = λ k. go k (ltb k (length ns)) refl }
  where
    go : (k : ℕ) (c : Bool) → ltb k (length ns) ≡ c → get_or holds k 0 ≡ holds_by (get_or (map node_of ns) k S.no_node)
    go k true t =
        let q = ltb-true k (length ns) t in
        s.passed k (omega (arith, q)) ∙ sym (ap holds_by (there ns k q))
    go k false t =
        let q = ltb-false k (length ns) t in
        s.others k (omega (arith, q)) ∙ sym (ap holds_by (past ns k q))

pub loop-i-init : goal.loop-i-init
loop-i-init c = record { within = omega arith; said = said-none _ }

pub loop-i-preserved : goal.loop-i-preserved
loop-i-preserved c = record { within = omega arith; said = said_more _ _ _ _ (omega arith) c.loop-i.invariant.said c.holds_by.ensures }

pub returns : goal.returns
returns c = search said_all
