-- The nodes that are left decide.
use Rattle.std.proofs.Common.{◌≡◌, ◌&&◌, ◌∙◌, ℕ, suc, ◌+◌, List, ◌∷◌, Bool, true, false, sym, ap, ap₂, add-one}
use Rattle.nets.specs.Nets.{Node}
use Rattle.nets.specs.Sound.{node_ok_as, nodes_ok}
use Rattle.nets.specs.View.{no_node, node_of}
use Rattle.net_parts.proofs.Counts.{one-seen}
use Rattle.net_parts.proofs.nodes.nodes_ok.Goals as goal

module _ (n i : ℕ) (b : Bool) {xs : List Node} (left : nodes_ok n i xs ≡ b) where
  module _ {x : Node} {xs' : List Node} {t : Bool} (e : xs ≡ x ∷ xs') (q : t ≡ node_ok_as x.kind n i x) where
    here : (t && nodes_ok n (suc i) xs') ≡ b
    here = ap (λ (u : Bool). u && nodes_ok n (suc i) xs') q ∙ sym (ap (nodes_ok n i) e) ∙ left

    nodes-more : t ≡ true → nodes_ok n (i + 1) xs' ≡ b
    nodes-more h = rw add-one (sym (ap (λ (u : Bool). u && nodes_ok n (suc i) xs') h) ∙ here)

    nodes-fails : t ≡ false → false ≡ b
    nodes-fails h = sym (ap (λ (u : Bool). u && nodes_ok n (suc i) xs') h) ∙ here

pub loop-i-preserved : goal.loop-i-preserved
loop-i-preserved c =
    let l = c.args.nodes.now in
    let i = c.loop-i.i in
    nodes-more _ i _ c.loop-i.invariant (one-seen node_of no_node l i c.loop-i-test.true) (ap₂ ◌&&◌ c.fields_ok.ensures c.links_ok.ensures) c.if-not-fields_ok-links_ok.false

pub returns-then-not-fields_ok-links_ok : goal.returns-then-not-fields_ok-links_ok
returns-then-not-fields_ok-links_ok c =
    let l = c.args.nodes.now in
    let i = c.loop-i.i in
    nodes-fails _ i _ c.loop-i.invariant (one-seen node_of no_node l i c.loop-i-test.true) (ap₂ ◌&&◌ c.fields_ok.ensures c.links_ok.ensures) c.if-not-fields_ok-links_ok.true
