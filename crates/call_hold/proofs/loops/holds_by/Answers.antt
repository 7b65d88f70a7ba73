-- `call_hold::loops::holds_by` meets its contract: by the kind, and by the table variable that it reads. Assumes nothing.
use mathlib.Core.Path.{◌≡◌, refl, sym, ◌∙◌}
use mathlib.Core.Bool.{Bool, true, false, not}
use borrow.Author.Tests.{not-true, not-false, eq-eqb, ne_eqb}
use Rattle.nets.specs.declared.Node.{Node}
use Rattle.nets.specs.Nets.{is_sequential}
use Rattle.nets.specs.View.{kind_at, node_of}
use Rattle.call_hold.specs.Holdings.{holds_by}
use Rattle.call_hold.proofs.loops.holds_by.Goals as goal

module _ (d : Node) (b : Bool) (e : b ≡ is_sequential (kind_at d.kind)) where
  no_loop : not b ≡ true → 0 ≡ holds_by (node_of d)
  no_loop n = rw (sym e ∙ not-true b n) refl

  reads_first_lem : not b ≡ false → d.read ≡ 0 → 1 ≡ holds_by (node_of d)
  reads_first_lem n q = rw (sym e ∙ not-false b n, eq-eqb d.read 0 q) refl

  reads_second_lem : not b ≡ false → (d.read ≡ 0 → ⊥) → 2 ≡ holds_by (node_of d)
  reads_second_lem n q = rw (sym e ∙ not-false b n, ne_eqb d.read 0 q) refl

pub returns-then-not-is_sequential : goal.returns-then-not-is_sequential
returns-then-not-is_sequential c = search no_loop

pub returns-then-d-eq0 : goal.returns-then-d-eq0
returns-then-d-eq0 c = search reads_first_lem

pub returns-else-d-eq0 : goal.returns-else-d-eq0
returns-else-d-eq0 c = search reads_second_lem
