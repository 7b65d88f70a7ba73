-- `call_hold::threads::count_stack` meets its contract: the records of the entries passed. Assumes nothing.
use Prim.Native.Nat.{ℕ, suc, ◌+◌, ◌≤◌}
use mathlib.Core.Path.{◌≡◌, refl, ap, ◌∙◌}
use mathlib.Core.List.{List}
use native.Mathlib.Omega.{arith}
use lib.ListN.{length, get_or, length-append}
use Rattle.nets.specs.declared.Saved.{Saved}
use Rattle.nets.specs.declared.Thread.{Thread}
use Rattle.nets.specs.View.{no_saved}
use Rattle.call_hold.specs.Holdings.{held_given, held_at, stack_given}
use Rattle.call_hold.proofs.HoldLaws.{held-shaped, entry_at, stack_up}
use Rattle.call_hold.proofs.threads.count_stack.Goals as goal

module _ (holds : List ℕ) (ss : List Saved) (t : Thread) where
  one_more : (i total n h : ℕ) → total ≡ length (stack_given holds ss t i) → h ≡ held_at holds t i → n ≡ suc (length (held_given h t.relations (get_or ss i no_saved))) → total + n ≡ length (stack_given holds ss t (i + 1))
  one_more i total n h e eh en =
      let q : n ≡ length (entry_at holds ss t i) = en ∙ ap (λ (m : ℕ). suc (length (held_given m t.relations (get_or ss i no_saved)))) eh in
      omega (arith, q, ap length (stack_up holds ss t i), length-append (entry_at holds ss t i) (stack_given holds ss t i))

  ended : (i total : ℕ) → i ≤ t.depth → t.depth ≤ i → total ≡ length (stack_given holds ss t i) → total ≡ length (stack_given holds ss t t.depth)
  ended i total a b e = let q : i ≡ t.depth = omega arith in e ∙ ap (λ (n : ℕ). length (stack_given holds ss t n)) q

pub loop-i-init : goal.loop-i-init
loop-i-init c = record { within = omega arith; counted = refl; few = omega arith }

pub entry_records-total-requires : goal.entry_records-total-requires
entry_records-total-requires c = (c.requires.relations, search held-shaped)

pub overflow_add-total : goal.overflow_add-total
overflow_add-total c = omega (arith, c.requires.depth)

pub loop-i-preserved : goal.loop-i-preserved
loop-i-preserved c = record { within = omega arith; counted = search one_more; few = omega arith }

pub returns : goal.returns
returns c = (search ended, omega (arith, c.requires.depth))
