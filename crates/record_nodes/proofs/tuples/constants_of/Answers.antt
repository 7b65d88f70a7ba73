-- `record_nodes::tuples::constants_of` meets its contract: each of the four places holds what its operand gives.
use mathlib.Core.List.{[]}
use Rattle.values.specs.Operands.{Got}
use Rattle.values.specs.Operands.{eval}
use Rattle.values.specs.declared.Operand.{Operand}
use Rattle.rows.specs.View.{no_field, no_slot}
use Rattle.rows.proofs.Fours.{fours}
use borrow.Author.Rules.{rules}
use Rattle.record_nodes.proofs.tuples.constants_of.Goals as goal

pub returns : goal.returns
returns c = (fours (λ (g : Got). g) no_slot (eval []) (λ (o : Operand). o) no_field _ _ c.requires.count (search rules) (search rules) (search rules) (search rules), search rules)
