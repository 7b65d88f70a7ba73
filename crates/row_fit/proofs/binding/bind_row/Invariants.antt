-- What is left of the template and the row, over the variables so far, decides.
use Rattle.std.proofs.Common.{◌≡◌}
use Rattle.std.specs.Prelude.{map, Some}
use Rattle.values.specs.Operands.{bind}
use Rattle.rows.specs.Matching.{row_vars}
use Rattle.row_fit.proofs.binding.bind_row.Given as goal

abbrev pub invariant-loop-op : goal.invariant-loop-op
invariant-loop-op l = bind l.op-iterator.a.rest.now (map Some l.op-iterator.b.rest.now) l.next ≡ row_vars l.initial.next l.template l.row
