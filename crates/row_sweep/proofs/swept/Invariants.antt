-- After `i` rows, each is marked and replaced by what `judge` gives for the row as it stood before.
use Rattle.std.proofs.Common.{◌-◌, ◌≤◌}
use Rattle.std.specs.List.{list_all}
use Rattle.values.specs.Operands.{is_got, values_in}
use Rattle.rows.specs.declared.Row.{Row}
use Rattle.rows.specs.View.{no_row, values_of}
use Rattle.row_change.specs.ChangeContracts.{given_by, replaces, sweeps}
use Rattle.row_change.proofs.SweepLaws.{Sweep}
use Rattle.row_sweep.proofs.swept.Given as goal

abbrev pub invariant-loop-i : goal.invariant-loop-i
invariant-loop-i l = record {
  sweep : Sweep (sweeps l.plan l.pass l.terms l.kinds) (λ (r : Row). list_all is_got (given_by l.terms r)) (replaces l.pass) (values_of l.terms.count)
      (λ (r : Row). values_in (given_by l.terms r)) no_row l.initial.rows l.i l.rows l.flags;
}
