use Rattle.std.proofs.Common.{◌≤◌}
use Rattle.rows.specs.View.{no_row, values_of}
use Rattle.row_change.proofs.SweepLaws.{Sift}
use Rattle.row_change.proofs.sifting.sifted.Given as goal

abbrev pub invariant-loop-i : goal.invariant-loop-i
invariant-loop-i l =
    record { low : l.i ≤ l.r.count; sift : Sift (values_of l.r.columns) no_row l.want l.flags l.r.rows l.i l.rows l.found }
