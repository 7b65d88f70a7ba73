-- What is held is shorter than a record.
use Rattle.std.proofs.Common.{◌<◌}
use Rattle.netwindow.proofs.stream.print_stream.Given as goal

abbrev pub invariant-loop : goal.invariant-loop
invariant-loop g l = l.held < 104
