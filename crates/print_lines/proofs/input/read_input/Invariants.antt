-- Each try that is used up reads as much as the buffer holds at most.
use Rattle.std.proofs.Common.{◌≤◌, ◌*◌}
use Rattle.print_lines.proofs.input.read_input.Given as goal

abbrev pub invariant-loop-i : goal.invariant-loop-i
invariant-loop-i g l = l.read ≤ l._i * 65536
