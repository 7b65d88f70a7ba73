use Rattle.std.proofs.Common.{drop}
use Rattle.net_parts.proofs.MarkLaws.{Passed}
use Rattle.net_parts.proofs.lists.aliases_ok.Given as goal

abbrev pub invariant-loop-i : goal.invariant-loop-i
invariant-loop-i l = Passed l.seen (drop l.i l.aliases)
