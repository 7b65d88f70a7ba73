-- `call_hold::threads::count_records` meets its contract: the counts of its parts. Assumes nothing.
use native.Mathlib.Omega.{arith}
use Rattle.call_hold.proofs.HoldLaws.{thread-count}
use Rattle.call_hold.proofs.threads.count_records.Goals as goal

pub returns : goal.returns
returns c = let a = c.args in let h = thread-count a.holds a.saved a.t in (omega (arith, h), omega arith)
