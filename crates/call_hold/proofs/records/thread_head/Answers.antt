-- `call_hold::records::thread_head` meets its contract: the start alone. Assumes nothing.
use Rattle.call_rules.specs.Moments.{thread_head}
use Rattle.call_hold.proofs.records.thread_head.Goals as goal

pub returns : goal.returns
unfolding thread_head
returns c = c.started.ensures
