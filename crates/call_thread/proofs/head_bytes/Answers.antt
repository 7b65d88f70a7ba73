-- `call_thread::head_bytes` meets its contract: its eight bytes. Assumes nothing.
use Rattle.call_thread.proofs.ThreadLaws.{head-is}
use Rattle.call_thread.proofs.head_bytes.Goals as goal

pub returns : goal.returns
returns c = search head-is
