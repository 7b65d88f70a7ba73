-- `call_thread::thread_bytes` meets its contract: two adjacent parts fill the bytes. Assumes nothing.
use mathlib.Core.Path.{refl, ◌∙◌}
use lib.ListN.{replicate}
use Rattle.call_thread.proofs.ThreadLaws.{thread-parts}
use Rattle.call_thread.proofs.thread_bytes.Goals as goal

pub returns : goal.returns
returns c =
    thread-parts c.args.t c.top_frame-f.result (replicate 24 0) _ _ c.requires.some refl c.top_frame-f.ensures (c.copy_from_slice.ensures.after ∙ c.head_bytes.ensures) (c.copy_from_slice-2.ensures.after ∙ c.visit_bytes.ensures)
