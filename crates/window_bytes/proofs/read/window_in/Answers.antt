-- `window_bytes::read::window_in` meets its contract: each part is what the definition reads there.
use Rattle.window_bytes.proofs.ReadLaws.{window-is}
use Rattle.window_bytes.proofs.read.window_in.Goals as goal

pub returns : goal.returns
returns c = search window-is
