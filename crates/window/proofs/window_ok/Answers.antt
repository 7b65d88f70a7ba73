-- `window::window_ok` meets its contract: the Ints in use are as many as the count says.
use mathlib.Core.Path.{refl, sym}
use Rattle.window.proofs.TakeLaws.{judged}
use Rattle.window.proofs.window_ok.Goals as goal

pub returns-then-width_ok : goal.returns-then-width_ok
returns-then-width_ok c = rw (judged c.args.window, sym c.if-width_ok.ensures) refl
