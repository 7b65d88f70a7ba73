-- `window::taken_int` meets its contract: the figures are those of the Ints in use.
use native.Mathlib.Omega.{arith}
use mathlib.Core.Path.{◌≡◌}
use lib.ListN.{length}
use mir.Syntax.{w32}
use Rattle.values.proofs.Ints.{back}
use Rattle.window.proofs.TakeLaws.{taken_some}
use borrow.Author.Rules.{rules}
use Rattle.window.proofs.taken_int.Goals as goal

pub returns : goal.returns
returns c =
    let n = c.with_int-next.result in
    let l : length n.ints ≡ 16 = search rules in
    taken_some c.args.window n c.figures_of.result c.args.k _ (back w32 c.args.k c.ranges.k) (omega arith) c.with_int-next.ensures.0 c.figures_of.ensures
