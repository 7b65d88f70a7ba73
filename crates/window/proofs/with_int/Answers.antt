-- `window::with_int` meets its contract: with room the Int goes behind the others, else the oldest goes first.
use native.Mathlib.Omega.{arith}
use mathlib.Core.Path.{◌≡◌}
use lib.ListN.{length}
use mir.Syntax.{w32}
use Rattle.values.proofs.Ints.{back}
use Rattle.window.proofs.IntLaws.{oldest_gone}
use Rattle.window.proofs.SlideLaws.{with-room, with_none}
use borrow.Author.Rules.{rules}
use Rattle.window.proofs.with_int.Goals as goal

pub returns-then-count-window : goal.returns-then-count-window
returns-then-count-window c =
    let a = c.args in
    let n : length a.window.ints ≡ 16 = search rules in
    (with-room a.window a.k _ (back w32 a.k c.ranges.k) (search rules) (search rules), search rules, search rules)

pub returns-else-count-window : goal.returns-else-count-window
returns-else-count-window c =
    let a = c.args in
    let r = c.copy_within.new.self in
    let shift = oldest_gone a.window.count a.window.ints r (search rules) c.copy_within.ensures.by_index.0 in
    let n : length r ≡ 16 = search rules in
    (with_none a.window a.k _ (back w32 a.k c.ranges.k) r (search rules) (search rules) (omega arith) shift, search rules, search rules)
