-- `window::take` meets its contract: 23 is judged first, then 24, and the very window comes back with either.
use mathlib.Core.Path.{sym}
use mir.Syntax.{w32}
use Rattle.values.proofs.Ints.{back}
use Rattle.window.proofs.TakeLaws.{bad-window, bad_record, good_record, bounds}
use borrow.Author.Rules.{rules}
use Rattle.window.proofs.take.Goals as goal

pub returns-then-not-window_ok : goal.returns-then-not-window_ok
returns-then-not-window_ok c = bad-window c.args.window c.args.record.now (sym c.if-not-window_ok.ensures)

pub taken_int-requires : goal.taken_int-requires
taken_int-requires c = bounds c.args.window (sym c.if-not-window_ok.ensures)

pub returns-in-Some : goal.returns-in-Some
returns-in-Some c =
    good_record c.args.window (sym c.if-not-window_ok.ensures) _ c.taken_int.result c.in-Some.k _ (back w32 c.in-Some.k (search rules)) c.in-Some.ensures c.taken_int.ensures

pub returns-in-None : goal.returns-in-None
returns-in-None c = bad_record c.args.window (sym c.if-not-window_ok.ensures) _ (search rules)
