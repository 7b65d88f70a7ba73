-- `step_loop::all_places` meets its contract: the flags below `i` are set, and no others.
use mathlib.Core.Path.{refl}
use native.Mathlib.Omega.{arith}
use borrow.Author.Rules.{rules}
use Rattle.values.proofs.FlagLaws.{flagged-starts, flagged-more}
use Rattle.step_loop.proofs.MarkLaws.{flagged-first}
use Rattle.step_loop.proofs.all_places.Goals as goal

pub loop-i-init : goal.loop-i-init
loop-i-init c = (flagged-starts _ 16, search rules)

pub loop-i-preserved : goal.loop-i-preserved
loop-i-preserved c = (flagged-more _ 16 c.loop-i.invariant.0 (omega (arith, c.loop-i-test.true, c.requires)) refl, search rules)

pub returns : goal.returns
returns c = flagged-first c.loop-i.invariant.0 (omega (arith, c.loop-i.invariant.1, c.loop-i-test.false)) c.requires
