-- `steps::count_if` meets its contract. Assumes nothing.
use mathlib.Core.Path.{sym, ap}
use mathlib.Core.Bool.{Bool, cond}
use native.Mathlib.Omega.{arith}
use Rattle.steps.proofs.count_if.Goals as goal

pub returns-then-sure : goal.returns-then-sure
returns-then-sure c = let n = c.args.count in (sym (ap (λ (b : Bool). cond b n 0) c.if-sure.true), omega arith)

pub returns : goal.returns
returns c = let n = c.args.count in (sym (ap (λ (b : Bool). cond b n 0) c.if-sure.false), omega arith)
