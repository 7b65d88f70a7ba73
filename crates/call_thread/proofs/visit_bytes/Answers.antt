-- `call_thread::visit_bytes` meets its contract: the flag of each place. Assumes nothing.
use mathlib.Core.Bool.{false}
use borrow.Author.Rules.{rules}
use Rattle.call_thread.proofs.ThreadLaws.{run-flags, loop-flags}
use Rattle.call_thread.proofs.visit_bytes.Goals as goal

pub returns-in-Run : goal.returns-in-Run
returns-in-Run c = run-flags c.args.f c.in-Run.field-0 c.in-Run.is

pub returns-in-Loop : goal.returns-in-Loop
returns-in-Loop c = loop-flags c.args.f c.in-Loop.field-0 c.map.result c.in-Loop.is (search rules) (λ i k. let a = (c.map.ensures.items.at i false 0 k).2.met in search rules)
