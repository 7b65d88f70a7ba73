-- `step_effect::saying::checked` meets its contract: as the check says. Assumes nothing.
use mathlib.Core.Path.{sym, ap}
use Rattle.nets.specs.Answers.{refusing, number_of, values_of, said_of}
use Rattle.nets.specs.Steps.{verdict}
use Rattle.step_effect.proofs.saying.checked.Goals as goal

pub returns : goal.returns
returns c = sym (ap (λ b. verdict refusing b (number_of c.args.why) (values_of c.args.why) (said_of c.args.then)) c.if-ok.false)
