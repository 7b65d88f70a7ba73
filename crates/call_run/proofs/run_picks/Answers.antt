-- `call_run::run_picks` meets its contract: all picks carried out. Assumes nothing.
use mathlib.Core.Path.{◌≡◌, sym, subst}
use lib.Dec.{T}
use Rattle.nets.specs.declared.Net.{Net}
use Rattle.nets.specs.Sound.{sound}
use Rattle.nets.specs.Accounts.{after}
use Rattle.nets.specs.View.{view}
use Rattle.step_bytes.specs.PickBytes.{picks_in}
use Rattle.call_run.proofs.run_picks.Goals as goal

pub returns : goal.returns
returns c =
    let g = c.carry_out.ensures.0 in
    subst (λ (n : Net). (view n ≡ after (view c.args.start) (picks_in c.args.picks.now)) × T (sound (view n))) (sym c.left_by.ensures) (g.left, g.sound c.requires)
