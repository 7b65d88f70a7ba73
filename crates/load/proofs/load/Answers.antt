-- `load::load` meets its contract: the net of what was read, or the first fault.
use mathlib.Core.Path.{sym, ap, ap₂, ◌∙◌}
use Rattle.std.specs.Result.{result_err}
use Rattle.nets.specs.View.{view}
use Rattle.files.specs.Engine.{first_picks}
use Rattle.files.specs.Loading.{accepted}
use Rattle.load.proofs.LoadCall.{accepted-is, refused-is}
use Rattle.load.proofs.load.Goals as goal

pub returns : goal.returns
returns c =
    let r = c.accepted.ensures in
    accepted-is _ _ (ap result_err r.0) (c.in-Ok.ensures _ ∙ sym (ap₂ accepted (ap view r.1) (ap₂ first_picks r.3 r.2)))

pub returns-in-Err : goal.returns-in-Err
returns-in-Err c = refused-is _ _ _ c.in-Err.ensures c.refused.ensures.0 c.refused.ensures.1 c.refused.ensures.2
