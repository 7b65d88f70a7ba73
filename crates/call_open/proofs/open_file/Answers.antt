-- `call_open::open_file` meets its contract: an odd number of bytes is refused, and the rest is for loading to say. Assumes nothing.
use Rattle.std.proofs.lemmas.Result.{err_from_is_err_and}
use Rattle.call_rules.proofs.CallLaws.{opens-odd, opens_fault, opens_net}
use Rattle.call_open.proofs.open_file.Goals as goal

pub returns-then-picks-ne0 : goal.returns-then-picks-ne0
returns-then-picks-ne0 c = opens-odd _ _ c.if-picks-ne0.true

pub returns-in_err-loaded : goal.returns-in_err-loaded
returns-in_err-loaded c =
    let y = err_from_is_err_and c.from_residual.result c.from_residual.ensures.1 in
    rw (y.1, y.2) (opens_fault c.args.file.now c.args.picks.now c.load-loaded.result c.in_err-loaded.field-0.0 c.if-picks-ne0.false c.load-loaded.ensures c.in_err-loaded.was)

pub returns : goal.returns
returns c = opens_net _ _ c.load-loaded.result c.if-picks-ne0.false c.load-loaded.ensures c.in_ok-loaded.was
