-- `window_bytes::calls::window_begin` meets its contract: an accepted beginning is put, a refused one leaves the bytes.
use mathlib.Core.Path.{◌≡◌, refl, sym, ap, ◌∙◌}
use Rattle.std.specs.Prelude.{Result, Ok, Err, IsErr, ⊤}
use Rattle.window_rules.specs.Windows.{begin_number}
use Rattle.window.specs.declared.BadWidth.{BadWidth}
use Rattle.window.specs.WindowCalls.{beginning_number}
use Rattle.window_bytes.proofs.CallLaws.{begun_put, begun_refused}
use Rattle.window_bytes.proofs.calls.window_begin.Goals as goal

refused-number : (r : Result ⊤ BadWidth) → IsErr r → beginning_number r ≡ 23
refused-number (Ok u) h = cc
refused-number (Err e) h = refl

pub returns-in_err-begun : goal.returns-in_err-begun
returns-in_err-begun c =
    let n : 23 ≡ begin_number c.args.width = sym (ap beginning_number c.in_err-begun.was) ∙ c.begin-begun.ensures.number in
    (refused-number c.from_residual.result c.from_residual.ensures.0 ∙ n, begun_refused c.args.width c.args.column c.args.state.now n)

pub returns : goal.returns
returns c =
    let n : 0 ≡ begin_number c.args.width = sym (ap beginning_number c.in_ok-begun.was) ∙ c.begin-begun.ensures.number in
    (n, begun_put c.args.width c.args.column c.args.state.now _ _ n c.begin-begun.ensures.window c.put_window.ensures)
