-- `window_bytes::calls::window_take` meets its contract: bytes that are no state are refused, and what `take` answers is told.
use mathlib.Core.Path.{◌≡◌, ap, ◌∙◌}
use Rattle.std.specs.Prelude.{Result, Ok, Err, IsErr, IsErrAnd}
use Rattle.window_rules.specs.Windows.{refused}
use Rattle.window.specs.declared.figures.Figures.{Figures}
use Rattle.window.specs.declared.Refused.{Refused}
use Rattle.window.specs.WindowCalls.{answer_of, refusal_number}
use Rattle.window_bytes.proofs.CallLaws.{no_state-answer, no_state-bytes, next-few, answered, left_refused, left_taken}
use Rattle.window_bytes.proofs.calls.window_take.Goals as goal

-- the refusal is passed on as it is
passed_on : (r : Result Figures Refused) (e : Refused) → IsErr r → IsErrAnd r (λ x. x ≡ e) → answer_of r ≡ refused (refusal_number e)
passed_on (Ok f) e h k = cc
passed_on (Err x) e h k = ap (λ (y : Refused). refused (refusal_number y)) k

pub returns-then-not-is_state : goal.returns-then-not-is_state
returns-then-not-is_state c = (no_state-answer c.args.state.now c.args.record.now c.if-not-is_state.ensures, no_state-bytes c.args.state.now c.args.record.now c.if-not-is_state.ensures)

pub returns-in_err-figures : goal.returns-in_err-figures
returns-in_err-figures c =
    let h = ap answer_of c.in_err-figures.was in (
      passed_on c.from_residual.result c.in_err-figures.field-0.0 c.from_residual.ensures.0 c.from_residual.ensures.1 ∙ answered c.args.state.now c.if-not-is_state.ensures c.args.record.now _ c.take-taken.result c.window_in.ensures c.take-taken.ensures.gives _ h,
      left_refused c.args.state.now c.if-not-is_state.ensures c.args.record.now _ c.take-taken.result c.window_in.ensures c.take-taken.ensures.gives (refusal_number c.in_err-figures.field-0.0) h,
    )

pub put_window-requires : goal.put_window-requires
put_window-requires c = next-few c.args.state.now c.if-not-is_state.ensures c.args.record.now _ c.take-taken.result c.window_in.ensures c.take-taken.ensures.gives

pub returns : goal.returns
returns c =
    let f = c.in_ok-figures.figures in
    let h = ap answer_of c.in_ok-figures.was in (
      answered c.args.state.now c.if-not-is_state.ensures c.args.record.now _ c.take-taken.result c.window_in.ensures c.take-taken.ensures.gives _ h,
      left_taken c.args.state.now c.if-not-is_state.ensures c.args.record.now _ c.take-taken.result c.window_in.ensures c.take-taken.ensures.gives f.sum f.least f.largest _ h c.put_window.ensures,
    )
