-- `window::readings::record_int` meets its contract: each test is one of check 24.
use mathlib.Core.Path.{◌∙◌}
use borrow.Author.Rules.{rules}
use Rattle.window.proofs.RecordLaws.{not-row, wrong_form, right-form}
use Rattle.window.proofs.readings.record_int.Goals as goal

pub returns-then-r-ne-ROW : goal.returns-then-r-ne-ROW
returns-then-r-ne-ROW c = search not-row

pub returns-in_err-row_read : goal.returns-in_err-row_read
returns-in_err-row_read c = c.from_residual.ensures ∙ wrong_form c.args.column c.args.r.now (search rules) (search rules) c.in_err-row_read.ensures.0

pub returns : goal.returns
returns c = right-form c.args.column c.args.r.now (search rules) (search rules) c.in_ok-row_read.field-0 _ c.in_ok-row_read.ensures.0 c.in_ok-row_read.ensures.1.0 c.draft_int.ensures
