-- `window::readings::reading_in` meets its contract: a record of another length is refused.
use mathlib.Core.Path.{◌∙◌}
use Rattle.window.proofs.RecordLaws.{not_104}
use Rattle.window.proofs.readings.reading_in.Goals as goal

pub returns-in_err-as_array : goal.returns-in_err-as_array
returns-in_err-as_array c = c.from_residual.ensures ∙ not_104 _ _ c.in_err-as_array.ensures.cases
