-- `step_loop::opened` meets its contract: the row's flag is cleared, and T's formals bind to the row.
use mathlib.Core.Path.{refl, ap₂, ◌∙◌}
use native.Mathlib.Omega.{arith}
use Rattle.rows.specs.Matching.{row_vars}
use Rattle.rows.specs.View.{operands_of}
use Rattle.step_loop.proofs.MarkLaws.{marked_clear}
use Rattle.step_loop.proofs.RowLaws.{row_at}
use Rattle.step_loop.proofs.opened.Goals as goal

pub returns : goal.returns
returns c =
    let a = c.args in
    record {
      visit = marked_clear a.visit 0 a.row a.row (omega arith);
      vars = c.bind_row.ensures ∙ ap₂ (row_vars a.vars) c.used.ensures (c.values.ensures ∙ row_at a.source refl c.requires.3);
    }
