-- An update replaces a row only by a draft that fits, so an updated row fits. Assumes nothing.
use mathlib.Core.Bool.{Bool, true, false, cond}
use mathlib.Core.List.{List}
use lib.Dec.{T}
use Rattle.values.specs.declared.Operand.{Operand}
use Rattle.values.specs.Operands.{Vars}
use Rattle.values.proofs.Bools.{and_r}
use Rattle.rows.specs.Relations.{Row, Columns, Selector}
use Rattle.rows.specs.Matching.{hits}
use Rattle.rows.specs.Fit.{fits, fits_row}
use Rattle.rows.proofs.FitLaws.{fits-row}
use Rattle.row_change.specs.Changes.{draft_for, tuple_for, changes, renewed}

-- what an update leaves of a row that fits
pub renewed-fits : (e : Vars) (s : Selector) (u : List Operand) (cs : Columns) (r : Row) → T (fits_row cs r) → T (fits_row cs (renewed e s u cs r))
unfolding changes tuple_for
renewed-fits e s u cs r h = go (changes e s u cs r) (λ b. and_r (hits e s r) (fits cs (draft_for e s.template u r)) b)
  where
    go : (b : Bool) → (T b → T (fits cs (draft_for e s.template u r))) → T (fits_row cs (cond b (tuple_for e s.template u r) r))
    go true k = fits-row cs (draft_for e s.template u r) (k tt)
    go false k = h
