-- `load_groups::contents::row_taken` meets its contract: check 4, then 7 and 8, of the values that the row's operands give.
use Prim.Native.Nat.{ℕ}
use mathlib.Core.Path.{◌≡◌, sym, ap, ◌∙◌}
use mathlib.Core.Bool.{true}
use mathlib.Core.List.{List, [], ◌∷◌, map}
use lib.Dec.{T, ltb}
use lib.ListN.{length}
use Rattle.std.specs.Prelude.{Option, Ok, Err, None, Some}
use Rattle.std.specs.Result.{result_err}
use Rattle.values.specs.Operands.{eval}
use Rattle.values.proofs.Bools.{and_l, and_r, T_of}
use Rattle.rows.specs.declared.Draft.{Draft}
use Rattle.rows.specs.Fit.{fits, fits_row}
use Rattle.rows.specs.View.{relation_of, draft_of}
use Rattle.nets.specs.declared.Table.{Table}
use Rattle.nets.specs.Sound.{operands_ok}
use Rattle.nets.specs.Steps.{check}
use Rattle.record_bytes.specs.Bytes.{part, operands_in}
use Rattle.record_bytes.specs.Decoding.{row_in, row_form}
use Rattle.files.specs.declared.Fault.{Fault}
use Rattle.load_walk.specs.Walking.{first_fault}
use Rattle.load_groups.proofs.RowLaws.{row_fits_lem}
use borrow.Author.Rules.{rules}
use Rattle.load_groups.proofs.contents.row_taken.Goals as goal

constants : (bs : List ℕ) → true ≡ row_form bs → T (operands_ok 3 (operands_in (part 56 88 bs)))
unfolding row_form
constants bs h =
    let k : T (row_form bs) = T_of (row_form bs) (sym h) in
    search (and_l, and_r) depth 10

module _ (t : Table) (bs : List ℕ) (d : Draft) (i : ℕ) (o : Option Fault) (h : true ≡ row_form bs) (given : draft_of d ≡ map (eval []) (operands_in (part 56 88 bs))) where
  judged : o ≡ first_fault i (check 7 (fits (relation_of t.content).columns (draft_of d)) ∷ check 8 (ltb (length (relation_of t.content).rows) 16) ∷ []) →
      o ≡ first_fault i (check 4 (row_form bs) ∷ check 7 (fits_row (relation_of t.content).columns (row_in (part 56 88 bs))) ∷ check 8 (ltb (length (relation_of t.content).rows) 16) ∷ [])
  judged z = rw (sym h, row_fits_lem (relation_of t.content).columns (part 56 88 bs) d given (constants bs h)) z

pub returns-in_err-content-clause-fault : goal.returns-in_err-content-clause-fault
returns-in_err-content-clause-fault c =
    let q : c.from_residual.result ≡ Err c.in_err-content.field-0.0 = search rules in
    let z : c.content_with.result ≡ Err c.in_err-content.field-0.0 = c.in_err-content.was in
    let w : Some c.in_err-content.field-0.0 ≡ result_err c.content_with.result = ap result_err (sym z) in
    rw q (judged c.args.t c.args.r.now c.in-Some.d _ _ c.in-Some.ensures.0 c.in-Some.ensures.1.0 (w ∙ c.content_with.ensures.fault))

pub returns-clause-fault : goal.returns-clause-fault
returns-clause-fault c =
    let z : c.content_with.result ≡ Ok c.in_ok-content.content = c.in_ok-content.was in
    let w : None ≡ result_err c.content_with.result = ap result_err (sym z) in
    judged c.args.t c.args.r.now c.in-Some.d _ _ c.in-Some.ensures.0 c.in-Some.ensures.1.0 (w ∙ c.content_with.ensures.fault)
