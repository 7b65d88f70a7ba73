-- `load_walk::contents::content_with` meets its contract: check 7 as the draft fits, then check 8 by the count; the draft that fits is as long as the columns, and gives the row.
use Prim.Native.Nat.{ℕ, ◌<◌}
use mathlib.Core.Path.{◌≡◌, refl, sym, ◌∙◌}
use mathlib.Core.Bool.{Bool, true}
use mathlib.Core.List.{[], ◌∷◌, ◌++◌}
use lib.Dec.{T, ltb}
use lib.ListN.{length}
use borrow.Author.Tests.{not-false, lt-ltb}
use Rattle.std.specs.Prelude.{None}
use Rattle.values.specs.Operands.{Got}
use Rattle.std.specs.List.{list_all}
use Rattle.values.specs.Operands.{is_got, values_in}
use Rattle.values.proofs.Bools.{T_of}
use Rattle.values.proofs.Firsts.{length-firsts}
use Rattle.rows.specs.declared.Draft.{Draft}
use Rattle.rows.specs.declared.Relation.{Relation}
use Rattle.rows.specs.declared.Row.{Row}
use Rattle.rows.specs.Fit.{fits}
use Rattle.rows.specs.View.{no_row, no_slot, values_of, relation_of, draft_of}
use Rattle.row_change.specs.ChangeContracts.{Holds}
use Rattle.row_change.proofs.Prepared.{fits-long, fits-got, row-given}
use Rattle.nets.specs.Steps.{check}
use Rattle.load_walk.specs.Walking.{first_fault}
use Rattle.load_walk.proofs.contents.content_with.Goals as goal

module _ (r : Relation) (d : Draft) (b : Bool) (e : b ≡ fits (relation_of r).columns (draft_of d)) (h : b ≡ true) where
  counted : length (relation_of r).rows ≡ r.count
  counted = length-firsts (values_of r.columns) no_row r.count r.rows

  fine : (i : ℕ) → r.count < 16 → None ≡ first_fault i (check 7 (fits (relation_of r).columns (draft_of d)) ∷ check 8 (ltb (length (relation_of r).rows) 16) ∷ [])
  fine i l = rw (sym e, h, counted, lt-ltb r.count 16 l)

  module _ (row : Row) (made : T (list_all is_got (draft_of d)) → values_of d.count row ≡ values_in (draft_of d)) where
    fit : T (fits (relation_of r).columns (draft_of d))
    fit = T_of _ (sym e ∙ h)

    long : d.count ≡ r.columns
    long =
        sym (length-firsts (λ (g : Got). g) no_slot d.count d.slots)
        ∙ sym (fits-long (relation_of r).columns (draft_of d) fit)
        ∙ length-firsts (λ (k : ℕ). k) 0 r.columns r.kinds

    the_row : values_of r.columns row ≡ values_in (draft_of d)
    the_row = row-given d row refl long (fits-got (relation_of r).columns (draft_of d) fit) made

    pushed : (o : Relation) → Holds o (relation_of r).columns ((relation_of r).rows ++ (values_of r.columns row ∷ [])) →
        Holds o (relation_of r).columns ((relation_of r).rows ++ (values_in (draft_of d) ∷ []))
    pushed o h = rw (← the_row) h

pub returns-clause-fault : goal.returns-clause-fault
returns-clause-fault c = let e = rw (c.column_kinds.ensures, c.given.ensures) at c.fits_columns.ensures in search (fine, not-false)

pub returns-clause-row : goal.returns-clause-row
returns-clause-row c = let e = rw (c.column_kinds.ensures, c.given.ensures) at c.fits_columns.ensures in search (pushed, not-false)
