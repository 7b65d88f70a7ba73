-- `page_lines::cells::sum_cell` meets its contract: the sum of an Int column, which always has room.
use Prim.Native.Nat.{ℕ, ◌+◌, ◌≤◌, ◌<◌}
use mathlib.Core.Path.{◌≡◌, sym, ap, ◌∙◌}
use mathlib.Core.List.{List, ◌++◌, map}
use native.Mathlib.Omega.{arith}
use lib.Dec.{T, eqb}
use lib.IntN.{ℤ}
use lib.ListN.{length, get_or}
use mir.Syntax.{w64}
use mir.Val.{SFits, of_z, to_z}
use borrow.Author.Rules.{rules, sfits_of}
use borrow.Author.Tests.{eq-eqb}
use Rattle.values.proofs.Bools.{T_of}
use Rattle.values.proofs.Ints.{back}
use Rattle.value_decimal.specs.Decimals.{signed, blanks}
use Rattle.rows.specs.declared.Relation.{Relation}
use Rattle.rows.specs.declared.Row.{Row}
use Rattle.rows.specs.View.{columns_of, values_of, relation_of}
use Rattle.row_change.specs.Aggregates.{column, total}
use Rattle.row_aggregate.proofs.Columns.{column-there}
use Rattle.nets.specs.Sound.{rows_ok}
use Rattle.page_rules.specs.Pages.{sum_cell}
use Rattle.page_lines.proofs.CellLaws.{right_filled}
use Rattle.page_lines.proofs.SumLaws.{few_in_sum, sum-there, sum-missing}
use Rattle.page_lines.proofs.cells.sum_cell.Goals as goal

-- z is the column's sum, as the machine has it
module _ (o : List ℕ) (r : Relation) (i : ℕ) (z : ℤ) (p : SFits w64 z) (e : z ≡ total (column i (relation_of r).rows)) (l : length o ≡ 13) where
  held : to_z w64 (of_z w64 z) ≡ total (column i (relation_of r).rows)
  held = back w64 z p ∙ e

  sum_fits : T (rows_ok (relation_of r).rows) → length (signed (to_z w64 (of_z w64 z))) ≤ length o
  sum_fits h = rw held (omega (arith, few_in_sum i (relation_of r).rows h))

  summed : (k : ℕ) (out : List ℕ) (n : ℕ) → k ≡ get_or (relation_of r).columns i 0 → k ≡ 1 → out ≡ blanks n ++ signed (to_z w64 (of_z w64 z)) → n + length (signed (to_z w64 (of_z w64 z))) ≡ length o → out ≡ sum_cell (relation_of r) i
  summed k out n q t f h =
      right_filled out (signed (total (column i (relation_of r).rows))) o n l (f ∙ ap (λ (y : ℤ). blanks n ++ signed y) held) (ap (λ (y : ℤ). n + length (signed y)) (sym held) ∙ h)
      ∙ sym (sum-there (relation_of r) i (sym q ∙ t))

blank : (r : Relation) (i k : ℕ) → k ≡ get_or (relation_of r).columns i 0 → (k ≡ 1 → ⊥) → blanks 13 ≡ sum_cell (relation_of r) i
blank r i k q t = sym (sum-missing (relation_of r) i (λ h. t (q ∙ h)))

-- an Int column is there
there : (r : Relation) (i k : ℕ) → k ≡ get_or (relation_of r).columns i 0 → k ≡ 1 → i < r.columns
there r i k q t = column-there i r.columns r.kinds (T_of (eqb (get_or (relation_of r).columns i 0) 1) (eq-eqb (get_or (relation_of r).columns i 0) 1 (sym q ∙ t)))

-- its sum over the rows in use
told : (r : Relation) (i k : ℕ) (us : List Row) {z : ℤ} → k ≡ get_or (relation_of r).columns i 0 → k ≡ 1 → ((w : ℕ) → i < w → z ≡ total (column i (map (values_of w) us))) →
    map (values_of r.columns) us ≡ (relation_of r).rows → z ≡ total (column i (relation_of r).rows)
told r i k us q t sum rows = sum r.columns (there r i k q t) ∙ ap (λ l. total (column i l)) rows

-- the kind, read off the columns in use
kind-is : (r : Relation) (i : ℕ) {k : ℕ} {ks : List ℕ} → k ≡ get_or ks i 0 → ks ≡ columns_of r.columns r.kinds → k ≡ get_or (relation_of r).columns i 0
kind-is r i e q = e ∙ ap (λ (l : List ℕ). get_or l i 0) q

pub total_of-requires : goal.total_of-requires
total_of-requires c = omega (arith, c.used.ensures.count, c.requires.1.count)

pub put_signed-requires : goal.put_signed-requires
put_signed-requires c =
    let sum = told c.args.r c.args.i c.kind_at.result c.used.result.now (kind-is c.args.r c.args.i c.kind_at.ensures c.column_kinds.ensures) c.if-kind_at-ne1.false c.total_of.ensures c.used.ensures.rows in
    search (sum_fits, sfits_of, sum)

pub returns-then-kind_at-ne1 : goal.returns-then-kind_at-ne1
returns-then-kind_at-ne1 c = blank c.args.r c.args.i c.kind_at.result (kind-is c.args.r c.args.i c.kind_at.ensures c.column_kinds.ensures) c.if-kind_at-ne1.true

pub returns : goal.returns
returns c =
    let sum = told c.args.r c.args.i c.kind_at.result c.used.result.now (kind-is c.args.r c.args.i c.kind_at.ensures c.column_kinds.ensures) c.if-kind_at-ne1.false c.total_of.ensures c.used.ensures.rows in
    let kind = kind-is c.args.r c.args.i c.kind_at.ensures c.column_kinds.ensures in
    search (summed, sfits_of, sum, kind)
