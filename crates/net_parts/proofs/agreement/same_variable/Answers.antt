-- Two that are bound, by their columns and then their rows.
use Rattle.std.proofs.Common.{◌≡◌, true, Bool, ℕ, List, map, length, sym, ap, ap₂, ◌∙◌}
use lib.Dec.{eqb, eqb→eq}
use Rattle.values.specs.Lists.{agree}
use Rattle.values.specs.Values.{same_row}
use Rattle.values.proofs.AgreeLaws.{agree_eq}
use Rattle.values.proofs.Bools.{T_of, and-go}
use Rattle.rows.specs.Fit.{same_columns}
use Rattle.rows.specs.View.{values_of, columns_of}
use Rattle.net_parts.proofs.Counts.{columns-count}
use Rattle.net_parts.proofs.RowLaws.{relation-shaped}
use Rattle.net_parts.proofs.agreement.same_variable.Goals as goal

-- equal columns are equally many
equally-many : (m n : ℕ) (ks js : List ℕ) {t : Bool} → t ≡ same_columns (columns_of m ks) (columns_of n js) → t ≡ true → m ≡ n
equally-many m n ks js e h =
    sym (columns-count m ks)
    ∙ ap length (agree_eq eqb eqb→eq (columns_of m ks) (columns_of n js) (T_of (same_columns (columns_of m ks) (columns_of n js)) (sym e ∙ h)))
    ∙ columns-count n js

pub column_kinds-requires : goal.column_kinds-requires
column_kinds-requires c = (relation-shaped c.in-Some-Some.r (rw c.in-Some-Some.is-0 at c.requires.0)).columns

pub column_kinds-requires-in-Some-Some : goal.column_kinds-requires-in-Some-Some
column_kinds-requires-in-Some-Some c = (relation-shaped c.in-Some-Some.s (rw c.in-Some-Some.is-1 at c.requires.1)).columns

pub used-requires : goal.used-requires
used-requires c = (relation-shaped c.in-Some-Some.r (rw c.in-Some-Some.is-0 at c.requires.0)).count

pub used-requires-then-same_columns : goal.used-requires-then-same_columns
used-requires-then-same_columns c = (relation-shaped c.in-Some-Some.s (rw c.in-Some-Some.is-1 at c.requires.1)).count

pub same_rows-requires : goal.same_rows-requires
same_rows-requires c = (relation-shaped c.in-Some-Some.r (rw c.in-Some-Some.is-0 at c.requires.0)).columns

pub returns-then-same_columns : goal.returns-then-same_columns
returns-then-same_columns c =
    let r = c.in-Some-Some.r in
    let s = c.in-Some-Some.s in
    let e : c.same_columns.result ≡ same_columns (columns_of r.columns r.kinds) (columns_of s.columns s.kinds) = rw (c.column_kinds.ensures, c.column_kinds-in-Some-Some.ensures) at c.same_columns.ensures in
    let w : r.columns ≡ s.columns = equally-many r.columns s.columns r.kinds s.kinds e c.if-same_columns.true in
    rw (c.in-Some-Some.is-0, c.in-Some-Some.is-1)
    (and-go e c.if-same_columns.true
    (c.same_rows.ensures ∙ ap₂ (agree same_row) c.used.ensures.rows (ap (λ (n : ℕ). map (values_of n) c.used-then-same_columns.result.now) w ∙ c.used-then-same_columns.ensures.rows)))
