-- The count and the columns first, then the rows in use.
use Rattle.std.proofs.Common.{◌≡◌, ◌≤◌, ◌<◌, ◌∙◌, ℕ, List, sym, length, rules}
use Rattle.std.specs.List.{list_all, slice_range}
use Rattle.values.proofs.Arrays.{long}
use Rattle.values.proofs.Firsts.{all_taken}
use Rattle.values.proofs.Sizes.{some_is}
use Rattle.rows.specs.declared.Relation.{Relation}
use Rattle.rows.specs.declared.Row.{Row}
use Rattle.rows.specs.View.{no_row, values_of, columns_of, relation_of}
use Rattle.net_parts.specs.SoundParts.{row_ok}
use Rattle.net_parts.proofs.Counts.{columns-count, rows-count, front}
use Rattle.net_parts.proofs.RowLaws.{relation-over, relation-judged}
use Rattle.net_parts.proofs.relations.relation_ok.Goals as goal

-- the rows in use, judged by the kinds in use
rows-are : (r : Relation) (ks : List ℕ) (us : List Row) → ks ≡ columns_of r.columns r.kinds → us ≡ slice_range r.rows 0 r.count → r.count ≤ length r.rows
    → list_all (λ x. row_ok ks (values_of (length ks) x)) us ≡ list_all (row_ok (relation_of r).columns) (relation_of r).rows
rows-are r ks us e q h =
    rw (e, q, columns-count r.columns r.kinds, front r.count r.rows)
    (sym (all_taken (values_of r.columns) no_row (row_ok (columns_of r.columns r.kinds)) r.count r.rows h))

pub returns-in_default : goal.returns-in_default
returns-in_default c =
    let r = c.args.r.now in
    let sixteen : length r.rows ≡ 16 = search (long, rules) in
    let over : 16 < r.count = search rules in
    relation-over (relation_of r) (rows-count r) over

pub column_kinds-requires : goal.column_kinds-requires
column_kinds-requires c =
    let r = c.args.r.now in
    some_is 4 _ (columns-count r.columns r.kinds) c.columns_ok.ensures c.if-columns_ok.true

pub returns-then-columns_ok : goal.returns-then-columns_ok
returns-then-columns_ok c =
    let r = c.args.r.now in
    let l = c.in-Some.ensures.lookup.0 in
    let sixteen : length r.rows ≡ 16 = search (long, rules) in
    let few : r.count ≤ 16 = search rules in
    relation-judged (relation_of r) (rows-count r) few c.columns_ok.ensures c.if-columns_ok.true
    (c.rows_ok.ensures ∙ rows-are r c.column_kinds.result.now c.in-Some.rows.now c.column_kinds.ensures l.2 l.1)
