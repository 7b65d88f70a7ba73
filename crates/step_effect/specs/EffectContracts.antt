-- What the functions of a step that is no loop require and give back.
use Rattle.std.specs.Prelude.{ℕ, ◌≤◌, ◌≡◌, Bool, true, false, not, ◌&&◌, ◌⊎◌, List, [], ◌∷◌, map, T, eqb}
use Rattle.values.specs.Lists.{among, count, firsts}
use Rattle.values.specs.Operands.{Got}
use Rattle.rows.specs.declared.Relation as Code
use Rattle.rows.specs.Relations.{Row}
use Rattle.rows.specs.Matching.{hits, selected}
use Rattle.rows.specs.View.{no_row, values_of, columns_of, relation_of, operands_of, selector_of, Shaped, Short}
use Rattle.row_change.specs.Changes.{changes, updated, selection}
use Rattle.row_change.specs.Aggregates.{aggregated, column_fits}
use Rattle.row_change.specs.ChangeContracts.{Complete, marks, sift}
use Rattle.nets.specs.declared.Node.{Node}
use Rattle.step_effect.specs.declared.Judged.{Judged}
use Rattle.nets.specs.Nets.{Kind, code, is_select, reads_relation, is_loop}
use Rattle.nets.specs.View.{kind_at, node_of}
use Rattle.nets.specs.Scenes.{Parts}
use Rattle.nets.specs.Steps.{check16, room_by}

-- a kind of document 01 that is no loop
abbrev pub is_step : Kind → Bool
is_step k = not (eqb (code k) 0) && not (is_loop k)

-- the parts that the step reads
abbrev pub parts_of : Node → Code.Relation → Code.Relation → List Got → Parts
parts_of d content source vars = record { node = node_of d; content = relation_of content; source = relation_of source; vars = vars }

-- the table's content `r`, the source of rows `q` and the operand lists are within their arrays, a step that reads no table variable has the content as
-- its source, and a select's t gives a value for each component
pub record StepReady (d : Node) (r q : Code.Relation) (vs : List Got) : Type 0 where
  pub content : Shaped r
  pub source : Shaped q
  pub template : Short d.selector.template
  pub tuple : Short d.tuple
  pub own : reads_relation (kind_at d.kind) ≡ false → relation_of q ≡ relation_of r
  pub complete : T (is_select (kind_at d.kind)) → Complete vs (operands_of d.selector.template) (operands_of d.tuple)

-- the step changes the rows of a table that stays
abbrev pub puts_rows : Kind → Bool
puts_rows k = among (code k) (16 ∷ 17 ∷ 18 ∷ 21 ∷ [])

-- check 16 passed, and 20 for some number of tables
pub record Doing (d : Node) (r q : Code.Relation) (vs : List Got) : Type 0 where
  pub fits : T (check16 (parts_of d r q vs))
  pub tables : ℕ
  pub room : T (room_by (kind_at d.kind) (parts_of d r q vs) tables)

-- relation and operand lists are within their arrays: enough to judge rows, before check 12 is known to pass
pub record JudgeReady (d : Node) (q : Code.Relation) : Type 0 where
  pub source : Shaped q
  pub template : Short d.selector.template
  pub tuple : Short d.tuple

-- ── the rows judged ──

-- T is as long as the columns
abbrev pub Long : Node → Code.Relation → Type 0
Long d q = d.selector.template.count ≡ q.columns

-- the rows that T and the predicate select, and those that an update changes
abbrev pub hit_in : Node → List Got → Row → Bool
hit_in d vs = hits vs (selector_of d.selector)

abbrev pub changed_in : Node → Code.Relation → List Got → Row → Bool
changed_in d q vs = changes vs (selector_of d.selector) (operands_of d.tuple) (relation_of q).columns

-- what was judged, kind by kind
pub record JudgedIs (d : Node) (q : Code.Relation) (vs : List Got) (j : Judged) : Type 0 where
  pub short : j.columns ≤ 4
  pub hit : (d.kind ≡ 18) ⊎ (d.kind ≡ 22) → Long d q →
      (marks q.count j.flags ≡ map (hit_in d vs) (relation_of q).rows) × (count (λ (b : Bool). b) j.flags ≡ count (hit_in d vs) (relation_of q).rows)
  pub update : d.kind ≡ 21 → Long d q →
      (firsts (values_of q.columns) no_row q.count j.rows ≡ updated vs (selector_of d.selector) (operands_of d.tuple) (relation_of q).columns (relation_of q).rows)
      × (count (λ (b : Bool). b) j.flags ≡ count (changed_in d q vs) (relation_of q).rows)
  pub select : is_select (kind_at d.kind) ≡ true → Long d q → Complete vs (operands_of d.selector.template) (operands_of d.tuple) →
      (columns_of j.columns j.kinds ≡ (selection vs (selector_of d.selector) (operands_of d.tuple) (relation_of q)).columns)
      × (sift true (marks q.count j.flags) (firsts (values_of j.columns) no_row q.count j.rows) ≡ (selection vs (selector_of d.selector) (operands_of d.tuple) (relation_of q)).rows)
  pub result : d.kind ≡ 22 → Long d q → T (column_fits d.function d.column (relation_of q).columns) →
      j.result ≡ aggregated d.function d.column (selected vs (selector_of d.selector) (relation_of q).rows)
