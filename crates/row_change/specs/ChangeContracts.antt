-- What the functions on relations give back, part by part.
use Rattle.std.specs.Prelude.{ℕ, ◌≡◌, Bool, true, false, ◌&&◌, List, [], ◌∷◌, map, T, ltb, length, get_or, Option, Some, is_some}
use Rattle.std.specs.Bool.{beq}
use Rattle.values.specs.declared.Operand.{Operand}
use Rattle.values.specs.Lists.{keep, firsts}
use Rattle.std.specs.List.{list_all}
use Rattle.values.specs.Operands.{Got}
use Rattle.values.specs.Operands.{Vars, is_got, values_in}
use Rattle.rows.specs.declared.Row.{Row}
use Rattle.rows.specs.declared.Relation.{Relation}
use Rattle.rows.specs.declared.Term.{Term}
use Rattle.rows.specs.declared.Terms.{Terms}
use Rattle.rows.specs.declared.Plan.{Plan}
use Rattle.rows.specs.Relations as M
use Rattle.rows.specs.Fit.{fits}
use Rattle.rows.specs.View.{no_row, values_of, relation_of, Shaped}
use Rattle.rows.specs.Plans.{term_got, terms_in, plan_hits}
use Rattle.row_change.specs.declared.Pass.{Pass}
use Rattle.row_change.specs.declared.Pass.TheVariants.{Mark, Update, Select}
use Rattle.row_change.specs.declared.Swept.{Swept}
use Rattle.row_change.specs.Changes.{draft_for}

-- columns and rows that a relation stands for, within the arrays
pub record Holds (o : Relation) (cs : M.Columns) (rs : List M.Row) : Type 0 where
  pub columns : (relation_of o).columns ≡ cs
  pub rows : (relation_of o).rows ≡ rs
  pub shaped : Shaped o

-- what a plan's terms give for a row
abbrev pub given_by : Terms → Row → List Got
given_by t r = map (λ (x : Term). term_got x r.cells) (terms_in t)

-- ── one pass over the rows ──

-- a marked row gives way to a new one
abbrev pub replaces : Pass → Bool
replaces Mark = false
replaces Update = true
replaces Select = true

-- the rows that a pass marks: those that the plan selects; an update only where the new row fits
abbrev pub sweeps : Plan → Pass → Terms → M.Columns → Row → Bool
sweeps p Mark t ks r = plan_hits p r
sweeps p Update t ks r = plan_hits p r && fits ks (given_by t r)
sweeps p Select t ks r = plan_hits p r

-- one row: whether it is marked, and what then stands at its place
pub record JudgedRow (p : Plan) (s : Pass) (t : Terms) (ks : M.Columns) (r : Row) (o : Option Row) : Type 0 where
  pub marked : is_some o ≡ sweeps p s t ks r
  pub row : (new : Row) → o ≡ Some new → T (replaces s) → T (list_all is_got (given_by t r)) → values_of t.count new ≡ values_in (given_by t r)

-- of the first `m` rows those that `sweeps` says are marked; one that gives way to a new one has it at its place; rows that are not marked stay
pub record SweptIs (p : Plan) (s : Pass) (t : Terms) (ks : M.Columns) (m : ℕ) (rs : List Row) (o : Swept) : Type 0 where
  pub flags : (k : ℕ) → get_or o.flags k false ≡ (ltb k m && sweeps p s t ks (get_or rs k no_row))
  pub made : (k : ℕ) → T (get_or o.flags k false) → T (replaces s) → T (list_all is_got (given_by t (get_or rs k no_row))) →
      values_of t.count (get_or o.rows k no_row) ≡ values_in (given_by t (get_or rs k no_row))
  pub rest : (k : ℕ) → get_or o.flags k false ≡ false → get_or o.rows k no_row ≡ get_or rs k no_row

-- the first `n` marks
abbrev pub marks : ℕ → List Bool → List Bool
marks n fs = firsts (λ (b : Bool). b) false n fs

-- the elements whose mark is as wanted, in order
abbrev pub sift : {A : Type 0} → Bool → List Bool → List A → List A
sift w [] l = []
sift w (b ∷ bs) [] = []
sift w (b ∷ bs) (a ∷ l) = keep (beq b w) a (sift w bs l)

-- t gives a value for each of its components, whatever the row of T's length
pub record Complete (e : Vars) (t u : List Operand) : Type 0 where
  pub given : (r : M.Row) → length r ≡ length t → T (list_all is_got (draft_for e t u r))
