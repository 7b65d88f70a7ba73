-- The rows, relations, templates and selectors of the model that the code's structs stand for.
use Rattle.std.specs.Prelude.{ℕ, ◌≤◌, ◌≡◌, List, [], pos, None}
use Rattle.values.specs.declared.Value.TheVariants.{Int}
use Rattle.values.specs.declared.Operand.{Operand}
use Rattle.values.specs.declared.Operand.TheVariants.{Absent}
use Rattle.values.specs.Operands.{Got}
use Rattle.values.specs.Lists.{firsts}
use Rattle.values.specs.declared.Value.{Value}
use Rattle.rows.specs.declared.Row.{Row}
use Rattle.rows.specs.declared.Relation.{Relation}
use Rattle.rows.specs.declared.Operands.{Operands}
use Rattle.rows.specs.declared.Selector.{Selector}
use Rattle.rows.specs.declared.Draft.{Draft}
use Rattle.rows.specs.Relations as M

-- ── what the logic reads past an array's end ──

abbrev pub no_cell : Value
no_cell = (Int (pos 0))

abbrev pub no_row : Row
no_row = record { cells = [] }

abbrev pub no_field : Operand
no_field = Absent

-- ── views ──

-- a row's first `n` values
abbrev pub values_of : ℕ → Row → M.Row
values_of n r = firsts (λ (v : Value). v) no_cell n r.cells

-- the first `n` kinds
abbrev pub columns_of : ℕ → List ℕ → M.Columns
columns_of n ks = firsts (λ (k : ℕ). k) 0 n ks

-- the first `n` rows of an array, of `w` columns each
abbrev pub rows_of : ℕ → ℕ → List Row → List M.Row
rows_of w n rs = firsts (values_of w) no_row n rs

abbrev pub relation_of : Relation → M.Relation
relation_of r = record { columns = columns_of r.columns r.kinds; rows = rows_of r.columns r.count r.rows }

abbrev pub operands_of : Operands → List Operand
operands_of t = firsts (λ (o : Operand). o) no_field t.count t.fields

abbrev pub selector_of : Selector → M.Selector
selector_of s = record { template = operands_of s.template; test = s.test; left = s.left; right = s.right }

-- ── counts within the arrays: no invariants of the structs, since nets with any bytes are handed in from outside ──

pub record Shaped (r : Relation) : Type 0 where
  pub columns : r.columns ≤ 4
  pub count : r.count ≤ 16

pub record Short (t : Operands) : Type 0 where
  pub count : t.count ≤ 4

-- a selector whose template is as long as the relation's columns, all within their arrays
pub record Ready (r : Relation) (s : Selector) : Type 0 where
  pub columns : r.columns ≤ 4
  pub count : r.count ≤ 16
  pub long : s.template.count ≡ r.columns

-- what a draft holds
abbrev pub no_slot : Got
no_slot = None

abbrev pub draft_of : Draft → List Got
draft_of d = firsts (λ (g : Got). g) no_slot d.count d.slots
