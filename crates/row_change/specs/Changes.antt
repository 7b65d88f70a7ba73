-- Updates and selects over any list of rows: each row is judged as it stood before.
use Rattle.std.specs.Prelude.{ℕ, Bool, cond, ◌&&◌, List, map, get_or}
use Rattle.values.specs.declared.Operand.{Operand}
use Rattle.values.specs.declared.Operand.TheVariants.{Absent, ConstInt, ConstText, ConstLoc, Var, Plus, Formal}
use Rattle.values.specs.Operands.{Vars, values_in, kind_in, bind}
use Rattle.rows.specs.Relations.{Row, Columns, Relation, Selector}
use Rattle.rows.specs.Matching.{row_vars, hits, selected}
use Rattle.rows.specs.Fit.{Draft, draft, fits}

-- what t gives for a row
abbrev pub draft_for : Vars → List Operand → List Operand → Row → Draft
draft_for e t u r = draft (row_vars e t r) u

-- the row that t gives for a row
unfoldable pub tuple_for : Vars → List Operand → List Operand → Row → Row
tuple_for e t u r = values_in (draft_for e t u r)

-- ── update ──

-- a row that is selected, and whose new t fits
unfoldable pub changes : Vars → Selector → List Operand → Columns → Row → Bool
changes e s u cs r = hits e s r && fits cs (draft_for e s.template u r)

-- it is replaced at its place; others stay
abbrev pub renewed : Vars → Selector → List Operand → Columns → Row → Row
renewed e s u cs r = cond (changes e s u cs r) (tuple_for e s.template u r) r

abbrev pub updated : Vars → Selector → List Operand → Columns → List Row → List Row
updated e s u cs rs = map (renewed e s u cs) rs

-- ── select ──

-- the kind of a component of t: the constant's, or the variable's, where a formal has its column's kind
abbrev pub column_for : List ℕ → Operand → ℕ
column_for ks Absent = 0
column_for ks (ConstInt i) = 1
column_for ks (ConstText t) = 2
column_for ks (ConstLoc l) = 3
column_for ks (Var i) = get_or ks i 0
column_for ks (Plus i k) = 1
column_for ks (Formal i) = 0

-- the kinds of variables
abbrev pub kinds_of : Vars → List ℕ
kinds_of e = map kind_in e

unfoldable pub selected_columns : Vars → List Operand → List Operand → Columns → Columns
selected_columns e t u cs = map (column_for (bind t cs (kinds_of e))) u

-- one column for every component of t, one row of t for each selected row
abbrev pub selection : Vars → Selector → List Operand → Relation → Relation
selection e s u r =
    record {
      columns = selected_columns e s.template u r.columns;
      rows = map (tuple_for e s.template u) (selected e s r.rows);
    }
