-- Templates, predicates, and the rows that match T and satisfy the predicate.
use Rattle.std.specs.Prelude.{ℕ, Bool, true, false, not, ◌&&◌, ◌||◌, List, map, Some, None, is_some}
use Rattle.std.specs.declared.cmp.Ordering.TheVariants as O
use Rattle.values.specs.declared.Operand.{Operand}
use Rattle.values.specs.declared.Value.{Value}
use Rattle.values.specs.Values.{Order}
use Rattle.values.specs.Operands.{Got}
use Rattle.values.specs.Lists.{agree, looked_at, filter}
use Rattle.values.specs.Operands.{Vars, eval, compared, formal_of, bind}
use Rattle.rows.specs.declared.Test.{Test}
use Rattle.rows.specs.declared.Test.TheVariants.{Always, Equal, Unequal, Less, AtMost}
use Rattle.rows.specs.Relations.{Row, Selector}

abbrev pub is_same : Order → Bool
is_same None = false
is_same (Some O.Less) = false
is_same (Some O.Equal) = true
is_same (Some O.Greater) = false

-- ── matching ──

-- a formal matches anything; another operand an equal value; one with no value nothing
abbrev pub matches1 : Vars → Operand → Got → Bool
matches1 e o g = is_some (formal_of o) || is_same (compared (eval e o) g)

-- a field of T and the value that a row has there
abbrev pub field_matches : Vars → Operand → Value → Bool
field_matches e o v = matches1 e o (Some v)

-- a template matches a row, as long as it, place by place. Its variables are the thread's own, also where one of its formals has the same number
unfoldable pub matches : Vars → List Operand → Row → Bool
matches e t r = agree (field_matches e) t r

-- how many fields are looked at, from the first on: up to and with the first that does not match, else all. A formal is looked at, too, and an operand with no value;
-- of T and a row of another length those fields that both have
unfoldable pub looked : Vars → List Operand → Row → ℕ
looked e t r = looked_at (field_matches e) t r

-- the variables for one row: T's formals bound to its values
abbrev pub row_vars : Vars → List Operand → Row → Vars
row_vars e t r = bind t (map Some r) e

-- ── predicates ──

-- 0 true, 1 =, 2 ≠, 3 <, 4 ≤; with a missing value or unlike kinds false
abbrev pub agrees : Test → Order → Bool
agrees Always o = true
agrees Equal o = is_same o
agrees Unequal None = false
agrees Unequal (Some O.Less) = true
agrees Unequal (Some O.Equal) = false
agrees Unequal (Some O.Greater) = true
agrees Less None = false
agrees Less (Some O.Less) = true
agrees Less (Some O.Equal) = false
agrees Less (Some O.Greater) = false
agrees AtMost None = false
agrees AtMost (Some O.Less) = true
agrees AtMost (Some O.Equal) = true
agrees AtMost (Some O.Greater) = false

abbrev pub satisfies : Vars → Test → Operand → Operand → Bool
satisfies e p l r = agrees p (compared (eval e l) (eval e r))

-- ── the rows selected ──

-- the row matches T and satisfies the predicate, which sees T's formals bound to the row
unfoldable pub hits : Vars → Selector → Row → Bool
hits e s r = matches e s.template r && satisfies (row_vars e s.template r) s.test s.left s.right

abbrev pub selected : Vars → Selector → List Row → List Row
selected e s rs = filter (hits e s) rs

-- the rows left by a delete
abbrev pub unselected : Vars → Selector → List Row → List Row
unselected e s rs = filter (λ r. not (hits e s r)) rs
