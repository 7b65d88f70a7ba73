-- Rows and relations as lists: what the rules read. `Test` and `Function` are the code's own types.
use Rattle.std.specs.Prelude.{ℕ, List, []}
use Rattle.values.specs.declared.Value.{Value}
use Rattle.values.specs.declared.Operand.{Operand}
use Rattle.rows.specs.declared.Test.{Test}

abbrev pub Row : Type 0
Row = List Value

-- column kinds: 1 Int, 2 Text, 3 Loc
abbrev pub Columns : Type 0
Columns = List ℕ

-- the content of a table or of a table variable
pub record Relation : Type 0 where
  pub columns : Columns
  pub rows : List Row

abbrev pub no_relation : Relation
no_relation = record { columns = []; rows = [] }

-- which rows a step speaks of: a template T, and a predicate on two operands
pub record Selector : Type 0 where
  pub template : List Operand
  pub test : Test
  pub left : Operand
  pub right : Operand
