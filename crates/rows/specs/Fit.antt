-- What a tuple t gives, and when it fits columns.
use Rattle.std.specs.Prelude.{ℕ, Bool, false, List, map, eqb, None, Some}
use Rattle.values.specs.declared.Operand.{Operand}
use Rattle.values.specs.Operands.{Got}
use Rattle.values.specs.Lists.{agree}
use Rattle.std.specs.List.{list_all}
use Rattle.values.specs.Values.{kind_of}
use Rattle.values.specs.Operands.{Vars, eval}
use Rattle.rows.specs.Relations.{Row, Columns, Relation}

-- what a t gives: a value or nothing for each operand
abbrev pub Draft : Type 0
Draft = List Got

unfoldable pub draft : Vars → List Operand → Draft
draft e t = map (eval e) t

abbrev pub of_kind : ℕ → Got → Bool
of_kind c None = false
of_kind c (Some v) = eqb c (kind_of v)

-- as many values as columns, of those kinds
abbrev pub fits : Columns → Draft → Bool
fits cs d = agree of_kind cs d

abbrev pub fits_row : Columns → Row → Bool
fits_row cs r = fits cs (map Some r)

-- each row fits
abbrev pub relation_fits : Relation → Bool
relation_fits r = list_all (fits_row r.columns) r.rows

abbrev pub same_columns : Columns → Columns → Bool
same_columns cs ds = agree eqb cs ds
