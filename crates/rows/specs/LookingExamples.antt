-- Rows looked at field by field, by computation: whether T matches, and how many fields were looked at.
use Rattle.std.specs.Prelude.{ℕ, ◌≡◌, refl, Bool, true, false, List, [], ◌∷◌, pos, None, Some}
use Rattle.values.specs.declared.Value.TheVariants.{Int, Text, Loc}
use Rattle.values.specs.declared.Operand.{Operand}
use Rattle.values.specs.declared.Operand.TheVariants.{ConstInt, ConstText, ConstLoc, Var, Plus, Formal}
use Rattle.values.specs.Values.{text_order}
use Rattle.values.specs.Operands.{Vars}
use Rattle.rows.specs.Relations.{Row}
use Rattle.rows.specs.Matching.{matches, looked}

-- to unfold this is to unfold all definitions of matching
opened : Unit {0}
unfolding matches looked text_order
opened = tt

-- what matching answers for T and a row
pub record Answers (e : Vars) (t : List Operand) (r : Row) (b : Bool) (n : ℕ) : Type 0 where
  pub matching : matches e t r ≡ b
  pub looking : looked e t r ≡ n

-- variable 0 is unbound, variable 1 is 37, variable 2 is a text
abbrev vars : Vars
vars = None ∷ Some (Int (pos 37)) ∷ Some (Text 0x52494731) ∷ []

-- the red shoes 001 of size 37, whatever their sales: "001 ", "red "
abbrev red37 : List Operand
red37 = ConstText 0x30303120 ∷ ConstText 0x72656420 ∷ ConstInt (pos 37) ∷ Formal 3 ∷ []

-- ── where the first field fails, no other is looked at; each further field is one more ──

pub fails-at_the_first : Answers vars red37 (Text 0x30303220 ∷ Text 0x72656420 ∷ Int (pos 37) ∷ Int (pos 5) ∷ []) false 1
unfolding opened
fails-at_the_first = record { matching = refl; looking = refl }

pub fails-at_the_second : Answers vars red37 (Text 0x30303120 ∷ Text 0x626c6163 ∷ Int (pos 37) ∷ Int (pos 5) ∷ []) false 2
unfolding opened
fails-at_the_second = record { matching = refl; looking = refl }

pub fails-at_the_third : Answers vars red37 (Text 0x30303120 ∷ Text 0x72656420 ∷ Int (pos 38) ∷ Int (pos 5) ∷ []) false 3
unfolding opened
fails-at_the_third = record { matching = refl; looking = refl }

-- a row that matches is looked at whole, and its last field is a formal
pub matches-whole : Answers vars red37 (Text 0x30303120 ∷ Text 0x72656420 ∷ Int (pos 37) ∷ Int (pos 5) ∷ []) true 4
unfolding opened
matches-whole = record { matching = refl; looking = refl }

-- "RED " is a text equal to "red "
pub letters_fold : Answers vars red37 (Text 0x30303120 ∷ Text 0x52454420 ∷ Int (pos 37) ∷ Int (pos 5) ∷ []) true 4
unfolding opened
letters_fold = record { matching = refl; looking = refl }

-- all four fields fail, and the row is left at the first
pub all_fail : Answers vars (ConstInt (pos 1) ∷ ConstInt (pos 2) ∷ ConstInt (pos 3) ∷ ConstInt (pos 4) ∷ []) (Int (pos 5) ∷ Int (pos 6) ∷ Int (pos 7) ∷ Int (pos 8) ∷ []) false 1
unfolding opened
all_fail = record { matching = refl; looking = refl }

-- as many are looked at as of a row that matches
pub fails-at_the_fourth : Answers vars (ConstInt (pos 1) ∷ ConstInt (pos 2) ∷ ConstInt (pos 3) ∷ ConstInt (pos 4) ∷ []) (Int (pos 1) ∷ Int (pos 2) ∷ Int (pos 3) ∷ Int (pos 5) ∷ []) false 4
unfolding opened
fails-at_the_fourth = record { matching = refl; looking = refl }

-- ── formals count ──

pub formals-before_the_failing : Answers vars (Formal 0 ∷ Formal 1 ∷ ConstInt (pos 3) ∷ Formal 2 ∷ []) (Int (pos 7) ∷ Int (pos 8) ∷ Int (pos 9) ∷ Int (pos 1) ∷ []) false 3
unfolding opened
formals-before_the_failing = record { matching = refl; looking = refl }

pub formals-alone : Answers vars (Formal 0 ∷ Formal 1 ∷ []) (Int (pos 7) ∷ Loc (record { 0 = 2 }) ∷ []) true 2
unfolding opened
formals-alone = record { matching = refl; looking = refl }

-- a formal binds nothing for the fields after it: variable 1 is still 37
pub own_variables : Answers vars (Formal 1 ∷ Var 1 ∷ []) (Int (pos 5) ∷ Int (pos 37) ∷ []) true 2
unfolding opened
own_variables = record { matching = refl; looking = refl }

-- ── variables, sums and localities match equal values ──

pub variable_equal : Answers vars (Var 1 ∷ []) (Int (pos 37) ∷ []) true 1
unfolding opened
variable_equal = record { matching = refl; looking = refl }

pub variable-other : Answers vars (Var 1 ∷ []) (Int (pos 38) ∷ []) false 1
unfolding opened
variable-other = record { matching = refl; looking = refl }

pub sum_equal : Answers vars (Plus 1 (pos 3) ∷ []) (Int (pos 40) ∷ []) true 1
unfolding opened
sum_equal = record { matching = refl; looking = refl }

pub sum-other : Answers vars (Plus 1 (pos 3) ∷ Formal 0 ∷ []) (Int (pos 41) ∷ Int (pos 1) ∷ []) false 1
unfolding opened
sum-other = record { matching = refl; looking = refl }

pub locality_equal : Answers vars (ConstLoc (record { 0 = 3 }) ∷ Formal 0 ∷ []) (Loc (record { 0 = 3 }) ∷ Int (pos 1) ∷ []) true 2
unfolding opened
locality_equal = record { matching = refl; looking = refl }

pub locality-other : Answers vars (ConstLoc (record { 0 = 3 }) ∷ Formal 0 ∷ []) (Loc (record { 0 = 4 }) ∷ Int (pos 1) ∷ []) false 1
unfolding opened
locality-other = record { matching = refl; looking = refl }

-- ── an operand with no value matches nothing, and counts ──

pub unbound : Answers vars (Var 0 ∷ Formal 2 ∷ []) (Int (pos 5) ∷ Int (pos 6) ∷ []) false 1
unfolding opened
unbound = record { matching = refl; looking = refl }

-- 37 + 2147483611 is 2147483648, which is no Int
pub outside_32_bits : Answers vars (Formal 2 ∷ Plus 1 (pos 2147483611) ∷ []) (Int (pos 5) ∷ Int (pos 2147483647) ∷ []) false 2
unfolding opened
outside_32_bits = record { matching = refl; looking = refl }

-- a field that fails before it decides
pub unbound-behind_the_failing : Answers vars (ConstInt (pos 3) ∷ Var 0 ∷ []) (Int (pos 5) ∷ Int (pos 6) ∷ []) false 1
unfolding opened
unbound-behind_the_failing = record { matching = refl; looking = refl }

pub unbound-sum : Answers vars (Formal 3 ∷ Plus 0 (pos 1) ∷ Formal 4 ∷ []) (Int (pos 5) ∷ Int (pos 1) ∷ Int (pos 6) ∷ []) false 2
unfolding opened
unbound-sum = record { matching = refl; looking = refl }

-- a text plus an Int
pub sum_of_a_text : Answers vars (Plus 2 (pos 1) ∷ []) (Int (pos 1) ∷ []) false 1
unfolding opened
sum_of_a_text = record { matching = refl; looking = refl }

-- another kind: a Loc is no Int
pub unlike-kinds : Answers vars (ConstLoc (record { 0 = 3 }) ∷ []) (Int (pos 3) ∷ []) false 1
unfolding opened
unlike-kinds = record { matching = refl; looking = refl }

-- ── few fields ──

pub no_fields : Answers vars [] [] true 0
unfolding opened
no_fields = record { matching = refl; looking = refl }

pub one_field : Answers vars (ConstInt (pos 3) ∷ []) (Int (pos 3) ∷ []) true 1
unfolding opened
one_field = record { matching = refl; looking = refl }

-- ── a row of another length than T's does not match, and what both have is looked at ──

pub shorter_template : Answers vars (Formal 0 ∷ ConstInt (pos 2) ∷ []) (Int (pos 1) ∷ Int (pos 2) ∷ Int (pos 3) ∷ []) false 2
unfolding opened
shorter_template = record { matching = refl; looking = refl }

pub longer-template : Answers vars (Formal 0 ∷ Formal 1 ∷ Formal 2 ∷ []) (Int (pos 1) ∷ []) false 1
unfolding opened
longer-template = record { matching = refl; looking = refl }

pub longer-template-fails-early : Answers vars (Formal 0 ∷ Var 0 ∷ Formal 2 ∷ Formal 3 ∷ []) (Int (pos 1) ∷ Int (pos 2) ∷ Int (pos 3) ∷ []) false 2
unfolding opened
longer-template-fails-early = record { matching = refl; looking = refl }

pub shorter_template-fails-early : Answers vars (ConstInt (pos 3) ∷ Formal 0 ∷ []) (Int (pos 5) ∷ Int (pos 6) ∷ Int (pos 7) ∷ []) false 1
unfolding opened
shorter_template-fails-early = record { matching = refl; looking = refl }

pub no_row : Answers vars (Formal 0 ∷ Formal 1 ∷ []) ([]) false 0
unfolding opened
no_row = record { matching = refl; looking = refl }

pub no-template : Answers vars ([]) (Int (pos 1) ∷ []) false 0
unfolding opened
no-template = record { matching = refl; looking = refl }
