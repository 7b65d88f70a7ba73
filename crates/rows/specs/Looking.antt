-- What matching answers, and what ties the count to the answer: the row is left at the first field that does not match. `left-early` in row_match's LookingLaws proves it.
use Rattle.std.specs.Prelude.{ℕ, suc, ◌<◌, ◌≤◌, ◌≡◌, Bool, true, false, List, length, get_or, None}
use Rattle.values.specs.declared.Value.{Value}
use Rattle.values.specs.declared.Operand.{Operand}
use Rattle.values.specs.declared.Operand.TheVariants.{Absent}
use Rattle.values.specs.Operands.{Vars, value_in}
use Rattle.rows.specs.declared.Matched.{Matched}
use Rattle.rows.specs.Relations.{Row}
use Rattle.rows.specs.Matching.{field_matches, matches, looked}

-- whether T matches, and how many fields were looked at
pub record MatchedIs (e : Vars) (t : List Operand) (r : Row) (m : Matched) : Type 0 where
  pub matches : m.matches ≡ matches e t r
  pub looked : m.looked ≡ looked e t r

-- what is read past a row's end: nothing looks there
abbrev pub no_value : Value
no_value = value_in None

-- T and row match at a place
abbrev pub matches_at : Vars → List Operand → Row → ℕ → Bool
matches_at e t r i = field_matches e (get_or t i Absent) (get_or r i no_value)

-- the last of the first `n` fields does not match
pub record LastFails (e : Vars) (t : List Operand) (r : Row) (n : ℕ) : Type 0 where
  pub at : ℕ
  pub counts : n ≡ suc at
  pub fails : matches_at e t r at ≡ false

-- of T and a row of any lengths
pub record LeftEarly (e : Vars) (t : List Operand) (r : Row) (m : Matched) : Type 0 where
  -- no more is looked at than T has and the row has
  pub in_template : m.looked ≤ length t
  pub in_row : m.looked ≤ length r
  -- each field looked at but the last one matches
  pub before : (i : ℕ) → suc i < m.looked → matches_at e t r i ≡ true
  -- fields that both have are left only where the last one looked at does not match
  pub left : m.looked < length t → m.looked < length r → LastFails e t r m.looked
  -- a row that matches is looked at whole
  pub whole : m.matches ≡ true → m.looked ≡ length t
  -- one as long as T that does not match is looked at up to and with a field that fails
  pub early : length t ≡ length r → m.matches ≡ false → LastFails e t r m.looked

-- of whatever matching answered
abbrev pub EveryRowLeftEarly : Type 0
EveryRowLeftEarly = (e : Vars) (t : List Operand) (r : Row) (m : Matched) → MatchedIs e t r m → LeftEarly e t r m
