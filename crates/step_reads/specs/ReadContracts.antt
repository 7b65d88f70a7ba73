-- What the functions of check 12 speak of.
use Rattle.std.specs.Prelude.{ℕ, Bool, false, List, get_or}
use Rattle.std.specs.List.{list_any}
use Rattle.values.specs.declared.Operand.{Operand}
use Rattle.values.specs.Operands.{formal_of}
use Rattle.rows.specs.Plans.{is_formal_of}

-- a set of numbers by flags
abbrev pub flag_at : List Bool → ℕ → Bool
flag_at l i = get_or l i false

-- an operand of T is the formal of variable `i`
abbrev pub formal_in : ℕ → List Operand → Bool
formal_in i t = list_any (λ o. is_formal_of i (formal_of o)) t
