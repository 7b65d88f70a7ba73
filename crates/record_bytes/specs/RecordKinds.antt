-- What the code asks of a record by its kind byte.
use Rattle.std.specs.Prelude.{ℕ, cond, List, eqb}
use Rattle.rows.specs.Relations.{Selector}
use Rattle.record_bytes.specs.Bytes.{at, part, operand_in, operands_in, test_at}
use Rattle.record_bytes.specs.Decoding.{is_node}

-- the group of a kind, 0 for an unknown kind
abbrev pub group_at : ℕ → ℕ
group_at b =
    cond (eqb b 1) 1
    (cond (eqb b 2) 2
    (cond (eqb b 3) 3
    (cond (is_node b) 4
    (cond (eqb b 32) 5
    (cond (eqb b 33) 6
    0)))))

-- T and the predicate of a node record
abbrev pub selector_in : List ℕ → Selector
selector_in r = record { template = operands_in (part 24 56 r); test = test_at (at r 3); left = operand_in (part 88 96 r); right = operand_in (part 96 104 r) }
