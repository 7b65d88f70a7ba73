-- `record_nodes::operands::operands_in` meets its contract: the operands of the four parts of 8 bytes, up to the first absent one.
use Prim.Native.Nat.{ℕ}
use mathlib.Core.Path.{◌≡◌, sym, ap, ◌∙◌}
use mathlib.Core.Bool.{Bool}
use mathlib.Core.List.{List, [], ◌∷◌, map}
use lib.ListN.{length}
use Rattle.values.specs.declared.Operand.{Operand}
use Rattle.rows.specs.View.{no_field, operands_of}
use Rattle.nets.specs.Sound.{is_absent}
use Rattle.record_bytes.specs.Bytes.{part, leading, operand_in, operands_in}
use Rattle.record_bytes.proofs.ByteLaws.{same, four, operands_are, leading-flags, firsts-leading}
use Rattle.record_nodes.proofs.operands.operands_in.Goals as goal

abbrev fields : Operand → Operand → Operand → Operand → List Operand
fields a b c d = a ∷ b ∷ c ∷ d ∷ []

whole : (bs p q r s : List ℕ) (a b c d : Operand) (i j k l : Bool) (n : ℕ) → p ≡ part 0 8 bs → q ≡ part 8 16 bs → r ≡ part 16 24 bs → s ≡ part 24 32 bs
    → a ≡ operand_in p → b ≡ operand_in q → c ≡ operand_in r → d ≡ operand_in s
    → i ≡ is_absent (operand_in p) → j ≡ is_absent (operand_in q) → k ≡ is_absent (operand_in r) → l ≡ is_absent (operand_in s)
    → n ≡ length (leading same (i ∷ j ∷ k ∷ l ∷ [])) → operands_of (record { fields = fields a b c d; count = n }) ≡ operands_in bs
whole bs p q r s a b c d i j k l n hp hq hr hs pa pb pc pd pi pj pk pl pn =
    let all : map operand_in (four bs) ≡ fields a b c d = rw (pa, pb, pc, pd, hp, hq, hr, hs) in
    let is : operands_in bs ≡ leading is_absent (fields a b c d) = operands_are bs ∙ ap (leading is_absent) all in
    let count : n ≡ length (operands_in bs) = rw (pn, pi, pj, pk, pl, ← pa, ← pb, ← pc, ← pd) (leading-flags is_absent (fields a b c d) ∙ ap length (sym is)) in
    rw (count, is) (firsts-leading (λ (o : Operand). o) no_field is_absent (fields a b c d))

pub returns : goal.returns
returns c = (search whole, record { count = c.before_none.ensures.1 })
