-- `record_nodes::operands::operands_form` meets its contract: the four parts of 8 bytes are judged, and the absent ones are last.
use Prim.Native.Nat.{ℕ}
use mathlib.Core.Path.{◌≡◌, sym, ap, ap₂, ◌∙◌}
use mathlib.Core.Bool.{Bool, ◌&&◌}
use mathlib.Core.List.{List, [], ◌∷◌, map}
use Rattle.std.specs.List.{list_all}
use Rattle.nets.specs.Sound.{is_absent}
use Rattle.record_bytes.specs.Bytes.{part, then_only, operand_form, operand_in, operands_form}
use Rattle.record_bytes.proofs.ByteLaws.{same, four, four-parts, all-four, only_flags}
use Rattle.record_nodes.proofs.operands.operands_form.Goals as goal

form-is : (bs : List ℕ) → operands_form bs ≡ (list_all operand_form (four bs) && then_only is_absent (map operand_in (four bs)))
unfolding operands_form
form-is bs = ap (λ ps. list_all operand_form ps && then_only is_absent (map operand_in ps)) (four-parts bs)

whole : (bs p q r s : List ℕ) (i j k l e f g h n : Bool) → p ≡ part 0 8 bs → q ≡ part 8 16 bs → r ≡ part 16 24 bs → s ≡ part 24 32 bs
    → i ≡ is_absent (operand_in p) → j ≡ is_absent (operand_in q) → k ≡ is_absent (operand_in r) → l ≡ is_absent (operand_in s)
    → e ≡ operand_form p → f ≡ operand_form q → g ≡ operand_form r → h ≡ operand_form s
    → n ≡ then_only same (i ∷ j ∷ k ∷ l ∷ []) → (e && f && g && h && n) ≡ operands_form bs
whole bs p q r s i j k l e f g h n hp hq hr hs pi pj pk pl pe pf pg ph pn =
    let parts : p ∷ q ∷ r ∷ s ∷ [] ≡ four bs = rw (hp, hq, hr, hs) in
    let forms : (e && f && g && h) ≡ list_all operand_form (p ∷ q ∷ r ∷ s ∷ []) = rw (pe, pf, pg, ph) (sym (all-four operand_form p q r s)) in
    let nones : n ≡ then_only is_absent (map operand_in (p ∷ q ∷ r ∷ s ∷ [])) = rw (pn, pi, pj, pk, pl) (only_flags is_absent (map operand_in (p ∷ q ∷ r ∷ s ∷ []))) in
    ap₂ ◌&&◌ forms nones ∙ ap (λ ps. list_all operand_form ps && then_only is_absent (map operand_in ps)) parts ∙ sym (form-is bs)

pub returns : goal.returns
returns c = search whole
