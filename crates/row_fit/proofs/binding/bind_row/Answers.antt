-- What is left of the template and the row, over the variables so far, decides.
use Rattle.std.proofs.Common.{◌≡◌, ◌⊎◌, inl, inr, refl, sym, ap, ap₂, ◌∙◌, List, [], ◌∷◌, length, map, Some, arith, rules}
use Rattle.values.specs.declared.Operand.{Operand}
use Rattle.values.specs.declared.Value.{Value}
use Rattle.values.specs.Operands.{Vars, formal_of, bind, bind_to}
use Rattle.row_fit.proofs.binding.bind_row.Goals as goal

one_more : {ts t : List Operand} {rs r : List Value} {o : Operand} {v : Value} (e : Vars) {e' w : Vars} → ts ≡ o ∷ t → rs ≡ v ∷ r → e' ≡ bind_to (formal_of o) (Some v) e →
    bind ts (map Some rs) e ≡ w → bind t (map Some r) e' ≡ w
unfolding bind
one_more {t = t} {r = r} e p q h left = ap (bind t (map Some r)) h ∙ sym (ap₂ (λ k l. bind k (map Some l) e) p q) ∙ left

pub loop-op-preserved : goal.loop-op-preserved
loop-op-preserved c = one_more _ c.in-Some.ensures.steps.0 c.in-Some.ensures.steps.1 c.bind_to-bound.ensures c.loop-op.invariant

ends : (t : List Operand) (r : List Value) (e : Vars) → (length t ≡ 0) ⊎ (length r ≡ 0) → e ≡ bind t (map Some r) e
unfolding bind
ends [] r e none = refl
ends (o ∷ t) [] e none = refl
ends (o ∷ t) (v ∷ r) e (inl h) = absurd (omega arith)
ends (o ∷ t) (v ∷ r) e (inr h) = absurd (omega arith)

pub returns : goal.returns
returns c = ends c.loop-op.op-iterator.a.rest.now c.loop-op.op-iterator.b.rest.now _ (search rules) ∙ c.loop-op.invariant
