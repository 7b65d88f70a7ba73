-- `call_hold::bindings::put_variables` meets its contract: the records of the variables passed, then the bytes that stood there. Assumes nothing.
use Prim.Native.Nat.{ℕ, ◌+◌, ◌-◌, ◌*◌, ◌≤◌}
use mathlib.Core.Path.{◌≡◌, refl, ap, ◌∙◌}
use mathlib.Core.List.{List, [], ◌∷◌, ◌++◌}
use native.Mathlib.Omega.{arith}
use lib.ListN.{length, get_or, drop}
use borrow.Rule.Slice.PartMut.{put_mid}
use Rattle.values.specs.Operands.{Got}
use Rattle.values.specs.Operands.{values_in}
use Rattle.rows.specs.View.{no_slot}
use Rattle.value_bytes.specs.Bytes.{end_to_end}
use Rattle.value_bytes.proofs.Stores.{kept-length}
use Rattle.call_rules.specs.Moments.{values_record, variable_record, variable_records}
use Rattle.value_bytes.proofs.Parts.{along, along-more, along-all}
use Rattle.call_hold.proofs.HoldLaws.{variable-length}
use Rattle.call_hold.proofs.bindings.put_variables.Invariants.{passed}
use Rattle.call_hold.proofs.bindings.put_variables.Goals as goal

one_more : (vs : List Got) (i : ℕ) (o out ys : List ℕ) → out ≡ passed vs i ++ drop (i * 104) o → ys ≡ values_record 66 i (values_in ((get_or vs i no_slot) ∷ [])) →
    put_mid (i * 104) (i * 104 + 104 - i * 104) out ys ≡ passed vs (i + 1) ++ drop ((i + 1) * 104) o
one_more vs i o out ys e q =
    let h = ap (λ (g : Got). values_record 66 i (values_in (g ∷ []))) refl in
    along-more (variable_record vs) 104 (variable-length vs) i o out ys e (q ∙ h)

ended : (vs : List Got) (i : ℕ) (o out : List ℕ) → i ≤ 16 → 16 ≤ i → length o ≡ 1664 → out ≡ passed vs i ++ drop (i * 104) o → out ≡ end_to_end (variable_records vs)
unfolding variable_records
ended vs i o out a b l e = along-all (variable_record vs) 104 16 i o out a b l e

pub loop-i-init : goal.loop-i-init
unfolding along
loop-i-init c = record { within = omega arith; full = omega arith; filled = refl }

pub loop-i-preserved : goal.loop-i-preserved
loop-i-preserved c = record { within = omega arith; full = search kept-length; filled = one_more c.args.vars c.loop-i.i _ _ _ c.loop-i.invariant.filled (c.copy_from_slice.ensures.after ∙ c.variable_record.ensures) }

pub returns : goal.returns
returns c = search ended
