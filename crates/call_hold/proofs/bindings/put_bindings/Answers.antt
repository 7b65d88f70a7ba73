-- `call_hold::bindings::put_bindings` meets its contract: three adjacent parts. Assumes nothing.
use Prim.Native.Nat.{ℕ, ◌+◌, ◌-◌, ◌*◌}
use mathlib.Core.Path.{◌≡◌, ap, ◌∙◌}
use mathlib.Core.List.{List, ◌++◌}
use native.Mathlib.Omega.{arith}
use lib.ListN.{length, get_or, drop}
use borrow.Rule.Slice.PartMut.{put_mid}
use Rattle.values.specs.Operands.{Got}
use Rattle.nets.specs.View.{TableVariable}
use Rattle.nets.specs.View.{no_variable, variable_of, bindings_of}
use Rattle.value_bytes.specs.Bytes.{end_to_end}
use Rattle.value_bytes.proofs.Stores.{part-size, ends-append}
use Rattle.call_rules.specs.Moments.{variable_records, relation_records, bindings_records}
use Rattle.call_hold.specs.Holdings.{RelationsShaped, rows_given, records_given}
use Rattle.value_bytes.proofs.Parts.{three_fill}
use Rattle.call_hold.proofs.HoldLaws.{bindings_are, variables_long, relation-long}
use Rattle.call_hold.proofs.bindings.put_bindings.Goals as goal

module _ (vs : List Got) (rs : List TableVariable) (k : RelationsShaped rs) (o : List ℕ) (l : length o ≡ records_given rs * 104) (a b : ℕ) (ea : a ≡ rows_given (get_or rs 0 no_variable)) (eb : b ≡ rows_given (get_or rs 1 no_variable)) where
  put_all : (x y z : List ℕ) → x ≡ end_to_end (variable_records vs) → y ≡ end_to_end (relation_records 0 (variable_of (get_or rs 0 no_variable))) → z ≡ end_to_end (relation_records 1 (variable_of (get_or rs 1 no_variable))) →
      put_mid (1664 + (1 + a) * 104) (1664 + (1 + a) * 104 + (1 + b) * 104 - (1664 + (1 + a) * 104)) (put_mid 1664 (1664 + (1 + a) * 104 - 1664) (x ++ drop 1664 o) y) z
      ≡ end_to_end (bindings_records (bindings_of vs rs))
  put_all x y z hx hy hz =
      let n = (1 + a) * 104 in
      let m = (1 + b) * 104 in
      let ly : length y ≡ n = ap length hy ∙ relation-long 0 (get_or rs 0 no_variable) k.first ∙ ap (λ (j : ℕ). (1 + j) * 104) (omega arith) in
      let lo : length o ≡ 1664 + n + m = omega (arith, ea, eb, l) in
      rw (part-size 1664 n, part-size (1664 + n) m)
      (three_fill o x y z 1664 n m (ap length hx ∙ variables_long vs) ly lo ∙ rw (bindings_are vs rs, ends-append, ends-append, hx, hy, hz))

pub returns : goal.returns
returns c = search put_all
