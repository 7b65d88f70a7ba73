use Prim.Native.Nat.{ℕ, ◌*◌, ◌≤◌}
use mathlib.Core.Path.{◌≡◌}
use mathlib.Core.List.{List, ◌++◌}
use lib.ListN.{length, drop}
use Rattle.values.specs.Operands.{Got}
use Rattle.call_rules.specs.Moments.{variable_record}
use Rattle.value_bytes.proofs.Parts.{along}
use Rattle.call_hold.proofs.bindings.put_variables.Given as goal

abbrev pub passed : List Got → ℕ → List ℕ
passed vs n = along (variable_record vs) n

abbrev pub invariant-loop-i : goal.invariant-loop-i
invariant-loop-i l =
    record {
      within : l.i ≤ 16;
      full : length l.out ≡ 1664;
      filled : l.out ≡ passed l.vars l.i ++ drop (l.i * 104) l.initial.out;
    }
