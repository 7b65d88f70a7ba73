-- Whatever matching answered: the row was left at the first field that does not match. Assumes nothing.
use Prim.Native.Nat.{ℕ}
use mathlib.Core.Path.{sym, subst}
use mathlib.Core.List.{List}
use Rattle.values.specs.declared.Operand.{Operand}
use Rattle.values.specs.declared.Operand.TheVariants.{Absent}
use Rattle.values.specs.Operands.{Vars}
use Rattle.values.proofs.LookLaws.{Failing, looked-first, looked-second, looked-before, looked-whole, looked-left, looked-early}
use Rattle.rows.specs.Relations.{Row}
use Rattle.rows.specs.Matching.{field_matches, matches, looked}
use Rattle.rows.specs.Looking.{no_value, LastFails, LeftEarly, EveryRowLeftEarly}

module _ (e : Vars) (t : List Operand) (r : Row) where
  last-fails : {n : ℕ} → Failing (field_matches e) Absent no_value t r n → LastFails e t r n
  last-fails f = record { at = f.at; counts = f.counts; fails = f.fails }

  -- of the count that the rule gives
  by_rule : LeftEarly e t r (record { matches = matches e t r; looked = looked e t r })
  unfolding matches looked
  by_rule =
      record {
        in_template = looked-first (field_matches e) t r;
        in_row = looked-second (field_matches e) t r;
        before = looked-before (field_matches e) Absent no_value t r;
        left = λ h k. last-fails (looked-left (field_matches e) Absent no_value t r h k);
        whole = looked-whole (field_matches e) t r;
        early = λ same h. last-fails (looked-early (field_matches e) Absent no_value t r same h);
      }

pub left-early : EveryRowLeftEarly
left-early e t r m h =
    subst (λ b. LeftEarly e t r (record { matches = b; looked = m.looked })) (sym h.matches)
    (subst (λ n. LeftEarly e t r (record { matches = matches e t r; looked = n })) (sym h.looked) (by_rule e t r))
