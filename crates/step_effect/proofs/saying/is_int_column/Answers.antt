-- `step_effect::saying::is_int_column` meets its contract: past the columns there is no kind. Assumes nothing.
use Prim.Native.Nat.{ℕ}
use mathlib.Core.Path.{ap, sym}
use native.Mathlib.Omega.{arith}
use lib.ListN.{get_or-eq_default}
use lib.Dec.{eqb}
use Rattle.values.proofs.Firsts.{firsts_at}
use Rattle.rows.specs.View.{relation_of}
use Rattle.step_effect.proofs.JudgeLaws.{columns-count}
use Rattle.step_effect.proofs.saying.is_int_column.Goals as goal

pub returns-then-r-i : goal.returns-then-r-i
returns-then-r-i c =
    let a = c.args in
    sym (ap (λ (k : ℕ). eqb k 1) (get_or-eq_default (relation_of a.r).columns 0 (omega (arith, columns-count a.r, c.if-r-i.true))))

pub returns : goal.returns
returns c =
    let a = c.args in
    ap (λ (k : ℕ). eqb k 1) (sym (firsts_at (λ (k : ℕ). k) 0 a.r.columns a.r.kinds a.at 0 c.if-r-i.false))
