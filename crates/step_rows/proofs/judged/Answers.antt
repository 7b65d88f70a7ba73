-- `step_rows::judged` meets its contract: of a kind without a predicate nothing is asked but that the columns are few. Assumes nothing.
use Prim.Native.Nat.{ℕ}
use mathlib.Core.Path.{◌≡◌, refl, sym, ap, subst, ◌∙◌}
use mathlib.Core.Bool.{true}
use mathlib.Core.List.{List}
use mathlib.Core.Logic.{◌⊎◌, inl, inr}
use lib.Dec.{T}
use Rattle.values.proofs.Bools.{T_of}
use Rattle.values.specs.Operands.{Got}
use Rattle.rows.specs.declared.Relation as Code
use Rattle.nets.specs.declared.Node.{Node}
use Rattle.nets.specs.Nets.{has_test, is_select}
use Rattle.nets.specs.View.{kind_at}
use Rattle.nets.proofs.KindClasses.{in_class}
use Rattle.step_effect.specs.declared.Judged.{Judged}
use Rattle.step_effect.specs.EffectContracts.{JudgeReady, Long, JudgedIs}
use Rattle.step_rows.proofs.judged.Goals as goal
use Rattle.step_rows.proofs.judged.Goals.{else-has_test-via-then-has_test+else-node-source, else-has_test-via-else-has_test}

module _ (d : Node) (q : Code.Relation) (vs : List Got) (j : Judged) (ready : JudgeReady d q) (same : j.columns ≡ q.columns) (none : has_test (kind_at d.kind) ≡ true → Long d q → ⊥) where
  -- no byte of a kind with a predicate
  not_byte : {A : Type 0} (n : ℕ) → has_test (kind_at n) ≡ true → d.kind ≡ n → Long d q → A
  not_byte n e h long = absurd (none (ap (λ (b : ℕ). has_test (kind_at b)) h ∙ e) long)

  untested : JudgedIs d q vs j
  unfolding kind_at
  untested =
      record {
        short = rw same ready.source.columns;
        hit = hits;
        update = not_byte 21 refl;
        select = λ e long. absurd (none (in_class is_select (kind_at d.kind) (T_of (is_select (kind_at d.kind)) e) has_test true tt) long);
        result = not_byte 22 refl;
      }
    where
      hits : {A : Type 0} → (d.kind ≡ 18) ⊎ (d.kind ≡ 22) → Long d q → A
      hits (inl e) = not_byte 18 refl e
      hits (inr e) = not_byte 22 refl e

pub returns : goal.returns
returns c =
    untested c.args.node c.args.source c.args.vars _ c.requires refl
    (λ test long. elim c.else-has_test.branch [
      | else-has_test-via-then-has_test+else-node-source w ↦ w.if-node-source.false long
      | else-has_test-via-else-has_test w ↦ subst T (sym test ∙ sym c.has_test.ensures ∙ w.if-has_test.false) tt
    ])
