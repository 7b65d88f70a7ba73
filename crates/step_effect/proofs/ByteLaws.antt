-- The kinds of steps that are no loops, by their bytes. Assumes nothing.
use Prim.Native.Nat.{ℕ, ◌<◌, ◌≤◌}
use mathlib.Core.Path.{◌≡◌, refl, ap, ◌∙◌}
use mathlib.Core.Bool.{Bool, true, false, not, ◌&&◌}
use mathlib.Core.Logic.{◌⊎◌, inl, inr}
use native.Mathlib.Omega.{arith}
use borrow.Author.Tests.{eqb-true, eqb-false}
use lib.Dec.{T, eqb, leb, ltb, leb→le, ltb→lt}
use Rattle.values.proofs.Bools.{T_of, T_not_of, and_l, and_r, and_in}
use Rattle.nets.specs.Nets.{Kind, is_aggregate, is_select, reads_relation, binds_relation}
use Rattle.nets.specs.Scenes.{Parts}
use Rattle.nets.specs.Steps.{vars_by}
use Rattle.nets.specs.View.{kind_at}
use Rattle.step_effect.specs.EffectContracts.{is_step, puts_rows}
use Rattle.nets.proofs.KindClasses.{◌▸◌}
use Rattle.nets.proofs.KindLaws.{class_byte}

-- only an aggregate binds a variable
pub other-vars : (k : Kind) → is_aggregate k ≡ false → (p : Parts) → p.vars ≡ vars_by k p
unfolding vars_by
other-vars k no-aggregate p = rw no-aggregate

-- ── which byte it is ──

pub select_byte : (b : ℕ) → (b ≡ 16 → ⊥) → (b ≡ 17 → ⊥) → (b ≡ 18 → ⊥) → 16 ≤ b → b < 21 → (b ≡ 19) ⊎ (b ≡ 20)
select_byte b x y z low high = go (eqb b 19) refl
  where
    go : (t : Bool) → eqb b 19 ≡ t → (b ≡ 19) ⊎ (b ≡ 20)
    go true e = inl (eqb-true b 19 e)
    go false e = inr (omega (arith, eqb-false b 19 e))

-- a byte of a step that is no loop
pub step_byte : (b : ℕ) → T (is_step (kind_at b)) → (16 ≤ b) × (b < 25)
step_byte b h = (leb→le 16 b (and_l (leb 16 b) (ltb b 25) inside), ltb→lt b 25 (and_r (leb 16 b) (ltb b 25) inside))
  where
    inside : T (leb 16 b && ltb b 25)
    inside = class_byte (λ n. T (leb 16 n && ltb n 25)) is_step tt (tt ▸ tt ▸ tt ▸ tt ▸ tt ▸ tt ▸ tt ▸ tt ▸ tt ▸ tt) b h

-- no table variable is read at byte `n`
pub reads_none : (n : ℕ) {b : ℕ} → b ≡ n → reads_relation (kind_at n) ≡ false → reads_relation (kind_at b) ≡ false
reads_none n e h = ap (λ (i : ℕ). reads_relation (kind_at i)) e ∙ h

-- a step that changes the rows of a table and is no update or insert is a delete
pub puts_byte : (b : ℕ) → T (puts_rows (kind_at b)) → (b ≡ 21 → ⊥) → (b ≡ 16 → ⊥) → (b ≡ 17 → ⊥) → b ≡ 18
puts_byte b =
    class_byte (λ n. (n ≡ 21 → ⊥) → (n ≡ 16 → ⊥) → (n ≡ 17 → ⊥) → n ≡ 18) puts_rows tt
    ((λ x y z. absurd (y refl)) ▸ (λ x y z. absurd (z refl)) ▸ (λ x y z. refl) ▸ (λ x y z. absurd (x refl)) ▸ tt) b

-- the bytes of a select
pub select-bytes : (b : ℕ) → is_select (kind_at b) ≡ true → (b ≡ 19) ⊎ (b ≡ 20)
select-bytes b h = class_byte (λ n. (n ≡ 19) ⊎ (n ≡ 20)) is_select tt (inl refl ▸ inr refl ▸ tt) b (T_of (is_select (kind_at b)) h)

-- a step that binds a table variable and is no select is a delete
pub binds_byte : (b : ℕ) → T (binds_relation (kind_at b)) → is_select (kind_at b) ≡ false → b ≡ 18
binds_byte b h no-select =
    class_byte (λ n. n ≡ 18) (λ k. binds_relation k && not (is_select k)) tt (refl ▸ tt) b
    (and_in (binds_relation (kind_at b)) (not (is_select (kind_at b))) h (T_not_of (is_select (kind_at b)) no-select))

-- the byte of an aggregate
pub aggregate_byte : (b : ℕ) → is_aggregate (kind_at b) ≡ true → b ≡ 22
aggregate_byte b h = class_byte (λ n. n ≡ 22) is_aggregate tt (refl ▸ tt) b (T_of (is_aggregate (kind_at b)) h)
