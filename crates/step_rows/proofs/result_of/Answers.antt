-- `step_rows::result_of` meets its contract: an aggregate over the rows that are marked. Assumes nothing.
use mathlib.Core.Path.{◌≡◌, sym, ap, subst, ◌∙◌}
use mathlib.Core.Bool.{Bool, true}
use mathlib.Core.List.{List}
use native.Mathlib.Omega.{arith}
use lib.Dec.{T}
use Prim.Native.Nat.{ℕ}
use Rattle.values.proofs.Bools.{T_of}
use Rattle.rows.specs.declared.Function.{Function}
use Rattle.row_change.specs.Aggregates.{aggregated, column_fits}
use Rattle.nets.specs.Nets.{is_aggregate}
use Rattle.nets.specs.View.{kind_at}
use Rattle.step_rows.proofs.result_of.Goals as goal

-- the column fits the rows taken as it fits the source
fits-taken : (f : Function) (i : ℕ) {cs ds : List ℕ} {t : Bool} → cs ≡ ds → t ≡ column_fits f i ds → t ≡ true → T (column_fits f i cs)
fits-taken f i same fit fine = T_of _ (ap (column_fits f i) same ∙ sym fit ∙ fine)

pub aggregate-requires : goal.aggregate-requires
aggregate-requires c = omega (arith, c.used.ensures.count, c.sifted-taken.ensures.shaped.count)

pub returns-then-not-is_aggregate : goal.returns-then-not-is_aggregate
unfolding kind_at
returns-then-not-is_aggregate c = λ k f. absurd (subst T (ap (λ (b : ℕ). is_aggregate (kind_at b)) (sym k) ∙ sym c.is_aggregate.ensures ∙ c.if-not-is_aggregate.true) tt)

pub returns-then-column_fits : goal.returns-then-column_fits
returns-then-column_fits c =
    λ k f.
    let taken = c.sifted-taken.result in
    c.aggregate.ensures taken.columns taken.kinds (fits-taken c.args.node.function c.args.node.column c.sifted-taken.ensures.columns c.column_fits.ensures c.if-column_fits.true)
    ∙ ap (aggregated _ _) (c.used.ensures.rows ∙ c.sifted-taken.ensures.rows)

pub returns : goal.returns
returns c = λ k f. absurd (subst T (sym c.column_fits.ensures ∙ c.if-column_fits.false) f)
