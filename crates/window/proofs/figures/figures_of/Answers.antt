-- `window::figures::figures_of` meets its contract: the figures so far and the Ints left give those of all, within 64 bits.
use Prim.Native.Nat.{◌≤◌, ◌<◌, ◌+◌, ◌*◌}
use native.Mathlib.Omega.{arith}
use mathlib.Core.Path.{◌≡◌, refl, sym, subst}
use mathlib.Core.List.{List, [], ◌∷◌}
use lib.ListN.{length, get_or, drop, drop_of_length-le}
use native.Mathlib.Numerals.{add-one}
use lib.IntN.{ℤ, pos, ◌+ℤ◌}
use lib.Signed.{mag}
use mir.Syntax.{w32, w64}
use mir.Val.{SFits, to_z}
use Rattle.std.proofs.Common.{drop-cons}
use Rattle.values.proofs.Loops.{fold_more, fold_ends}
use Rattle.row_change.specs.Aggregates.{smaller, larger, total}
use Rattle.window_rules.specs.Windows.{chosen, figures, figures_of}
use Rattle.window.proofs.IntLaws.{int-fits}
use Rattle.window.proofs.FigureLaws.{choice_next, sum_next, sum_small}
use borrow.Author.Rules.{rules}
use Rattle.window.proofs.figures.figures_of.Goals as goal

answered : (s j k : ℤ) (l : List ℤ) → s ≡ total l → j ≡ chosen smaller l → k ≡ chosen larger l → figures s j k ≡ figures_of l
unfolding figures_of
answered s j k l p q r = rw (p, q, r) refl

pub loop-k-preserved : goal.loop-k-preserved
loop-k-preserved c =
    let xs = c.args.ints.now in
    let l = c.loop-k in
    let i = l.k-index in
    let z = get_or xs i (pos 0) in
    let p : SFits w32 z = search (int-fits, rules) in
    let x = to_z w64 l.sum-bits in
    let room : i < length xs = c.loop-k-test.true in
    let here : drop i xs ≡ z ∷ drop (i + 1) xs = rw (add-one, drop-cons xs i (pos 0)) in
    let n = sum_next x c.from-sum.result z i p l.invariant.small c.from-sum.ensures (omega arith) in
    record {
      small = subst (λ (v : ℤ). mag v ≤ (i + 1) * 2147483648) (sym n) (sum_small x c.from-sum.result z i p l.invariant.small);
      sums = fold_more ◌+ℤ◌ x _ l.invariant.sums here n;
      least_kept = fold_more smaller (to_z w32 l.least-bits) _ l.invariant.least_kept here (choice_next smaller (to_z w32 l.least-bits) z c.min-least.result p (search rules) c.min-least.ensures.value);
      largest_kept = fold_more larger (to_z w32 l.largest-bits) _ l.invariant.largest_kept here (choice_next larger (to_z w32 l.largest-bits) z c.max-largest.result p (search rules) c.max-largest.ensures.value);
    }

pub returns : goal.returns
returns c =
    let xs = c.args.ints.now in
    let l = c.loop-k in
    let end : drop l.k-index xs ≡ [] = drop_of_length-le xs {i = l.k-index} (omega arith) in
    answered _ _ _ xs (fold_ends ◌+ℤ◌ _ _ l.invariant.sums end) (fold_ends smaller _ _ l.invariant.least_kept end) (fold_ends larger _ _ l.invariant.largest_kept end)
