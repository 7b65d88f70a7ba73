-- The marks that the filter leaves are counted.
use Rattle.std.proofs.Common.{◌≡◌, cond, ◌∙◌, Bool, true, false, ℕ, ◌+◌, List, [], ◌∷◌, rules, tests, arith}
use Rattle.std.specs.List.{fold}
use Rattle.std.proofs.lemmas.Iterator.{YieldsList-from_slice}
use Rattle.std.proofs.lemmas.Iterator.Consumers.{YieldsList-from_filter, count_from_yields_List}
use Rattle.std.proofs.lemmas.List.Sums.{length-filter}
use Rattle.values.specs.Lists.{count}
use Rattle.row_change.proofs.sifting.count_marks.Goals as goal

counts : (n : ℕ) (fs : List Bool) → fold (λ (m : ℕ) (b : Bool). m + cond b 1 0) n fs ≡ n + count (λ (b : Bool). b) fs
counts n [] = omega arith
counts n (true ∷ fs) = omega (arith, counts (n + 1) fs)
counts n (false ∷ fs) = omega (arith, counts (n + 0) fs)

pub returns : goal.returns
returns c =
    count_from_yields_List c.filter.result c.count.result c.count.ensures.ran
    (YieldsList-from_filter _ (λ (b : Bool). b) (YieldsList-from_slice c.args.flags cc) c.filter.ensures.closure (λ x r q k. search (rules, tests)))
    ∙ length-filter (λ (b : Bool). b) c.args.flags ∙ omega (arith, counts 0 c.args.flags)
