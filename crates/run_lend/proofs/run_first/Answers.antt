-- Past 256 the array has no more.
use Rattle.std.proofs.Common.{◌≡◌, ℕ, min, Bool, true, false, List, take, length, refl, sym, ap, ◌∙◌, subst, rules, arith}
use Rattle.std.proofs.lemmas.List.{take_all}
use lib.Dec.{ltb}
use borrow.Author.Tests.{ltb-true, ltb-false}
use Rattle.nets.specs.declared.Pick.{Pick}
use Rattle.runs.specs.Runs.{RunIs}
use Rattle.run_lend.proofs.run_first.Goals as goal

same_picks : (picks : List Pick) (n m : ℕ) → length picks ≡ 256 → m ≡ min n 256 → take m picks ≡ take n picks
same_picks picks n m l e = go (ltb n 256) refl
  where
    go : (b : Bool) → ltb n 256 ≡ b → take m picks ≡ take n picks
    go true t =
        let h = ltb-true n 256 t in
        let q : m ≡ n = omega (arith, e, h) in
        ap (λ (k : ℕ). take k picks) q
    go false t =
        let h = ltb-false n 256 t in
        take_all m picks (omega (arith, e, h, l)) ∙ sym (take_all n picks (omega (arith, h, l)))

pub returns : goal.returns
returns c = subst (λ (ps : List Pick). RunIs c.args.net ps c.run.result) (same_picks c.args.picks c.args.count c.min.result (search rules) c.min.ensures) c.run.ensures
