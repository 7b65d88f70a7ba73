use mathlib.Core.Path.{◌≡◌, refl, ap, ◌∙◌}
use Prim.Native.Nat.{ℕ, ◌+◌, ◌-◌}
use native.Mathlib.Omega.{arith}
use lib.ListN.{get_or, set, drop, length-set}
use lib.Seq.{paste, paste-zero}
use borrow.Author.Rules.{rules}
use Rattle.step_picks.proofs.ClosingLaws.{one_more}
use Rattle.step_picks.proofs.closing.close_up.Goals as goal

pub loop-gap-init : goal.loop-gap-init
loop-gap-init g c =
    let asked = c.requires in
    let old = c.args.items.now in
    let none : 0 ≡ c.args.hole - c.args.hole = omega arith in
    (paste-zero old c.args.hole (drop (c.args.hole + 1) old) ∙ ap (paste old c.args.hole (drop (c.args.hole + 1) old)) none, refl, omega arith, omega (arith, asked.0))

pub loop-gap-preserved : goal.loop-gap-preserved
loop-gap-preserved g c =
    let asked = c.requires in
    let old = c.args.items.now in
    let hole = c.args.hole in
    let at = c.loop-gap in
    let more = c.loop-gap-test.true in
    let same = at.invariant.0 in
    let size = at.invariant.1 in
    let low = at.invariant.2 in
    let k : ℕ = at.gap - hole in
    let here : at.gap ≡ hole + k = omega arith in
    let there : at.gap + 1 ≡ hole + 1 + k = omega arith in
    let x = c.index-items-gap.result in
    let read : x ≡ get_or at.items (at.gap + 1) x = search rules in
    let seen : x ≡ get_or (paste old hole (drop (hole + 1) old) k) (hole + 1 + k) x = read ∙ ap (λ l. get_or l (at.gap + 1) x) same ∙ ap (λ i. get_or (paste old hole (drop (hole + 1) old) k) i x) there in
    let next : k + 1 ≡ at.gap + 1 - hole = omega arith in (
      ap (λ l. set l at.gap x) same ∙ ap (λ i. set (paste old hole (drop (hole + 1) old) k) i x) here ∙ one_more old hole k x (omega (arith, asked, size)) seen ∙ ap (paste old hole (drop (hole + 1) old)) next,
      length-set at.items at.gap x ∙ size,
      omega arith,
      omega arith,
    )
