-- `load_links::bad_link` meets its contract: what is left decides.
use Prim.Native.Nat.{ℕ, ◌+◌, ◌≤◌}
use mathlib.Core.Path.{◌≡◌}
use mathlib.Core.Bool.{Bool, true, false, cond}
use native.Mathlib.Omega.{arith}
use lib.Dec.{eqb}
use Rattle.load_links.proofs.LinkLaws.{link_found, link_passed, no_link}
use Rattle.load_links.proofs.bad_link.Goals as goal

below : (g m j i : ℕ) → m ≡ cond (eqb g 4) (j + 1) j → j ≤ i → m ≤ i + 1
below g m j i e h = go (eqb g 4) e
  where
    go : (b : Bool) → m ≡ cond b (j + 1) j → m ≤ i + 1
    go true e = omega (arith, e, h)
    go false e = omega (arith, e, h)

pub returns-then-not-link_ok : goal.returns-then-not-link_ok
returns-then-not-link_ok c =
    let l = c.loop-i in
    link_found c.args.file.now c.requires.1 c.args.n l.i l.j (omega arith) _ l.invariant.2 _ c.record_at-r.ensures _ c.link_ok.ensures c.if-not-link_ok.true

pub loop-i-preserved : goal.loop-i-preserved
loop-i-preserved c =
    let n = c.number_after-j in
    let g = c.group_of in
    let l = c.loop-i in (
      omega arith,
      search below,
      link_passed c.args.file.now c.requires.1 c.args.n l.i l.j (omega arith) _ l.invariant.2 _ c.record_at-r.ensures _ c.link_ok.ensures g.result _
          c.if-not-link_ok.false g.ensures n.ensures,
    )

pub returns : goal.returns
returns c = search no_link
