-- `step_bytes::picks::pick_bytes` meets its contract: the bytes so far are the picks so far. Assumes nothing.
use mathlib.Core.Path.{◌≡◌, refl, sym, ◌∙◌}
use native.Mathlib.Omega.{arith}
use lib.ListN.{length, length-set}
use borrow.Author.Rules.{rules}
use Rattle.values.proofs.Arrays.{long}
use Rattle.step_bytes.proofs.PickLaws.{picks-length, bytes-more, bytes-all}
use Rattle.step_bytes.proofs.picks.pick_bytes.Goals as goal

pub loop-i-init : goal.loop-i-init
loop-i-init c = (refl, omega arith, refl)

pub loop-i-preserved : goal.loop-i-preserved
loop-i-preserved c =
    let l = c.loop-i in
    let h = c.loop-i-test.true in
    let k = picks-length l.bytes in
    (bytes-more l.bytes c.args.picks l.i (omega (arith, h, l.invariant.2)) (omega (arith, h, l.invariant.2, k.1)) l.invariant.0, omega (arith, h), simp length-set l.invariant.2)

pub returns : goal.returns
returns c =
    let l = c.loop-i in
    let h = c.loop-i-test.false in
    let k = picks-length l.bytes in
    let i : l.i ≡ 256 = omega (arith, h, l.invariant.1) in
    let picks-long : length c.args.picks ≡ 256 = search (long, rules) in
    bytes-all l.bytes c.args.picks l.i (omega (arith, i, k.0, k.1, l.invariant.2)) (picks-long ∙ sym i) l.invariant.0
