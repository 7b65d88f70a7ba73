-- `call_trace::put_trace` meets its contract: the moments put so far, and the bytes that stood there. Assumes nothing.
use Prim.Native.Nat.{◌+◌, ◌-◌, ◌≤◌}
use mathlib.Core.Path.{◌≡◌, refl, sym, ap, ◌∙◌}
use native.Mathlib.Omega.{arith}
use lib.ListN.{length, take, length-take, length-drop}
use borrow.Rule.Slice.PartMut.{put_mid}
use Rattle.nets.specs.View.{view}
use Rattle.value_bytes.proofs.Stores.{kept-length}
use Rattle.step_bytes.specs.PickBytes.{picks_in}
use Rattle.step_bytes.proofs.PickLaws.{picks-length}
use Rattle.call_rules.specs.Traces.{trace_put}
use Rattle.call_hold.proofs.RecordLaws.{more_left}
use Rattle.call_trace.proofs.TraceLaws.{few-picks, one-after, first-put, first-length, first-left, no_room, none_left, more-put, ended}
use Rattle.call_trace.proofs.put_trace.Goals as goal

pub slice_bounds-put_moment-end : goal.slice_bounds-put_moment-end
slice_bounds-put_moment-end c = omega (arith, c.moment_size-at.ensures.0, c.requires.1)

pub put_moment-requires : goal.put_moment-requires
put_moment-requires c = (c.requires.0, simp (length-take, length-drop) (omega (arith, c.moment_size-at.ensures.0, c.requires.1)))

pub loop-i-init : goal.loop-i-init
loop-i-init c =
    let n = c.moment_size-at.result in
    let o = c.args.out.now in
    let ys = c.put_moment.new.out in
    let room : n ≤ length o = omega (arith, c.moment_size-at.ensures.0, c.requires.1) in
    let long : length ys ≡ n = ap length c.put_moment.ensures ∙ sym c.moment_size-at.ensures.0 in
    let same = first-length o ys n n refl room long in
    let ps = picks_in c.args.picks.now in
    record {
      within = omega arith;
      sound = c.requires.0;
      full = same;
      low = omega (arith, same, room);
      left = first-left o ys n n long (omega arith);
      put = ap (trace_put (view c.args.start) ps) (sym same) ∙ first-put (view c.args.start) ps o ys n c.moment_size-at.ensures.0 room c.put_moment.ensures;
    }

pub returns-then-out-at : goal.returns-then-out-at
returns-then-out-at c =
    let l = c.loop-i in
    let bs = c.args.picks.now in
    let ps = picks_in bs in
    let next = view c.run_picks-net.result in
    let turned = one-after (view l.net) next bs l.i (omega arith) c.run_picks-net.ensures.0 in
    let q = no_room (view l.net) next ps l.i (length l.out - l.at) _ (take l.at l.out) (few-picks bs l.i (omega arith)) turned (omega (arith, c.moment_size-size.ensures.0)) l.invariant.put in
    ended c.args.out.now l.out (trace_put (view c.args.start) ps (length c.args.out.now)) l.at l.invariant.low q l.invariant.left

pub slice_bounds-put_moment-end-in-loop-i : goal.slice_bounds-put_moment-end-in-loop-i
slice_bounds-put_moment-end-in-loop-i c = omega (arith, c.if-out-at.false, c.loop-i.invariant.low)

pub put_moment-requires-in-loop-i : goal.put_moment-requires-in-loop-i
put_moment-requires-in-loop-i c =
    let room : c.loop-i.at + c.moment_size-size.result ≤ length c.loop-i.out = omega (arith, c.if-out-at.false, c.loop-i.invariant.low) in
    (c.run_picks-net.ensures.1, simp (length-take, length-drop) (omega (arith, room, c.moment_size-size.ensures.0)))

pub loop-i-preserved : goal.loop-i-preserved
loop-i-preserved c =
    let l = c.loop-i in
    let n = c.moment_size-size.result in
    let bs = c.args.picks.now in
    let next = view c.run_picks-net.result in
    let ys = c.put_moment-in-loop-i.new.out in
    let long : length ys ≡ n = ap length c.put_moment-in-loop-i.ensures ∙ sym c.moment_size-size.ensures.0 in
    let room : l.at + n ≤ length l.out = omega (arith, c.if-out-at.false, l.invariant.low) in
    let kept : length (put_mid l.at (l.at + n - l.at) l.out ys) ≡ length l.out = search kept-length in
    let turned = one-after (view l.net) next bs l.i (omega arith) c.run_picks-net.ensures.0 in
    record {
      within = omega arith;
      sound = c.run_picks-net.ensures.1;
      full = kept ∙ l.invariant.full;
      low = omega (arith, kept, room);
      left = more_left l.out ys l.at n long l.invariant.low _ l.invariant.left;
      put = more-put (view l.net) next (picks_in bs) l.i l.at n _ l.out ys (few-picks bs l.i (omega arith)) turned c.moment_size-size.ensures.0 c.put_moment-in-loop-i.ensures room l.invariant.put _ kept;
    }

pub returns : goal.returns
returns c =
    let l = c.loop-i in
    let bs = c.args.picks.now in
    let ps = picks_in bs in
    let few = picks-length bs in
    let q = none_left (view l.net) ps l.i (length l.out - l.at) _ (take l.at l.out) (omega (arith, few.0, few.1)) l.invariant.put in
    ended c.args.out.now l.out (trace_put (view c.args.start) ps (length c.args.out.now)) l.at l.invariant.low q l.invariant.left
