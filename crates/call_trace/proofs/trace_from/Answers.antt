-- `call_trace::trace_from` meets its contract: the picks skipped are carried out, and then the trace begins. Assumes nothing.
use Prim.Native.Nat.{min, ℕ, ◌*◌, ◌-◌, ◌/◌}
use mathlib.Core.Path.{◌≡◌, refl, ap, ◌∙◌}
use mathlib.Core.List.{List}
use native.Mathlib.Omega.{arith}
use lib.ListN.{length, take, drop, length-drop}
use lib.Seq.{take_all}
use Rattle.nets.specs.Nets.{Net}
use Rattle.nets.specs.Accounts.{after}
use Rattle.nets.specs.View.{view}
use Rattle.step_bytes.specs.PickBytes.{picks_in}
use Rattle.call_trace.proofs.TraceLaws.{skipped_taken, skipped_left, trace_short, trace_given}
use Rattle.call_trace.proofs.trace_from.Goals as goal

-- the net that the trace begins with
begins : (net first : Net) (bs : List ℕ) (from n : ℕ) → n ≡ min from (length bs / 2) → first ≡ after net (picks_in (take (n * 2) bs)) → first ≡ after net (take from (picks_in bs))
begins net first bs from n e q = q ∙ ap (after net) (skipped_taken bs from n e)

-- the picks from place n on, as a part
rest : (bs : List ℕ) (n : ℕ) → take (length bs - n) (drop n bs) ≡ drop n bs
rest bs n = take_all (length bs - n) (drop n bs) (simp length-drop (omega arith))

pub returns-then-out-size : goal.returns-then-out-size
returns-then-out-size c =
    let a = c.args in
    let bs = a.picks.now in
    let first = view c.run_picks-first.result in
    let b = begins (view a.net) first bs a.from c.min-skipped.result c.min-skipped.ensures c.run_picks-first.ensures.0 in
    record {
      gives = trace_short (view a.net) first (picks_in bs) a.from a.out.now b c.moment_size-size.result c.moment_size-size.ensures.0 c.if-out-size.true c.moment_size-size.ensures.1;
      refused = (omega arith, refl);
    }

pub returns : goal.returns
returns c =
    let a = c.args in
    let n = c.min-skipped.result in
    let bs = a.picks.now in
    let first = view c.run_picks-first.result in
    let b = begins (view a.net) first bs a.from n c.min-skipped.ensures c.run_picks-first.ensures.0 in
    let q = ap picks_in (rest bs (n * 2)) ∙ skipped_left bs a.from n c.min-skipped.ensures in
    record {
      gives = trace_given (view a.net) first (picks_in bs) a.from a.out.now b c.moment_size-size.result c.moment_size-size.ensures.0 _ _ _ c.if-out-size.false q c.put_trace.ensures.0 c.put_trace.ensures.1;
      refused = tt;
    }
