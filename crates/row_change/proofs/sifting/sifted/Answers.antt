-- After `i` rows, those marked as wanted stand in front, and those not yet read as they were.
use Rattle.std.proofs.Common.{◌≡◌, refl, rules, arith}
use Rattle.rows.proofs.Lengths.{row-there}
use Rattle.row_change.proofs.SweepLaws.{sift-starts, sift_stores, sift-passes, sift-ends}
use Rattle.row_change.proofs.sifting.sifted.Goals.{then-flag-want, else-flag-want}
use Rattle.row_change.proofs.sifting.sifted.Goals as goal

pub loop-i-init : goal.loop-i-init
loop-i-init c = record { low = search rules; sift = sift-starts _ _ _ _ _ }

pub loop-i-preserved : goal.loop-i-preserved
loop-i-preserved c =
    elim c.if-flag-want.branch [
      | then-flag-want w ↦ record {
        low = search rules;
        sift = rw (w.rows-is, w.found-is)
            (sift_stores _ _ _ _ _ c.loop-i.invariant.sift (row-there c.args.r _ c.well_formed.0 c.requires.count c.loop-i-test.true) w.if-flag-want.true);
      }
      | else-flag-want w ↦ record {
        low = search rules;
        sift = rw (w.rows-is, w.found-is) (sift-passes _ _ _ _ _ c.loop-i.invariant.sift w.if-flag-want.false);
      }
    ]

pub returns : goal.returns
returns c =
    let done : c.loop-i.i ≡ c.args.r.count = omega (arith, c.loop-i.invariant.low, c.loop-i-test.false) in
    record {
      columns = refl;
      rows = sift-ends _ _ _ _ _ c.loop-i.invariant.sift done;
      shaped = record { columns = c.requires.columns; count = omega (arith, c.requires.count, c.loop-i.invariant.sift.few) };
    }
