-- The row is stored behind those in use.
use Rattle.std.proofs.Common.{refl, rules, arith}
use Rattle.values.proofs.Firsts.{firsts_push}
use Rattle.rows.specs.View.{no_row, values_of}
use Rattle.rows.proofs.Lengths.{rows_long}
use Rattle.row_change.proofs.appending.push.Goals as goal

pub returns : goal.returns
returns c =
    let r = c.args.r in
    record {
      columns = refl;
      rows = firsts_push (values_of r.columns) no_row r.count r.rows c.args.row (omega (arith, rows_long r _ c.well_formed.0));
      shaped = search rules;
    }
