-- The rows are stored behind those in use.
use Rattle.std.proofs.Common.{◌≡◌, ◌≤◌, ◌+◌, ◌-◌, ℕ, List, ◌++◌, length, take, map, refl, sym, ap, ◌∙◌, rules, arith}
use borrow.Rule.Slice.PartMut.{put_mid, post_of}
use Rattle.std.proofs.lemmas.Slice.{take-put_mid}
use Rattle.std.proofs.lemmas.List.{map-append, length-append, length-take}
use Rattle.values.specs.Lists.{firsts}
use Rattle.values.proofs.Firsts.{firsts_taken}
use Rattle.rows.specs.View.{no_row, values_of}
use Rattle.rows.proofs.Lengths.{rows_long}
use Rattle.row_change.proofs.appending.append.Goals as goal

put_behind : {A B : Type 0} (f : A → B) (z : A) (n k : ℕ) (l more : List A) → n ≤ length l → firsts f z (n + length more) (put_mid n k l more) ≡ firsts f z n l ++ map f more
put_behind f z n k l more low =
    let rest = post_of n k l in
    firsts_taken f z (n + length more) (put_mid n k l more) (omega (arith, length-append (take n l) (more ++ rest), length-append more rest, length-take n l))
    ∙ ap (map f) (take-put_mid n k l more (n + length more) refl low)
    ∙ map-append f (take n l) more
    ∙ ap (◌++ map f more) (sym (firsts_taken f z n l low))

pub returns : goal.returns
returns c =
    let r = c.args.r in
    let more = c.args.more.now in
    record {
      columns = refl;
      rows = ap (λ l. firsts (values_of r.columns) no_row (r.count + length more) (put_mid r.count (r.count + length more - r.count) r.rows l)) c.copy_from_slice.ensures.after
          ∙ put_behind (values_of r.columns) no_row r.count _ r.rows more (omega (arith, rows_long r _ c.well_formed.0));
      shaped = search rules;
    }
