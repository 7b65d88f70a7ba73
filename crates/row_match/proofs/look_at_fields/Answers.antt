-- The first field that fails decides, if there is one.
use Rattle.std.proofs.Common.{◌≤◌, ◌+◌, length, refl, arith, rules, Fits, w64}
use Rattle.values.proofs.LookLaws.{looked-first}
use Rattle.rows.specs.Plans.{meets}
use Rattle.row_match.proofs.FieldLaws.{agree_at, looked-at}
use Rattle.row_match.proofs.look_at_fields.Goals as goal

pub overflow_add-result : goal.overflow_add-result
overflow_add-result c =
    let a = c.args in
    let low : c.in-Some.at + 1 ≤ length a.wants.now =
    omega (arith, looked-at meets a.wants.now a.row.now c.first_unmet.ensures _ c.in-Some.is refl, looked-first meets a.wants.now a.row.now) in
    let fits : Fits w64 (length a.wants.now) = search rules in
    search (rules, low, fits)

pub returns-in-None : goal.returns-in-None
returns-in-None c =
    let a = c.args in
    (agree_at meets a.wants.now a.row.now c.first_unmet.ensures _ c.in-None.is refl, looked-at meets a.wants.now a.row.now c.first_unmet.ensures _ c.in-None.is (omega (arith, c.min.ensures)))

pub returns-in-Some : goal.returns-in-Some
returns-in-Some c =
    let a = c.args in
    (agree_at meets a.wants.now a.row.now c.first_unmet.ensures _ c.in-Some.is refl, looked-at meets a.wants.now a.row.now c.first_unmet.ensures _ c.in-Some.is refl)
