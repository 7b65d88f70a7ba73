-- `window::readings::draft_int` meets its contract: past the draft's end there is nothing, and before it what the slot holds.
use native.Mathlib.Omega.{arith}
use mathlib.Core.Path.{◌≡◌, sym, ap, ◌∙◌}
use Prim.Native.Nat.{◌≤◌, ◌<◌}
use Rattle.std.specs.Prelude.{None, Some}
use lib.ListN.{length, get_or, take, length-take}
use lib.Seq.{get_or-take}
use Rattle.window.specs.WindowCalls.{got_int}
use Rattle.window.proofs.RecordLaws.{past-draft, in_draft}
use borrow.Author.Rules.{rules}
use Rattle.window.proofs.readings.draft_int.Goals as goal

pub returns-in_err-get : goal.returns-in_err-get
returns-in_err-get c =
    let d = c.args.d in
    let n : length d.slots ≡ 4 = search rules in
    let past : length (take d.count d.slots) ≤ c.args.column = search rules in
    c.from_residual.ensures ∙ past-draft d c.args.column (omega (arith, length-take d.count d.slots))

pub returns : goal.returns
returns c =
    let d = c.args.d in
    let n : length d.slots ≡ 4 = search rules in
    let within : c.args.column < length (take d.count d.slots) = search rules in
    let low : c.args.column < d.count = omega (arith, length-take d.count d.slots) in
    let held : Some c.in_ok-branch.field-0 ≡ get_or (take d.count d.slots) c.args.column None = sym c.in_ok-branch.was ∙ search rules in
    in_draft d c.args.column _ low (c.value_int.ensures ∙ ap got_int (held ∙ get_or-take d.count d.slots c.args.column None low))
