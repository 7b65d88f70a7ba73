-- `load::file_read` meets its contract: check by check, in order.
use mathlib.Core.Path.{◌≡◌, refl, sym, ◌∙◌}
use mathlib.Core.List.{[]}
use Rattle.std.specs.Prelude.{Option, None, Some}
use Rattle.load.proofs.LoadCall.{stopped-file, records-good, bad-linked, well_linked}
use Rattle.load.proofs.file_read.Goals as goal

none_of : {A : Type 0} (o : Option A) → ((a : A) → o ≡ Some a → ⊥) → o ≡ None
none_of None h = refl
none_of (Some a) h = absurd (h a refl)

pub bad_link-requires : goal.bad_link-requires
bad_link-requires c =
    let n = c.in_ok-length_fault.ensures in
    let read = rw c.in-Ok.is at c.read_all-read.ensures in
    (n.whole _ refl, records-good _ (n.passed _ refl) _ _ (read []))

pub returns-in-Some : goal.returns-in-Some
returns-in-Some c =
    let read = rw c.in-Ok.is at c.read_all-read.ensures in
    bad-linked _ (c.in_ok-length_fault.ensures.passed _ refl) _ _ (read []) _ (sym c.in-Some.is ∙ c.bad_link.ensures)

pub returns-in_default-bad_link : goal.returns-in_default-bad_link
returns-in_default-bad_link c =
    let read = rw c.in-Ok.is at c.read_all-read.ensures in
    rw c.in-Ok.is (λ saved. well_linked _ (c.in_ok-length_fault.ensures.passed _ refl) _ _ (read saved) (sym (none_of _ c.in_default-bad_link.not-Some) ∙ c.bad_link.ensures))

pub returns-in_default : goal.returns-in_default
returns-in_default c =
    let read = rw c.in_default.is at c.read_all-read.ensures in
    rw c.in_default.is (stopped-file _ (c.in_ok-length_fault.ensures.passed _ refl) _ read)
