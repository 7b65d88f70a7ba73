-- `call_run::answers_given` meets its contract: too little room, or all answers and then the bytes that stood there. Assumes nothing.
use Prim.Native.Nat.{ℕ, ◌*◌, ◌/◌}
use mathlib.Core.Path.{◌≡◌, refl, sym, ap, ◌∙◌}
use mathlib.Core.Bool.{true, false}
use mathlib.Core.List.{List}
use native.Mathlib.Omega.{arith}
use lib.Dec.{leb}
use lib.ListN.{length}
use borrow.Author.Tests.{leb-true, leb-false}
use Rattle.value_bytes.specs.Bytes.{put_all}
use Rattle.nets.specs.Nets.{Net}
use Rattle.nets.specs.View.{view}
use Rattle.step_bytes.specs.PickBytes.{picks_in}
use Rattle.step_bytes.specs.AnswerBytes.{answers_put}
use Rattle.step_bytes.proofs.PickLaws.{picks-length}
use Rattle.step_bytes.proofs.AnswerLaws.{answers-size}
use Rattle.call_rules.specs.Replies.{needed, if_room}
use Rattle.call_rules.specs.Calls.{Gives}
use Rattle.call_rules.proofs.CallLaws.{gives-short, gives_all}
use Rattle.call_run.proofs.answers_given.Goals as goal

module _ (m : Net) (picks o : List ℕ) where
  size : length (answers_put m (picks_in picks)) ≡ length picks / 2 * 24
  size = let h = picks-length picks in answers-size m (picks_in picks) ∙ ap (λ (n : ℕ). n * 24) (omega (arith, h.0, h.1))

  short : (p : ℕ) → leb (length picks / 2 * 24) (length o) ≡ false → p ≡ needed (length picks / 2 * 24) → Gives (if_room (answers_put m (picks_in picks)) o) o o 21 p
  short p h e = gives-short (answers_put m (picks_in picks)) o (length picks / 2 * 24) size p (leb-false _ _ h) e

  given : (out : List ℕ) → leb (length picks / 2 * 24) (length o) ≡ true → out ≡ put_all (answers_put m (picks_in picks)) o → Gives (if_room (answers_put m (picks_in picks)) o) o out 0 (length picks / 2 * 24)
  given out h e = gives_all (answers_put m (picks_in picks)) o (length picks / 2 * 24) size out (leb-true _ _ h) e

pub returns-then-not-has_room : goal.returns-then-not-has_room
returns-then-not-has_room c =
    let a = c.args in
    record { gives = short (view a.net) a.picks.now a.out.now _ (sym c.has_room.ensures ∙ c.if-not-has_room.true) c.answers_length.ensures; refused = (omega arith, refl) }

pub returns : goal.returns
returns c =
    let a = c.args in
    record { gives = given (view a.net) a.picks.now a.out.now _ (sym c.has_room.ensures ∙ c.if-not-has_room.false) c.carry_out.ensures.1; refused = tt }
