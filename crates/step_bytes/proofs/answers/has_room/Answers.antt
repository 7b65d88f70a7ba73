-- `step_bytes::answers::has_room` meets its contract: divided, so that no product leaves 64 bits. Assumes nothing.
use Prim.Native.Nat.{ℕ, ◌*◌, ◌/◌}
use mathlib.Core.Path.{◌≡◌, refl, sym, ◌∙◌}
use mathlib.Core.Bool.{Bool, true, false}
use native.Mathlib.Omega.{arith}
use lib.Dec.{leb}
use borrow.Author.Tests.{leb-true, leb-false, le-leb, lt-leb}
use Rattle.step_bytes.proofs.answers.has_room.Goals as goal

divided : (n l : ℕ) → leb n (l / 24) ≡ leb (n * 24) l
divided n l = go (leb n (l / 24)) refl
  where
    go : (b : Bool) → leb n (l / 24) ≡ b → leb n (l / 24) ≡ leb (n * 24) l
    go true e = e ∙ sym (le-leb (n * 24) l (omega (arith, leb-true n (l / 24) e)))
    go false e = e ∙ sym (lt-leb (n * 24) l (omega (arith, leb-false n (l / 24) e)))

pub returns : goal.returns
returns c = search divided
