-- `step_bytes::answers::put_answer_at` meets its contract: the part of 24 bytes at the answer's place, if there is room. Assumes nothing.
use Prim.Native.Nat.{ℕ, ◌+◌, ◌-◌, ◌*◌}
use mathlib.Core.Path.{◌≡◌}
use mathlib.Core.Bool.{Bool, true, false, cond}
use mathlib.Core.List.{List}
use borrow.Rule.Slice.PartMut.{put_mid}
use Rattle.value_bytes.specs.Bytes.{put_at}
use Rattle.nets.specs.Answers.{Answer}
use Rattle.nets.specs.Answers.{said_of}
use Rattle.step_bytes.specs.AnswerBytes.{answer_bytes}
use Rattle.step_bytes.proofs.AnswerLaws.{part-put}
use Rattle.step_bytes.proofs.answers.put_answer_at.Goals as goal

put : (room : Bool) (i : ℕ) (a : Answer) (o ys : List ℕ) → room ≡ true → ys ≡ answer_bytes (said_of a) →
    put_mid (i * 24) (i * 24 + 24 - i * 24) o ys ≡ cond room (put_at (i * 24) (answer_bytes (said_of a)) o) o
put true i a o ys e y = part-put (said_of a) (i * 24) o ys y
put false i a o ys e y = cc

pub returns-then-room : goal.returns-then-room
returns-then-room c = search put
