-- `step_bytes::answers::put_answer` meets its contract: done with both counts, or a number and no counts. Assumes nothing.
use Rattle.std.specs.Prelude.{Err, Ok}
use Prim.Native.Nat.{ℕ}
use mathlib.Core.Path.{◌≡◌}
use mathlib.Core.List.{List}
use Rattle.nets.specs.declared.Refusal.{Refusal}
use Rattle.nets.specs.Answers.{Answer}
use Rattle.nets.specs.Answers.{number_of, said_of}
use Rattle.step_bytes.specs.AnswerBytes.{three_bytes, answer_bytes}
use Rattle.step_bytes.proofs.answers.put_answer.Goals as goal

as-done : (a : Answer) (m n : ℕ) (out : List ℕ) → a ≡ Ok (record { added = m; taken = n }) → out ≡ three_bytes 0 m n → out ≡ answer_bytes (said_of a)
unfolding answer_bytes
as-done a m n out e o = rw (e, o)

as-refused : (a : Answer) (r : Refusal) (k : ℕ) (out : List ℕ) → a ≡ Err r → k ≡ number_of r → out ≡ three_bytes k 0 0 → out ≡ answer_bytes (said_of a)
unfolding answer_bytes
as-refused a r k out e n o = rw (e, o, n)

pub returns-in-Ok : goal.returns-in-Ok
returns-in-Ok c = search as-done

pub returns-in-Err : goal.returns-in-Err
returns-in-Err c = search as-refused
