-- Answers as bytes: number, rows added, rows taken; 24 bytes each.
use Rattle.std.specs.Prelude.{ℕ, List, ◌++◌, map}
use Rattle.value_bytes.specs.Bytes.{end_to_end, eight_bytes}
use Rattle.nets.specs.declared.Pick.{Pick}
use Rattle.nets.specs.Nets.{Net, Outcome}
use Rattle.nets.specs.Accounts.{answers}
use Rattle.nets.specs.Answers.{Said, refusing, doing, added_said, taken_said, answer_of}

-- 0 for done
abbrev pub number_said : Said → ℕ
number_said (refusing n vs) = n
number_said (doing a t) = 0

unfoldable pub three_bytes : ℕ → ℕ → ℕ → List ℕ
three_bytes a b c = eight_bytes a ++ (eight_bytes b ++ eight_bytes c)

unfoldable pub answer_bytes : Said → List ℕ
answer_bytes s = three_bytes (number_said s) (added_said s) (taken_said s)

-- the answers to a list of picks
unfoldable pub answers_put : Net → List Pick → List ℕ
answers_put net ps = end_to_end (map (λ (o : Outcome). answer_bytes (answer_of o)) (answers net ps))
