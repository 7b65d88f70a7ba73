-- The bytes of a call of `write`, where the buffer has room for them. Only the code speaks of it: the rule is `write`.
use Rattle.std.specs.Prelude.{ℕ, cond, List, leb, length}
use Rattle.files.specs.Writing.{Wrote, not_written, wrote}

unfoldable pub if_room : List ℕ → List ℕ → Wrote
if_room bs buffer = cond (leb (length bs) (length buffer)) (wrote bs) (not_written 21)
