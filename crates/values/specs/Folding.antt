-- A text with its small letters as capitals, again as one number. Only the code speaks of it: the rule is `text_order`.
use Rattle.std.specs.Prelude.{ℕ, ◌+◌, ◌*◌, ◌/◌, ◌%◌}
use Rattle.values.specs.Values.{upper}

unfoldable pub folded_text : ℕ → ℕ
folded_text t = ((upper (t / 16777216 % 256) * 256 + upper (t / 65536 % 256)) * 256 + upper (t / 256 % 256)) * 256 + upper (t % 256)
