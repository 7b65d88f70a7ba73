-- `step_bytes::answers::put_number` meets its contract: the upper half's bytes are those of the number divided at once.
use Prim.Native.Nat.{ℕ, ◌/◌, ◌%◌}
use mathlib.Core.Path.{◌≡◌, ◌∙◌, refl}
use native.Mathlib.Omega.{arith}
use Rattle.value_bytes.specs.Bytes.{eight_bytes}
use Rattle.step_bytes.proofs.answers.put_number.Goals as goal

pub returns : goal.returns
unfolding eight_bytes
returns c =
    let n = c.args.n in
    let five : n / 4294967296 / 256 % 256 ≡ n / 1099511627776 % 256 = omega arith in
    let six : n / 4294967296 / 65536 % 256 ≡ n / 281474976710656 % 256 = omega arith in
    let seven : n / 4294967296 / 16777216 % 256 ≡ n / 72057594037927936 % 256 = omega arith in
    c.copy_from_slice.ensures.after ∙ c.to_le_bytes.ensures ∙ rw (five, six, seven) refl
