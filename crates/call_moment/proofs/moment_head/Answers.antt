-- `call_moment::moment_head` meets its contract: eight bytes, and zeros behind them. Assumes nothing.
use Prim.Native.Nat.{ℕ}
use mathlib.Core.Path.{◌≡◌, refl}
use mathlib.Core.List.{List, ◌∷◌, ◌++◌}
use lib.ListN.{replicate}
use Rattle.value_bytes.specs.Bytes.{little_bytes}
use Rattle.call_rules.specs.Moments.{moment_head}
use Rattle.call_moment.proofs.moment_head.Goals as goal

filled : (a b n : ℕ) (h : List ℕ) → h ≡ 64 ∷ a ∷ b ∷ 0 ∷ little_bytes n → h ++ replicate 96 0 ≡ moment_head a b n
unfolding moment_head
filled a b n h e = rw e refl

pub returns : goal.returns
returns c =
    let h : c.copy_from_slice.new.self ≡ 64 ∷ c.args.tables ∷ c.args.threads ∷ 0 ∷ little_bytes c.args.records = rw c.to_le_bytes.ensures at c.copy_from_slice.ensures.after in
    filled _ _ _ _ h
