-- `window_bytes::put::ints_bytes` meets its contract: the bytes of the Ints passed, then zeros.
use Prim.Native.Nat.{ℕ, ◌+◌, ◌-◌, ◌*◌, ◌≤◌}
use native.Mathlib.Omega.{arith}
use mathlib.Core.Path.{◌≡◌, refl, ap, ap₂, ◌∙◌}
use mathlib.Core.List.{List, [], ◌∷◌, ◌++◌, map}
use lib.IntN.{ℤ, pos}
use lib.ListN.{length, get_or, drop, replicate}
use borrow.Author.Rules.{rules}
use borrow.Rule.Slice.PartMut.{put_mid}
use Rattle.values.specs.Lists.{firsts}
use Rattle.value_bytes.specs.Bytes.{end_to_end}
use Rattle.value_bytes.proofs.Stores.{kept-length, drop-replicate, ends_more}
use Rattle.window_rules.specs.WindowBytes.{int_bytes}
use Rattle.window_bytes.proofs.put.ints_bytes.Invariants.{passed}
use Rattle.window_bytes.proofs.put.ints_bytes.Goals as goal

-- `v` is the Int as it was handed on
one_more : (xs : List ℤ) (i : ℕ) (v : ℤ) (o out ys : List ℕ) → v ≡ get_or xs i (pos 0) → out ≡ passed i xs ++ drop (i * 4) o → ys ≡ int_bytes v →
    put_mid (i * 4) (i * 4 + 4 - i * 4) out ys ≡ passed (i + 1) xs ++ drop ((i + 1) * 4) o
one_more xs i v o out ys q e h = ends_more int_bytes (pos 0) 4 (λ z. refl) xs i o out ys e (h ∙ ap int_bytes q)

all-passed : (xs : List ℤ) → firsts int_bytes (pos 0) (length xs) xs ≡ map int_bytes xs
all-passed [] = refl
all-passed (x ∷ xs) = ap (int_bytes x ∷◌) (all-passed xs)

ended : (xs : List ℤ) (i : ℕ) (out : List ℕ) → i ≤ length xs → length xs ≤ i → out ≡ passed i xs ++ drop (i * 4) (replicate 64 0) → out ≡ end_to_end (map int_bytes xs) ++ replicate (64 - 4 * length xs) 0
ended xs i out a b e =
    let q : i ≡ length xs = omega arith in
    let m : 64 - i * 4 ≡ 64 - 4 * length xs = omega arith in
    e
    ∙ ap₂ (λ (k : ℕ) (l : List ℕ). passed k xs ++ l) q (drop-replicate (i * 4) 64 0 ∙ ap (λ (k : ℕ). replicate k 0) m)
    ∙ ap (λ (l : List (List ℕ)). end_to_end l ++ replicate (64 - 4 * length xs) 0) (all-passed xs)

pub loop-i-preserved : goal.loop-i-preserved
loop-i-preserved c =
    let put = c.copy_from_slice.ensures.after ∙ c.int_bytes.ensures in
    record { within = omega arith; full = search kept-length; filled = search (one_more, rules) }

pub returns : goal.returns
returns c = search ended
