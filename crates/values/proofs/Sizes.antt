-- Limits on a list's length, as tests: `k` is the length, `n` the count that it goes by, `b` the test of the elements. Assumes nothing.
use Prim.Native.Nat.{ℕ, ◌<◌, ◌≤◌}
use mathlib.Core.Path.{◌≡◌, sym, ◌∙◌}
use mathlib.Core.Bool.{Bool, true, false, ◌&&◌, and-false}
use native.Mathlib.Omega.{arith}
use lib.Dec.{leb}
use borrow.Author.Tests.{le-leb, lt-leb, leb-true}
use Rattle.values.proofs.Bools.{and_first, and_last}

module _ (m : ℕ) {k n : ℕ} (b : Bool) (e : k ≡ n) where
  -- 1 to `m`
  pub some-over : m < n → false ≡ (leb 1 k && leb k m && b)
  some-over h = rw (lt-leb k m (omega arith), and-false)

  pub some_fits : (n ≡ 0 → ⊥) → n ≤ m → b ≡ (leb 1 k && leb k m && b)
  some_fits h i = rw (le-leb 1 k (omega arith), le-leb k m (omega arith))

  pub some_is : {t : Bool} → t ≡ (leb 1 k && leb k m && b) → t ≡ true → n ≤ m
  some_is q h =
      let l : k ≤ m = leb-true k m (and_last (leb 1 k) (leb k m) (and_first (leb 1 k && leb k m) b (sym q ∙ h))) in
      omega arith
