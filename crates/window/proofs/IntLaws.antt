-- An array's first Ints as a list: those in use as a slice has them, and moved to the front.
use Prim.Native.Nat.{ℕ, zero, suc, ◌≤◌, ◌+◌, ◌-◌}
use native.Mathlib.Omega.{arith}
use mathlib.Core.Path.{◌≡◌, refl, ap, subst}
use mathlib.Core.List.{List, [], ◌∷◌}
use lib.Dec.{lit<}
use lib.IntN.{ℤ, pos}
use lib.ListN.{length, get_or, take, drop}
use mir.Syntax.{w32}
use mir.Val.{Val, SFits}
use denote.Array.{each}
use denote.Shadow.{shadow}
use denote.Signed.{SInt}
use Rattle.std.specs.List.{CopiedTo}
use Rattle.values.specs.Lists.{firsts}
use Rattle.values.proofs.Firsts.{firsts_same}
use Rattle.window.specs.WindowCalls.{ints_of}

pub firsts-take : {A : Type 0} (z : A) (n : ℕ) (l : List A) → n ≤ length l → firsts (λ (a : A). a) z n l ≡ take n l
firsts-take z zero l h = refl
firsts-take z (suc n) [] h = absurd (omega arith)
firsts-take z (suc n) (a ∷ l) h = ap (a ∷◌) (firsts-take z n l (omega arith))

-- what holding Ints says of each; past their end 0 is read
pub int-fits : (xs : List ℤ) (us : List Val) (i : ℕ) → shadow (each ℤ (SInt w32).own_val xs us) → SFits w32 (get_or xs i (pos 0))
int-fits [] us i p = record { sfits = lit< tt }
int-fits (x ∷ xs) [] i p = absurd p
int-fits (x ∷ xs) (u ∷ us) zero p = record { sfits = p.0.1 }
int-fits (x ∷ xs) (u ∷ us) (suc i) p = int-fits xs us i p.1

-- the oldest goes
moved : (n : ℕ) (xs ys : List ℤ) → CopiedTo xs ys 1 0 n → ints_of n ys ≡ drop 1 (ints_of (suc n) xs)
moved n [] ys h = firsts_same (λ (z : ℤ). z) (pos 0) (λ (z : ℤ). z) (pos 0) n ys [] (λ j q. h j (pos 0) (omega arith) (omega arith))
moved n (x ∷ xs) ys h =
    firsts_same (λ (z : ℤ). z) (pos 0) (λ (z : ℤ). z) (pos 0) n ys xs
    (λ j q. let e : 1 + (j - 0) ≡ suc j = omega arith in subst (λ (m : ℕ). get_or ys j (pos 0) ≡ get_or (x ∷ xs) m (pos 0)) e (h j (pos 0) (omega arith) (omega arith)))

pub oldest_gone : (n : ℕ) (xs ys : List ℤ) → 1 ≤ n → CopiedTo xs ys 1 0 (n - 1) → ints_of (n - 1) ys ≡ drop 1 (ints_of n xs)
oldest_gone n xs ys low h =
    let e : suc (n - 1) ≡ n = omega arith in
    subst (λ (m : ℕ). ints_of (n - 1) ys ≡ drop 1 (ints_of m xs)) e (moved (n - 1) xs ys h)
