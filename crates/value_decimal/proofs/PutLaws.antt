-- Digits put from the last one on: what stands before the place reached is as it was, and what stands from there on ends the number.
use Prim.Native.Nat.{ℕ, suc, ◌+◌, ◌-◌, ◌/◌, ◌%◌, ◌≤◌, ◌<◌}
use mathlib.Core.Path.{◌≡◌, refl, sym, ap, ◌∙◌}
use mathlib.Core.List.{List, ◌∷◌, ◌++◌, append-nil, append_assoc}
use native.Mathlib.Omega.{arith}
use lib.ListN.{length, take, drop, set, length-append, length-drop, length-set, take-append-drop}
use lib.Seq.{take-take, take-set-le, set_split, drop_at, length-take-le, drop-length}
use Rattle.value_decimal.specs.Decimals.{digit, decimal}
use Rattle.value_decimal.proofs.DecimalLaws.{decimal-one, decimal-more, some-digit}

-- `rest` is still to be put before place `at` of `out`, which was `o`
pub record Reached (o : List ℕ) (n : ℕ) (out : List ℕ) (at rest : ℕ) : Type 0 where
  pub room : length (decimal n) ≤ length o
  pub long : length out ≡ length o
  pub within : at ≤ length o
  pub before : take at out ≡ take at o
  pub digits : decimal n ≡ decimal rest ++ drop at out

pub begins : (o : List ℕ) (n : ℕ) → length (decimal n) ≤ length o → Reached o n o (length o) n
begins o n h = record { room = h; long = refl; within = omega arith; before = refl; digits = rw (drop-length o, append-nil) refl }

module _ {o : List ℕ} {n : ℕ} {out : List ℕ} {at rest : ℕ} (r : Reached o n out at rest) where
  -- there is room for one digit more
  pub one_left : 1 ≤ at
  one_left = omega (arith, r.room, r.long, r.within, some-digit rest, ap length r.digits ∙ length-append (decimal rest) (drop at out), length-drop at out)

  abbrev put : ℕ → List ℕ
  put d = set out (at - 1) d

  stored : (d : ℕ) → put d ≡ take (at - 1) out ++ d ∷ drop at out
  stored d =
      let e : suc (at - 1) ≡ at = omega (arith, one_left) in
      set_split out (at - 1) d (omega (arith, one_left, r.within, r.long)) ∙ ap (λ (k : ℕ). take (at - 1) out ++ d ∷ drop k out) e

  kept : (d : ℕ) → take (at - 1) (put d) ≡ take (at - 1) o
  kept d =
      take-set-le (at - 1) out (at - 1) d (omega arith)
      ∙ sym (take-take (at - 1) at out (omega arith))
      ∙ ap (take (at - 1)) r.before
      ∙ take-take (at - 1) at o (omega arith)

  behind : (d : ℕ) → drop (at - 1) (put d) ≡ d ∷ drop at out
  behind d = ap (drop (at - 1)) (stored d) ∙ drop_at (take (at - 1) out) (d ∷ drop at out) (at - 1) (length-take-le (at - 1) out (omega (arith, r.within, r.long)))

  -- the last digit of what is left
  pub one_more : 9 < rest → Reached o n (put (digit (rest % 10))) (at - 1) (rest / 10)
  one_more h =
      record {
        room = r.room;
        long = length-set out (at - 1) (digit (rest % 10)) ∙ r.long;
        within = omega (arith, r.within);
        before = kept (digit (rest % 10));
        digits = r.digits ∙ rw (decimal-more rest h, behind (digit (rest % 10)), append_assoc) refl;
      }

  -- the first digit of all
  first : rest ≤ 9 → decimal n ≡ drop (at - 1) (put (digit rest))
  first h = r.digits ∙ rw (decimal-one rest (omega arith), behind (digit rest)) refl

  pub all-put : rest ≤ 9 → put (digit rest) ≡ take (at - 1) o ++ decimal n
  all-put h = sym (take-append-drop (at - 1) (put (digit rest))) ∙ rw (kept (digit rest), sym (first h)) refl

  pub place_is : rest ≤ 9 → at - 1 + length (decimal n) ≡ length o
  place_is h = omega (arith, one_left, r.within, r.long, ap length (first h) ∙ length-drop (at - 1) (put (digit rest)), length-set out (at - 1) (digit rest))
