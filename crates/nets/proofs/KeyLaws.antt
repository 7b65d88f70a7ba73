-- The test of one posting is equality; and counts summed over all keys are the ledger's length. Assumes nothing.
use Prim.Native.Nat.{◌+◌}
use mathlib.Core.Path.{◌≡◌, refl, sym, subst}
use mathlib.Core.Bool.{Bool, true, false, not, ◌||◌}
use mathlib.Core.List.{List, [], ◌∷◌, map}
use native.Mathlib.Omega.{arith}
use lib.Dec.{T}
use lib.ListN.{length}
use Rattle.values.specs.Lists.{bit, count, sum}
use Rattle.std.specs.List.{list_any}
use Rattle.values.specs.Values.{same_row}
use Rattle.values.proofs.Bools.{and_l, and_r, and_in, same_test}
use Rattle.values.proofs.SameLaws.{row_eq, row_refl}
use Rattle.nets.specs.Accounts.{Posting, same_posting, times}
use Rattle.nets.specs.Demand3.{differing, covers}
use Rattle.nets.proofs.TableLaws.{same_key, key_site, key_name, key_refl}

-- ── equality ──

pub posting_eq : (p q : Posting) → T (same_posting p q) → p ≡ q
posting_eq p q h =
    let k = and_l (same_key p.site p.name q.site q.name) (same_row p.row q.row) h in
    let r = and_r (same_key p.site p.name q.site q.name) (same_row p.row q.row) h in
    λ i.
    record {
      site = key_site p.site p.name q.site q.name k i;
      name = key_name p.site p.name q.site q.name k i;
      row = row_eq p.row q.row r i;
    }

pub posting_refl : (p : Posting) → T (same_posting p p)
posting_refl p =
    and_in (same_key p.site p.name p.site p.name) (same_row p.row p.row) (key_refl p.site p.name) (row_refl p.row)

pub posting_sym : (p q : Posting) → same_posting p q ≡ same_posting q p
posting_sym p q =
    same_test (same_posting p q) (same_posting q p)
    (λ h. subst (λ (x : Posting). T (same_posting x p)) (posting_eq p q h) (posting_refl p))
    (λ h. subst (λ (x : Posting). T (same_posting x q)) (posting_eq q p h) (posting_refl q))

-- ── sums over keys ──

sum-zero : (keys : List Posting) → sum (map (λ k. 0) keys) ≡ 0
sum-zero [] = refl
sum-zero (k ∷ keys) = omega (arith, sum-zero keys)

sum-add :
    (x : Posting) (l : List Posting) (keys : List Posting) →
    sum (map (λ k. bit (same_posting k x) + times k l) keys) ≡ count (λ k. same_posting k x) keys + sum (map (λ k. times k l) keys)
sum-add x l [] = omega arith
sum-add x l (k ∷ keys) = omega (arith, sum-add x l keys)

-- a key that none of the keys is
none_is : (k : Posting) (keys : List Posting) → T (not (list_any (same_posting k) keys)) → count (λ j. same_posting j k) keys ≡ 0
none_is k [] h = refl
none_is k (j ∷ keys) h = rw (posting_sym j k) (go (same_posting k j) h (none_is k keys))
  where
    go : (b : Bool) → T (not (b || list_any (same_posting k) keys)) → (T (not (list_any (same_posting k) keys)) → count (λ j. same_posting j k) keys ≡ 0) → bit b + count (λ j. same_posting j k) keys ≡ 0
    go true h ih = absurd h
    go false h ih = omega (arith, ih h)

-- one of differing keys is counted once
once : (x : Posting) (keys : List Posting) → T (differing keys) → T (list_any (λ k. same_posting k x) keys) → count (λ k. same_posting k x) keys ≡ 1
once x [] d h = absurd h
once x (k ∷ keys) d h = go (same_posting k x) refl h (once x keys (and_r (not (list_any (same_posting k) keys)) (differing keys) d))
  where
    go : (b : Bool) → same_posting k x ≡ b → T (b || list_any (λ j. same_posting j x) keys) → (T (list_any (λ j. same_posting j x) keys) → count (λ j. same_posting j x) keys ≡ 1) → bit b + count (λ j. same_posting j x) keys ≡ 1
    go true e h ih =
        let q : count (λ j. same_posting j x) keys ≡ 0 =
        subst (λ (y : Posting). count (λ j. same_posting j y) keys ≡ 0) (posting_eq k x (subst T (sym e) tt)) (none_is k keys (and_l (not (list_any (same_posting k) keys)) (differing keys) d)) in
        omega arith
    go false e h ih = omega (arith, ih h)

-- over keys that differ and leave out none, the counts sum to the ledger's length
pub sum_keys : (keys : List Posting) → T (differing keys) → (l : List Posting) → T (covers keys l) → sum (map (λ k. times k l) keys) ≡ length l
sum_keys keys d [] h = sum-zero keys
sum_keys keys d (x ∷ l) h =
    omega (arith, sum-add x l keys, once x keys d (and_l (list_any (λ k. same_posting k x) keys) (covers keys l) h), sum_keys keys d l (and_r (list_any (λ k. same_posting k x) keys) (covers keys l) h))
