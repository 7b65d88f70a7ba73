-- A ledger's own keys differ and cover it; and any key left out is counted 0 times. Assumes nothing.
use Prim.Native.Nat.{◌+◌}
use mathlib.Core.Path.{◌≡◌, refl, sym, subst}
use mathlib.Core.Bool.{Bool, true, false, not, ◌||◌}
use mathlib.Core.List.{List, [], ◌∷◌}
use native.Mathlib.Omega.{arith}
use lib.Dec.{T}
use Rattle.values.specs.Lists.{bit, keep}
use Rattle.std.specs.List.{list_any}
use Rattle.values.proofs.Bools.{and_l, and_r, and_in, not-T→false}
use Rattle.values.proofs.ListLaws.{all_weaken}
use Rattle.nets.specs.Accounts.{Posting, same_posting, times}
use Rattle.nets.specs.Demand3.{differing, covers, keys_of}
use Rattle.nets.proofs.KeyLaws.{posting_eq, posting_refl, posting_sym}

pub keys_differ : (l : List Posting) → T (differing (keys_of l))
keys_differ [] = tt
keys_differ (p ∷ l) = go (not (list_any (same_posting p) (keys_of l))) refl (keys_differ l)
  where
    go : (b : Bool) → not (list_any (same_posting p) (keys_of l)) ≡ b → T (differing (keys_of l)) → T (differing (keep b p (keys_of l)))
    go true e ih = and_in (not (list_any (same_posting p) (keys_of l))) (differing (keys_of l)) (subst T (sym e) tt) ih
    go false e ih = ih

-- a key found by one test is found by the test the other way round
flip_any : (p : Posting) (ks : List Posting) → list_any (λ k. same_posting k p) ks ≡ list_any (same_posting p) ks
flip_any p [] = refl
flip_any p (k ∷ ks) = rw (posting_sym k p, flip_any p ks)

-- one more key covers no less
found-more : (b : Bool) (p q : Posting) (ks : List Posting) → T (list_any (λ k. same_posting k q) ks) → T (list_any (λ k. same_posting k q) (keep b p ks))
found-more true p q ks h = go (same_posting p q)
  where
    go : (b : Bool) → T (b || list_any (λ k. same_posting k q) ks)
    go true = tt
    go false = h
found-more false p q ks h = h

pub keys_cover : (l : List Posting) → T (covers (keys_of l) l)
keys_cover [] = tt
keys_cover (p ∷ l) =
    let ks = keys_of (p ∷ l) in
    and_in (list_any (λ k. same_posting k p) ks) (covers ks l) (go (list_any (same_posting p) (keys_of l)) refl)
    (all_weaken (λ q. list_any (λ k. same_posting k q) (keys_of l)) (λ q. list_any (λ k. same_posting k q) ks) l
    (λ q. found-more (not (list_any (same_posting p) (keys_of l))) p q (keys_of l)) (keys_cover l))
  where
    head : (b : Bool) → T b → T (b || list_any (λ k. same_posting k p) (keys_of l))
    head true h = tt
    head false h = absurd h

    go : (a : Bool) → list_any (same_posting p) (keys_of l) ≡ a → T (list_any (λ k. same_posting k p) (keep (not a) p (keys_of l)))
    go false e = head (same_posting p p) (posting_refl p)
    go true e = rw (flip_any p (keys_of l), e) tt

-- where keys cover a ledger, a posting that is none of them is not in it
pub uncounted : (keys l : List Posting) (k : Posting) → T (covers keys l) → T (not (list_any (same_posting k) keys)) → times k l ≡ 0
uncounted keys [] k c n = refl
uncounted keys (p ∷ l) k c n = go (same_posting k p) refl (uncounted keys l k (and_r (list_any (λ j. same_posting j p) keys) (covers keys l) c) n)
  where
    found : T (list_any (λ j. same_posting j p) keys)
    found = and_l (list_any (λ j. same_posting j p) keys) (covers keys l) c

    go : (b : Bool) → same_posting k p ≡ b → times k l ≡ 0 → bit b + times k l ≡ 0
    go true e ih =
        let same = posting_eq k p (subst T (sym e) tt) in
        absurd (rw (flip_any k keys, not-T→false (list_any (same_posting k) keys) n) at (subst (λ (q : Posting). T (list_any (λ j. same_posting j q) keys)) (sym same) found))
    go false e ih = omega arith
