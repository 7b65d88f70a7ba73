-- At most 56 aliases have sites, localities 1 to 7, and no two the same of both. Assumes nothing.
use Prim.Native.Nat.{ℕ, zero, suc, ◌+◌, ◌-◌, ◌*◌, ◌≤◌, ◌<◌}
use mathlib.Core.Path.{◌≡◌, refl, sym, ap, ap₂, subst, ◌∙◌}
use mathlib.Core.Bool.{Bool, true, false, not, ◌&&◌, ◌||◌}
use mathlib.Core.List.{List, [], ◌∷◌}
use native.Mathlib.Omega.{arith}
use lib.Dec.{T, eqb, leb, leb→le, ltb, ltb→lt, lt→ltb}
use lib.ListN.{length}
use borrow.Author.Tests.{eq-eqb, eqb-true, eqb-false}
use Rattle.values.specs.Lists.{keep, filter}
use Rattle.std.specs.List.{list_all, list_any}
use Rattle.values.specs.Values.{site_ok, locality_ok}
use Rattle.values.proofs.Bools.{and_l, and_r, and_in}
use Rattle.values.proofs.ListLaws.{all_weaken}
use Rattle.nets.specs.declared.Alias.{Alias}
use Rattle.nets.specs.Sound.{alias_ok, same_alias, aliases_differ}

-- ── lists of numbered elements ──

none_first : (a b : Bool) → T (not (a || b)) → (a ≡ false) × T (not b)
none_first true b h = absurd h
none_first false b h = (refl, h)

none_of : (a b : Bool) → a ≡ false → T (not b) → T (not (a || b))
none_of a b e h = rw e h

module _ {A : Type 0} (key : A → ℕ) where
  abbrev has_key : ℕ → A → Bool
  has_key n a = eqb n (key a)

  abbrev lacks_key : ℕ → A → Bool
  lacks_key n a = not (has_key n a)

  -- no two elements have one number
  abbrev apart : List A → Bool
  apart [] = true
  apart (a ∷ l) = not (list_any (has_key (key a)) l) && apart l

  none_kept : (p q : A → Bool) (l : List A) → T (not (list_any p l)) → T (not (list_any p (filter q l)))
  none_kept p q [] h = tt
  none_kept p q (a ∷ l) h = go (q a) (none_first (p a) (list_any p l) h).0 (none_kept p q l (none_first (p a) (list_any p l) h).1)
    where
      go : (b : Bool) → p a ≡ false → T (not (list_any p (filter q l))) → T (not (list_any p (keep b a (filter q l))))
      go true e k = none_of (p a) (list_any p (filter q l)) e k
      go false e k = k

  apart-kept : (q : A → Bool) (l : List A) → T (apart l) → T (apart (filter q l))
  apart-kept q [] h = tt
  apart-kept q (a ∷ l) h =
      go (q a) (none_kept (has_key (key a)) q l (and_l (not (list_any (has_key (key a)) l)) (apart l) h)) (apart-kept q l (and_r (not (list_any (has_key (key a)) l)) (apart l) h))
    where
      go : (b : Bool) → T (not (list_any (has_key (key a)) (filter q l))) → T (apart (filter q l)) → T (apart (keep b a (filter q l)))
      go true k m = and_in (not (list_any (has_key (key a)) (filter q l))) (apart (filter q l)) k m
      go false k m = m

  all_lack : (n : ℕ) (l : List A) → T (not (list_any (has_key n) l)) → length (filter (lacks_key n) l) ≡ length l
  all_lack n [] h = refl
  all_lack n (a ∷ l) h = go (has_key n a) (none_first (has_key n a) (list_any (has_key n) l) h).0 (all_lack n l (none_first (has_key n a) (list_any (has_key n) l) h).1)
    where
      go : (b : Bool) → b ≡ false → length (filter (lacks_key n) l) ≡ length l → length (keep (not b) a (filter (lacks_key n) l)) ≡ length (a ∷ l)
      go true e k = let z : ◌≡◌ {A = ℕ} 0 1 = cc in absurd (omega arith)
      go false e k = ap suc k

  one_has : (n : ℕ) (l : List A) → T (apart l) → length l ≤ suc (length (filter (lacks_key n) l))
  one_has n [] h = omega arith
  one_has n (a ∷ l) h =
      go (has_key n a) refl (and_l (not (list_any (has_key (key a)) l)) (apart l) h) (one_has n l (and_r (not (list_any (has_key (key a)) l)) (apart l) h))
    where
      go : (b : Bool) → has_key n a ≡ b → T (not (list_any (has_key (key a)) l)) → length l ≤ suc (length (filter (lacks_key n) l)) → suc (length l) ≤ suc (length (keep (not b) a (filter (lacks_key n) l)))
      go true e k m = omega (arith, all_lack n l (subst (λ (j : ℕ). T (not (list_any (has_key j) l))) (sym (eqb-true n (key a) e)) k))
      go false e k m = omega (arith, m)

  below-kept : (n : ℕ) (l : List A) → T (list_all (λ a. ltb (key a) (suc n)) l) → T (list_all (λ a. ltb (key a) n) (filter (lacks_key n) l))
  below-kept n [] h = tt
  below-kept n (a ∷ l) h =
      go (has_key n a) refl (ltb→lt (key a) (suc n) (and_l (ltb (key a) (suc n)) (list_all (λ b. ltb (key b) (suc n)) l) h)) (below-kept n l (and_r (ltb (key a) (suc n)) (list_all (λ b. ltb (key b) (suc n)) l) h))
    where
      go : (b : Bool) → has_key n a ≡ b → key a < suc n → T (list_all (λ a. ltb (key a) n) (filter (lacks_key n) l)) → T (list_all (λ a. ltb (key a) n) (keep (not b) a (filter (lacks_key n) l)))
      go true e k m = m
      go false e k m = and_in (ltb (key a) n) (list_all (λ b. ltb (key b) n) (filter (lacks_key n) l)) (lt→ltb (key a) n (omega (arith, k, eqb-false n (key a) e))) m

  few : (n : ℕ) (l : List A) → T (list_all (λ a. ltb (key a) n) l) → T (apart l) → length l ≤ n
  few zero [] h k = omega arith
  few zero (a ∷ l) h k = absurd (omega (arith, ltb→lt (key a) 0 (and_l (ltb (key a) 0) (list_all (λ b. ltb (key b) 0) l) h)))
  few (suc n) l h k = omega (arith, one_has n l k, few n (filter (lacks_key n) l) (below-kept n l h) (apart-kept (lacks_key n) l k))

-- ── aliases ──

-- 56 numbers for eight sites and seven localities
abbrev number : Alias → ℕ
number a = a.site.0 * 7 + (a.locality.0 - 1)

ranges : (a : Alias) → T (alias_ok a) → (a.site.0 < 8) × (1 ≤ a.locality.0) × (a.locality.0 < 8)
ranges a h =
    let p : T (site_ok a.site) = search (and_l, and_r) depth 6 in
    let q : T (leb 1 a.locality.0) = search (and_l, and_r) depth 6 in
    let r : T (locality_ok a.locality) = search (and_l, and_r) depth 6 in
    (ltb→lt a.site.0 8 p, leb→le 1 a.locality.0 q, ltb→lt a.locality.0 8 r)

in_range_lem : (a : Alias) → T (alias_ok a) → T (ltb (number a) 56)
in_range_lem a h = let r = ranges a h in lt→ltb (number a) 56 (omega (arith, r.0, r.1, r.2))

-- two aliases of one number are the same
number_same : (a b : Alias) → T (alias_ok a) → T (alias_ok b) → same_alias a b ≡ false → eqb (number a) (number b) ≡ false
number_same a b h k e = go (eqb (number a) (number b)) refl
  where
    go : (c : Bool) → eqb (number a) (number b) ≡ c → c ≡ false
    go false z = refl
    go true z =
        let r = ranges a h in
        let q = ranges b k in
        let n = eqb-true (number a) (number b) z in
        let s : a.site.0 ≡ b.site.0 = omega (arith, r.0, r.1, r.2, q.0, q.1, q.2, n) in
        let l : a.locality.0 ≡ b.locality.0 = omega (arith, r.0, r.1, r.2, q.0, q.1, q.2, n) in
        ap₂ ◌&&◌ (sym (eq-eqb a.site.0 b.site.0 s)) (sym (eq-eqb a.locality.0 b.locality.0 l)) ∙ e

none-numbered : (a : Alias) (l : List Alias) → T (alias_ok a) → T (list_all alias_ok l) → T (not (list_any (same_alias a) l)) → T (not (list_any (has_key number (number a)) l))
none-numbered a [] h k n = tt
none-numbered a (b ∷ l) h k n =
    let p = none_first (same_alias a b) (list_any (same_alias a) l) n in
    none_of (eqb (number a) (number b)) (list_any (has_key number (number a)) l) (number_same a b h (and_l (alias_ok b) (list_all alias_ok l) k) p.0)
    (none-numbered a l h (and_r (alias_ok b) (list_all alias_ok l) k) p.1)

numbers_apart : (l : List Alias) → T (list_all alias_ok l) → T (aliases_differ l) → T (apart number l)
numbers_apart [] h k = tt
numbers_apart (a ∷ l) h k =
    and_in (not (list_any (has_key number (number a)) l)) (apart number l)
    (none-numbered a l (and_l (alias_ok a) (list_all alias_ok l) h) (and_r (alias_ok a) (list_all alias_ok l) h) (and_l (not (list_any (same_alias a) l)) (aliases_differ l) k))
    (numbers_apart l (and_r (alias_ok a) (list_all alias_ok l) h) (and_r (not (list_any (same_alias a) l)) (aliases_differ l) k))

pub few-aliases : (l : List Alias) → T (list_all alias_ok l) → T (aliases_differ l) → length l ≤ 56
few-aliases l h k = few number 56 l (all_weaken alias_ok (λ a. ltb (number a) 56) l in_range_lem h) (numbers_apart l h k)
