-- Numbers marked by flags, and aliases passed from the last to the first, their places marked. Assumes nothing.
use Prim.Native.Nat.{ℕ, zero, suc, ◌+◌, ◌*◌, ◌<◌}
use mathlib.Core.Path.{◌≡◌, refl, sym, ap₂, ◌∙◌}
use mathlib.Core.Bool.{Bool, true, false, ◌||◌, and-false, true≢false}
use mathlib.Core.List.{List, [], ◌∷◌, map}
use native.Mathlib.Omega.{arith}
use lib.Dec.{T, eqb, eqb→eq}
use lib.ListN.{length, drop, get_or, set, replicate, length-replicate, get_or-replicate, length-set}
use lib.Seq.{get_or-set_same, get_or-set_other}
use borrow.Author.Tests.{eq-eqb, ltb-true}
use Rattle.values.specs.Lists.{among}
use Rattle.std.specs.List.{list_all, list_any}
use Rattle.values.specs.Values.{site_ok, locality_ok}
use Rattle.values.proofs.Bools.{and_l, and_r, and_in, is_true, T_of, and_first, same_test}
use Rattle.values.proofs.PairLaws.{tails}
use Rattle.nets.specs.declared.Alias.{Alias}
use Rattle.nets.specs.Sound.{alias_ok, same_alias, aliases_differ}
use Rattle.net_parts.specs.SoundParts.{alias_place}
use Rattle.net_parts.proofs.DistinctLaws.{alias_test, aliases_are}

-- ── flags ──

-- the flags that are set are those of the numbers
pub record Marks (seen : List Bool) (n : ℕ) (ks : List ℕ) : Type 0 where
  pub long : length seen ≡ n
  pub each : (k : ℕ) → k < n → get_or seen k false ≡ among k ks

pub marks-none : (n : ℕ) → Marks (replicate n false) n []
marks-none n = record { long = length-replicate n false; each = λ k h. get_or-replicate n k false false h }

pub marks-more : {seen : List Bool} {n : ℕ} {ks : List ℕ} → Marks seen n ks → (k : ℕ) → k < n → Marks (set seen k true) n (k ∷ ks)
marks-more {seen} {n} {ks} m k h =
    record {
      long = length-set seen k true ∙ m.long;
      each = λ j i. go j i (eqb j k) refl;
    }
  where
    go : (j : ℕ) → j < n → (t : Bool) → eqb j k ≡ t → get_or (set seen k true) j false ≡ (t || among j ks)
    go j i true e = rw (eqb→eq j k (T_of (eqb j k) e)) (get_or-set_same seen k true false (omega (arith, m.long)))
    go j i false e = get_or-set_other seen k j true false (λ q. true≢false (sym (eq-eqb j k q) ∙ e)) ∙ m.each j i

-- what fails at some element fails as a whole
pub tails-dropped : {A : Type 0} (p : A → List A → Bool) (l : List A) (j : ℕ) → tails p (drop j l) ≡ false → tails p l ≡ false
tails-dropped p l zero e = e
tails-dropped p [] (suc j) e = e
tails-dropped p (a ∷ l) (suc j) e = rw (tails-dropped p l j e) (and-false (p a l))

-- ── aliases ──

site-low : (a : Alias) → alias_ok a ≡ true → a.site.0 < 8
site-low a h =
    let t : T (alias_ok a) = T_of (alias_ok a) h in
    ltb-true a.site.0 8 (is_true (site_ok a.site) (search (and_l, and_r)))

locality-low : (a : Alias) → alias_ok a ≡ true → a.locality.0 < 8
locality-low a h =
    let t : T (alias_ok a) = T_of (alias_ok a) h in
    ltb-true a.locality.0 8 (is_true (locality_ok a.locality) (search (and_l, and_r)))

pub place-low : (a : Alias) → alias_ok a ≡ true → alias_place a < 64
place-low a h = omega (arith, site-low a h, locality-low a h)

same_place : (a b : Alias) → alias_ok a ≡ true → alias_ok b ≡ true → same_alias a b ≡ eqb (alias_place a) (alias_place b)
same_place a b h k =
    same_test (same_alias a b) (eqb (alias_place a) (alias_place b))
    (λ t. T_of (eqb (alias_place a) (alias_place b)) (eq-eqb (alias_place a) (alias_place b)
    (ap₂ (λ (s l : ℕ). s * 8 + l)
    (eqb→eq a.site.0 b.site.0 (and_l (eqb a.site.0 b.site.0) (eqb a.locality.0 b.locality.0) t))
    (eqb→eq a.locality.0 b.locality.0 (and_r (eqb a.site.0 b.site.0) (eqb a.locality.0 b.locality.0) t)))))
    (λ t.
    let e : alias_place a ≡ alias_place b = eqb→eq (alias_place a) (alias_place b) t in
    and_in (eqb a.site.0 b.site.0) (eqb a.locality.0 b.locality.0)
    (T_of (eqb a.site.0 b.site.0) (eq-eqb a.site.0 b.site.0 (omega (arith, e, locality-low a h, locality-low b k))))
    (T_of (eqb a.locality.0 b.locality.0) (eq-eqb a.locality.0 b.locality.0 (omega (arith, e, locality-low a h, locality-low b k)))))

same-places : (a : Alias) (l : List Alias) → alias_ok a ≡ true → T (list_all alias_ok l) → list_any (same_alias a) l ≡ among (alias_place a) (map alias_place l)
same-places a [] h k = refl
same-places a (b ∷ l) h k =
    ap₂ ◌||◌ (same_place a b h (is_true (alias_ok b) (and_l (alias_ok b) (list_all alias_ok l) k))) (same-places a l h (and_r (alias_ok b) (list_all alias_ok l) k))

-- aliases that are right, their places marked
pub record Passed (seen : List Bool) (l : List Alias) : Type 0 where
  pub marks : Marks seen 64 (map alias_place l)
  pub right : tails alias_test l ≡ true

pub none_passed : Passed (replicate 64 false) []
none_passed = record { marks = marks-none 64; right = refl }

module _ {seen : List Bool} {l : List Alias} (p : Passed seen l) (a : Alias) (h : alias_ok a ≡ true) where
  marked-is : list_any (same_alias a) l ≡ get_or seen (alias_place a) false
  marked-is =
      same-places a l h (T_of (list_all alias_ok l) (and_first (list_all alias_ok l) (aliases_differ l) (sym (aliases_are l) ∙ p.right)))
      ∙ sym (p.marks.each (alias_place a) (place-low a h))

  pub one-passed : get_or seen (alias_place a) false ≡ false → Passed (set seen (alias_place a) true) (a ∷ l)
  one-passed q =
      record {
        marks = marks-more p.marks (alias_place a) (place-low a h);
        right = rw (h, marked-is ∙ q) p.right;
      }

  pub one-twice : get_or seen (alias_place a) false ≡ true → tails alias_test (a ∷ l) ≡ false
  one-twice q = rw (h, marked-is ∙ q)
