-- Counts and tests over any list. Assumes nothing.
use Prim.Native.Nat.{ℕ, zero, suc, ◌+◌, ◌≤◌, ◌<◌}
use mathlib.Core.Path.{◌≡◌, refl, subst}
use mathlib.Core.Bool.{Bool, true, false, not, cond, ◌&&◌, ◌||◌}
use mathlib.Core.List.{List, [], ◌∷◌, ◌++◌, map}
use native.Mathlib.Omega.{arith}
use lib.Dec.{T}
use lib.ListN.{length, get_or}
use Rattle.std.specs.Prelude.{Some, is_some, cond}
use Rattle.values.specs.Lists.{bit, filter, keep, count}
use Rattle.std.specs.List.{find, list_all, list_any}
use Rattle.values.proofs.Bools.{and_l, and_r, and_in}

module _ {A : Type 0} where
  pub count-append : (p : A → Bool) (k l : List A) → count p (k ++ l) ≡ count p k + count p l
  count-append p [] l = omega arith
  count-append p (a ∷ k) l = omega (arith, count-append p k l)

  -- what a test keeps and what its negation keeps
  pub count_split : (p q : A → Bool) (l : List A) → count p (filter (λ a. not (q a)) l) + count p (filter q l) ≡ count p l
  count_split p q [] = omega arith
  count_split p q (a ∷ l) = go (q a) (count_split p q l)
    where
      go : (b : Bool) → count p (filter (λ x. not (q x)) l) + count p (filter q l) ≡ count p l
          → count p (keep (not b) a (filter (λ x. not (q x)) l)) + count p (keep b a (filter q l)) ≡ bit (p a) + count p l
      go true ih = omega arith
      go false ih = omega arith

  -- elements that pass `q` replaced by `f` of them
  pub count_replace : (p q : A → Bool) (f : A → A) (l : List A) → count p (map (λ a. cond (q a) (f a) a) l) + count p (filter q l) ≡ count p l + count p (map f (filter q l))
  count_replace p q f [] = omega arith
  count_replace p q f (a ∷ l) = go (q a) (count_replace p q f l)
    where
      go : (b : Bool) → count p (map (λ x. cond (q x) (f x) x) l) + count p (filter q l) ≡ count p l + count p (map f (filter q l))
          → bit (p (cond b (f a) a)) + count p (map (λ x. cond (q x) (f x) x) l) + count p (keep b a (filter q l)) ≡ bit (p a) + count p l + count p (map f (keep b a (filter q l)))
      go true ih = omega arith
      go false ih = omega arith

  pub count-length : (q : A → Bool) (l : List A) → count q l ≡ length (filter q l)
  count-length q [] = refl
  count-length q (a ∷ l) = go (q a) (count-length q l)
    where
      go : (b : Bool) → count q l ≡ length (filter q l) → bit b + count q l ≡ length (keep b a (filter q l))
      go true ih = omega arith
      go false ih = omega arith

  pub all_append : (p : A → Bool) (k l : List A) → T (list_all p k) → T (list_all p l) → T (list_all p (k ++ l))
  all_append p [] l h i = i
  all_append p (a ∷ k) l h i = and_in (p a) (list_all p (k ++ l)) (and_l (p a) (list_all p k) h) (all_append p k l (and_r (p a) (list_all p k) h) i)

  pub all_filter : (p q : A → Bool) (l : List A) → T (list_all p l) → T (list_all p (filter q l))
  all_filter p q [] h = tt
  all_filter p q (a ∷ l) h = go (q a) (and_l (p a) (list_all p l) h) (all_filter p q l (and_r (p a) (list_all p l) h))
    where
      go : (b : Bool) → T (p a) → T (list_all p (filter q l)) → T (list_all p (keep b a (filter q l)))
      go true h ih = and_in (p a) (list_all p (filter q l)) h ih
      go false h ih = ih

  pub all_map : {B : Type 0} (p : A → Bool) (f : B → A) (l : List B) → ((b : B) → T (p (f b))) → T (list_all p (map f l))
  all_map p f [] h = tt
  all_map p f (b ∷ l) h = and_in (p (f b)) (list_all p (map f l)) (h b) (all_map p f l h)

  -- as each element passes, so does what it is mapped to
  pub all-map_of : {B : Type 0} (q : B → Bool) (p : A → Bool) (f : B → A) (l : List B) → ((b : B) → T (q b) → T (p (f b))) → T (list_all q l) → T (list_all p (map f l))
  all-map_of q p f [] g h = tt
  all-map_of q p f (b ∷ l) g h =
      and_in (p (f b)) (list_all p (map f l)) (g b (and_l (q b) (list_all q l) h)) (all-map_of q p f l g (and_r (q b) (list_all q l) h))

  -- an element, or the default where there is none
  pub all_get_d : (p : A → Bool) (l : List A) (i : ℕ) (d : A) → T (list_all p l) → T (p d) → T (p (get_or l i d))
  all_get_d p [] i d h k = k
  all_get_d p (a ∷ l) zero d h k = and_l (p a) (list_all p l) h
  all_get_d p (a ∷ l) (suc i) d h k = all_get_d p l i d (and_r (p a) (list_all p l) h) k

  -- a weaker test
  pub all_weaken : (p q : A → Bool) (l : List A) → ((a : A) → T (p a) → T (q a)) → T (list_all p l) → T (list_all q l)
  all_weaken p q [] f h = tt
  all_weaken p q (a ∷ l) f h = and_in (q a) (list_all q l) (f a (and_l (p a) (list_all p l) h)) (all_weaken p q l f (and_r (p a) (list_all p l) h))

  -- what is found passes every test that all pass
  pub find-all : (p q : A → Bool) (l : List A) (a : A) → find p l ≡ Some a → T (list_all q l) → T (q a)
  find-all p q [] a e h = let z : ◌≡◌ {A = ℕ} 0 1 = cc in absurd (omega arith)
  find-all p q (b ∷ l) a e h = go (p b) e (λ e'. find-all p q l a e' (and_r (q b) (list_all q l) h))
    where
      go : (t : Bool) → cond t (Some b) (find p l) ≡ Some a → (find p l ≡ Some a → T (q a)) → T (q a)
      go true e ih = let f : b ≡ a = cc in subst (λ (x : A). T (q x)) f (and_l (q b) (list_all q l) h)
      go false e ih = ih e

  pub all-and : (p q : A → Bool) (l : List A) → T (list_all p l) → T (list_all q l) → T (list_all (λ a. p a && q a) l)
  all-and p q [] h k = tt
  all-and p q (a ∷ l) h k =
      and_in (p a && q a) (list_all (λ x. p x && q x) l) (and_in (p a) (q a) (and_l (p a) (list_all p l) h) (and_l (q a) (list_all q l) k)) (all-and p q l (and_r (p a) (list_all p l) h) (and_r (q a) (list_all q l) k))

  pub not-any : (p : A → Bool) (l : List A) → T (not (list_any p l)) → T (list_all (λ a. not (p a)) l)
  not-any p [] h = tt
  not-any p (a ∷ l) h = go (p a) h (not-any p l)
    where
      go : (b : Bool) → T (not (b || list_any p l)) → (T (not (list_any p l)) → T (list_all (λ x. not (p x)) l)) → T (not b && list_all (λ x. not (p x)) l)
      go true h ih = h
      go false h ih = ih h

  -- one is found where any passes
  pub found-any : (p : A → Bool) (l : List A) → is_some (find p l) ≡ list_any p l
  found-any p [] = refl
  found-any p (a ∷ l) = go (p a) (found-any p l)
    where
      go : (b : Bool) → is_some (find p l) ≡ list_any p l → is_some (cond b (Some a) (find p l)) ≡ (b || list_any p l)
      go true ih = refl
      go false ih = ih

  pub filter-length : (q : A → Bool) (l : List A) → length (filter q l) ≤ length l
  filter-length q [] = omega arith
  filter-length q (a ∷ l) = go (q a) (filter-length q l)
    where
      go : (b : Bool) → length (filter q l) ≤ length l → length (keep b a (filter q l)) ≤ suc (length l)
      go true ih = omega arith
      go false ih = omega arith

  pub all-at : (p : A → Bool) (l : List A) (i : ℕ) (d : A) → T (list_all p l) → i < length l → T (p (get_or l i d))
  all-at p [] i d h k = absurd (omega arith)
  all-at p (a ∷ l) zero d h k = and_l (p a) (list_all p l) h
  all-at p (a ∷ l) (suc i) d h k = all-at p l i d (and_r (p a) (list_all p l) h) (omega arith)
