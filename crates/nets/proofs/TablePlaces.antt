-- Tables by their place: what is found at a site and name, changed and removed there. Assumes nothing.
use Prim.Native.Nat.{ℕ, zero, suc, ◌+◌, ◌<◌, ◌≤◌}
use native.Mathlib.Omega.{arith}
use mathlib.Core.Path.{◌≡◌, refl, ap, ap₂, sym, subst, ◌∙◌}
use mathlib.Core.Bool.{Bool, true, false, not, cond}
use mathlib.Core.List.{List, [], ◌∷◌, map}
use Rattle.std.proofs.lemmas.List.{length-map}
use Rattle.std.specs.Prelude.{Option, None, Some, is_some, unwrap_or}
use Rattle.std.specs.List.{find, position, position_or_len}
use lib.Dec.{T, ltb, ltb→lt}
use borrow.Author.Tests.{ltb-true, ltb-false}
use lib.ListN.{length, get_or, get_or-map, set, take}
use Rattle.values.specs.declared.Site.{Site}
use Rattle.values.specs.Lists.{firsts, next_place, place_of, remove_at}
use Rattle.values.proofs.PlaceLaws.{find-place, place_found}
use Rattle.rows.specs.Relations.{Row}
use Rattle.nets.specs.Nets.{Table}
use Rattle.nets.specs.Tables.{is_at, table_at, with_rows, changed, change, removed, remove}

module _ (s : Site) (n : ℕ) where
  -- the first table there; the number of tables where there is none
  abbrev pub place_at : List Table → ℕ
  place_at ts = place_of (is_at s n) ts

  pub table-there : (ts : List Table) → is_some (table_at s n ts) ≡ ltb (place_at ts) (length ts)
  table-there ts = sym (find-place (is_at s n) ts)

  pub place-below : (ts : List Table) → T (is_some (table_at s n ts)) → place_at ts < length ts
  place-below ts h = ltb→lt (place_at ts) (length ts) (rw table-there at h)

  pub table-at : (ts : List Table) (d : Table) → place_at ts < length ts → table_at s n ts ≡ Some (get_or ts (place_at ts) d)
  table-at ts d h = place_found (is_at s n) ts d h

  pub change-place : (g : List Row → List Row) (ts : List Table) (d : Table) → change s n g ts ≡ set ts (place_at ts) (with_rows (g (get_or ts (place_at ts) d).content.rows) (get_or ts (place_at ts) d))
  unfolding change
  change-place g [] d = refl
  change-place g (t ∷ ts) d = go (is_at s n t) (change-place g ts d)
    where
      go : (b : Bool) → change s n g ts ≡ set ts (place_at ts) (with_rows (g (get_or ts (place_at ts) d).content.rows) (get_or ts (place_at ts) d)) →
          changed b g t ts (change s n g ts) ≡ set (t ∷ ts) (next_place b (place_at ts)) (with_rows (g (get_or (t ∷ ts) (next_place b (place_at ts)) d).content.rows) (get_or (t ∷ ts) (next_place b (place_at ts)) d))
      go true ih = refl
      go false ih = ap (t ∷◌) ih

  pub remove-place : (ts : List Table) → remove s n ts ≡ remove_at (place_at ts) ts
  unfolding remove
  remove-place [] = refl
  remove-place (t ∷ ts) = go (is_at s n t) (remove-place ts)
    where
      go : (b : Bool) → remove s n ts ≡ remove_at (place_at ts) ts → removed b t ts (remove s n ts) ≡ remove_at (next_place b (place_at ts)) (t ∷ ts)
      go true ih = refl
      go false ih = ap (t ∷◌) ih

-- ── the place as std's `position` gives it, of the part of an array in use ──

module _ {A : Type 0} (p : A → Bool) where
  place-std : (l : List A) → position_or_len p l ≡ place_of p l
  place-std [] = refl
  place-std (a ∷ l) = go (p a) (place-std l)
    where
      go : (b : Bool) → position_or_len p l ≡ place_of p l → cond (not b) (1 + position_or_len p l) 0 ≡ next_place b (place_of p l)
      go true e = refl
      go false e = omega (arith, e)

-- of a place that may be past the end: whether it is one, and the place, or the first
pub place-some : (i n : ℕ) (o : Option ℕ) → o ≡ cond (ltb i n) (Some i) None → is_some o ≡ ltb i n
place-some i n o e = ap is_some e ∙ go (ltb i n)
  where
    go : (b : Bool) → is_some (cond b (Some i) None) ≡ b
    go true = refl
    go false = refl

pub place-past : (i n : ℕ) (o : Option ℕ) → o ≡ cond (ltb i n) (Some i) None → o ≡ None → n ≤ i
place-past i n o e h = ltb-false i n (sym (place-some i n o e) ∙ ap is_some h)

pub place-is : (i n j : ℕ) (o : Option ℕ) → o ≡ cond (ltb i n) (Some i) None → o ≡ Some j → (j ≡ i) × (j < n)
place-is i n j o e h =
    let t : ltb i n ≡ true = sym (place-some i n o e) ∙ ap is_some h in
    let q : j ≡ i = ap (λ (q : Option ℕ). unwrap_or q 0) (sym h ∙ e ∙ ap (λ (b : Bool). cond b (Some i) None) t) in
    (q, let k = ltb-true i n t in omega (arith, q, k))

pub place-or_first : (i n : ℕ) (o : Option ℕ) → o ≡ cond (ltb i n) (Some i) None → unwrap_or o 0 ≡ cond (ltb i n) i 0
place-or_first i n o e = ap (λ (q : Option ℕ). unwrap_or q 0) e ∙ go (ltb i n)
  where
    go : (b : Bool) → unwrap_or (cond b (Some i) None) 0 ≡ cond b i 0
    go true = refl
    go false = refl

module _ {A B : Type 0} (p : B → Bool) (f : A → B) (z : A) where
  place-taken : (n : ℕ) (l : List A) → n ≤ length l → place_of (λ a. p (f a)) (take n l) ≡ place_of p (firsts f z n l)
  place-taken zero l h = refl
  place-taken (suc n) [] h = absurd (omega arith)
  place-taken (suc n) (a ∷ l) h = ap (next_place (p (f a))) (place-taken n l (omega arith))

  length-taken : (n : ℕ) (l : List A) → n ≤ length l → length (take n l) ≡ n
  length-taken zero l h = refl
  length-taken (suc n) [] h = absurd (omega arith)
  length-taken (suc n) (a ∷ l) h = ap suc (length-taken n l (omega arith))

  -- the place, if it is one
  pub position-place :
      (n : ℕ) (l : List A) → n ≤ length l →
      position (λ a. p (f a)) (take n l) ≡ cond (ltb (place_of p (firsts f z n l)) n) (Some (place_of p (firsts f z n l))) None
  position-place n l h =
      ap₂ (λ (i m : ℕ). cond (ltb i m) (Some i) None) (place-std (λ a. p (f a)) (take n l) ∙ place-taken n l h) (length-taken n l h)

  -- what is found there
  place-map : (l : List A) → place_of p (map f l) ≡ place_of (λ a. p (f a)) l
  place-map [] = refl
  place-map (a ∷ l) = ap (next_place (p (f a))) (place-map l)

  position-map : (l : List A) → position (λ a. p (f a)) l ≡ cond (ltb (place_of p (map f l)) (length (map f l))) (Some (place_of p (map f l))) None
  position-map l = ap₂ (λ (i m : ℕ). cond (ltb i m) (Some i) None) (place-std (λ a. p (f a)) l ∙ sym (place-map l)) (sym (length-map l f))

  pub found-none : (l : List A) → position (λ a. p (f a)) l ≡ None → find p (map f l) ≡ None
  found-none l e = none (find p (map f l)) (sym (find-place p (map f l)) ∙ sym (place-some (place_of p (map f l)) (length (map f l)) _ (position-map l)) ∙ ap is_some e)
    where
      none : (o : Option B) → is_some o ≡ false → o ≡ None
      none None h = refl
      none (Some b) h = absurd (subst T h tt)

  pub found-some : (l : List A) (i : ℕ) → position (λ a. p (f a)) l ≡ Some i → (i < length l) × (find p (map f l) ≡ Some (f (get_or l i z)))
  found-some l i e =
      let h : T (ltb (place_of p (map f l)) (length (map f l))) = subst T (ap is_some (sym e) ∙ place-some (place_of p (map f l)) (length (map f l)) _ (position-map l)) tt in
      let k : place_of p (map f l) < length (map f l) = ltb→lt (place_of p (map f l)) (length (map f l)) h in
      let q : place_of p (map f l) ≡ i = ap (λ (o : Option ℕ). unwrap_or o 0) (sym (position-map l ∙ ap (λ (b : Bool). cond b (Some (place_of p (map f l))) None) (T-is _ h)) ∙ e) in
      let low : i < length l = omega (arith, k, q, length-map l f) in
      (low, place_found p (map f l) (f z) k ∙ ap (λ (j : ℕ). Some (get_or (map f l) j (f z))) q ∙ ap Some (get_or-map f l i z))
    where
      T-is : (b : Bool) → T b → b ≡ true
      T-is true h = refl
      T-is false h = absurd h
