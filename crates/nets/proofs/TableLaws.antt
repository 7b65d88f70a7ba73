-- What `change`, `remove` and a new table at the end do to each site and name. Assumes nothing.
use Prim.Native.Nat.{ℕ, suc, ◌≤◌}
use mathlib.Core.Path.{◌≡◌, refl, ap, ap₂, sym, subst, ◌∙◌}
use mathlib.Core.Bool.{Bool, true, false, not, ◌&&◌, ◌||◌}
use mathlib.Core.List.{List, [], ◌∷◌, ◌++◌}
use Rattle.std.specs.Prelude.{Option, None, Some, is_some, cond}
use native.Mathlib.Omega.{arith}
use lib.Dec.{T, eqb, eqb→eq, eqb_refl}
use lib.ListN.{length}
use Rattle.values.specs.declared.Site.{Site}
use Rattle.std.specs.List.{list_all}
use Rattle.values.specs.Values.{same_site}
use Rattle.values.proofs.Bools.{and_l, and_r, and_in, is_true, eqb_sym}
use Rattle.values.proofs.SameLaws.{site_eq}
use Rattle.rows.specs.Relations.{Row}
use Rattle.nets.specs.Nets.{Table}
use Rattle.nets.specs.Tables.{is_at, table_at, rows_of, distinct, with_rows, changed, change, removed, remove}

-- ── the key ──

-- two sites and names are one
abbrev pub same_key : Site → ℕ → Site → ℕ → Bool
same_key s n s' n' = same_site s s' && eqb n n'

pub key_site : (s : Site) (n : ℕ) (s' : Site) (n' : ℕ) → T (same_key s n s' n') → s ≡ s'
key_site s n s' n' h = site_eq s s' (and_l (same_site s s') (eqb n n') h)

pub key_name : (s : Site) (n : ℕ) (s' : Site) (n' : ℕ) → T (same_key s n s' n') → n ≡ n'
key_name s n s' n' h = eqb→eq n n' (and_r (same_site s s') (eqb n n') h)

pub key_refl : (s : Site) (n : ℕ) → T (same_key s n s n)
key_refl s n = and_in (same_site s s) (eqb n n) (eqb_refl s.0) (eqb_refl n)

-- a table at one site and name is at no other
at_other : (s : Site) (n : ℕ) (s' : Site) (n' : ℕ) (t : Table) → same_key s' n' s n ≡ false → T (is_at s n t) → is_at s' n' t ≡ false
at_other s n s' n' t e h = rw (← key_site s n t.site t.name h, ← key_name s n t.site t.name h) e

-- ── none found ──

pub none_of : {A : Type 0} (o : Option A) → T (not (is_some o)) → o ≡ None
none_of None h = refl
none_of (Some a) h = absurd h

has_first : {A : Type 0} (b : Bool) (a : A) (o : Option A) → is_some (cond b (Some a) o) ≡ (b || is_some o)
has_first true a o = refl
has_first false a o = refl

-- none found, so the first is not it, and none is found further on
not_first : {A : Type 0} (b : Bool) (a : A) (o : Option A) → T (not (is_some (cond b (Some a) o))) → b ≡ false
not_first true a o h = absurd h
not_first false a o h = refl

first-none : {A : Type 0} (b : Bool) (a : A) (o : Option A) → T (not (is_some (cond b (Some a) o))) → T (not (is_some o))
first-none true a o h = absurd h
first-none false a o h = h

-- no other table has the first one's site and name, and the others differ
alone : (t : Table) (ts : List Table) → T (distinct (t ∷ ts)) → T (not (is_some (table_at t.site t.name ts)))
unfolding distinct
alone t ts h = and_l (not (is_some (table_at t.site t.name ts))) (distinct ts) h

rest : (t : Table) (ts : List Table) → T (distinct (t ∷ ts)) → T (distinct ts)
unfolding distinct
rest t ts h = and_r (not (is_some (table_at t.site t.name ts))) (distinct ts) h

-- ── change ──

module _ (s : Site) (n : ℕ) (g : List Row → List Row) where
  pub change-same : (ts : List Table) → T (is_some (table_at s n ts)) → rows_of (table_at s n (change s n g ts)) ≡ g (rows_of (table_at s n ts))
  unfolding change
  change-same [] h = absurd h
  change-same (t ∷ ts) h = go (is_at s n t) refl (change-same ts) h
    where
      go : (b : Bool) → is_at s n t ≡ b
          → (T (is_some (table_at s n ts)) → rows_of (table_at s n (change s n g ts)) ≡ g (rows_of (table_at s n ts)))
          → T (is_some (cond b (Some t) (table_at s n ts)))
          → rows_of (table_at s n (changed b g t ts (change s n g ts))) ≡ g (rows_of (cond b (Some t) (table_at s n ts)))
      go true e ih h = rw e
      go false e ih h = rw e (ih h)

  pub change-other : (s' : Site) (n' : ℕ) → same_key s' n' s n ≡ false → (ts : List Table) → table_at s' n' (change s n g ts) ≡ table_at s' n' ts
  unfolding change
  change-other s' n' d [] = refl
  change-other s' n' d (t ∷ ts) = go (is_at s n t) refl (change-other s' n' d ts)
    where
      go : (b : Bool) → is_at s n t ≡ b → table_at s' n' (change s n g ts) ≡ table_at s' n' ts → table_at s' n' (changed b g t ts (change s n g ts)) ≡ cond (is_at s' n' t) (Some t) (table_at s' n' ts)
      go true e ih = rw (at_other s n s' n' t d (subst T (sym e) tt))
      go false e ih = ap (cond (is_at s' n' t) (Some t)) ih

  -- a change leaves every site and name with or without a table
  change_has : (s' : Site) (n' : ℕ) (ts : List Table) → is_some (table_at s' n' (change s n g ts)) ≡ is_some (table_at s' n' ts)
  unfolding change
  change_has s' n' [] = refl
  change_has s' n' (t ∷ ts) = go (is_at s n t) (change_has s' n' ts)
    where
      go : (b : Bool) → is_some (table_at s' n' (change s n g ts)) ≡ is_some (table_at s' n' ts) → is_some (table_at s' n' (changed b g t ts (change s n g ts))) ≡ is_some (cond (is_at s' n' t) (Some t) (table_at s' n' ts))
      go true ih = simp has_first
      go false ih = simp (has_first, ih)

  pub change-distinct : (ts : List Table) → T (distinct ts) → T (distinct (change s n g ts))
  unfolding change distinct
  change-distinct [] h = tt
  change-distinct (t ∷ ts) h = go (is_at s n t) (change-distinct ts (rest t ts h))
    where
      go : (b : Bool) → T (distinct (change s n g ts)) → T (distinct (changed b g t ts (change s n g ts)))
      go true ih = h
      go false ih =
          and_in (not (is_some (table_at t.site t.name (change s n g ts)))) (distinct (change s n g ts))
          (rw (change_has t.site t.name ts) (alone t ts h)) ih

  -- a test of each table holds after a change that keeps it for the table found
  pub change-all :
      (q : Table → Bool) (ts : List Table) →
      ((t : Table) → table_at s n ts ≡ Some t → T (q t) → T (q (with_rows (g t.content.rows) t))) →
      T (list_all q ts) → T (list_all q (change s n g ts))
  unfolding change
  change-all q [] k h = tt
  change-all q (t ∷ ts) k h = go (is_at s n t) k (change-all q ts)
    where
      go : (b : Bool) →
          ((u : Table) → cond b (Some t) (table_at s n ts) ≡ Some u → T (q u) → T (q (with_rows (g u.content.rows) u))) →
          (((u : Table) → table_at s n ts ≡ Some u → T (q u) → T (q (with_rows (g u.content.rows) u))) → T (list_all q ts) → T (list_all q (change s n g ts))) →
          T (list_all q (changed b g t ts (change s n g ts)))
      go true k ih = and_in (q (with_rows (g t.content.rows) t)) (list_all q ts) (k t refl (and_l (q t) (list_all q ts) h)) (and_r (q t) (list_all q ts) h)
      go false k ih = and_in (q t) (list_all q (change s n g ts)) (and_l (q t) (list_all q ts) h) (ih k (and_r (q t) (list_all q ts) h))

  pub change-length : (ts : List Table) → length (change s n g ts) ≡ length ts
  unfolding change
  change-length [] = refl
  change-length (t ∷ ts) = go (is_at s n t) (change-length ts)
    where
      go : (b : Bool) → length (change s n g ts) ≡ length ts → length (changed b g t ts (change s n g ts)) ≡ suc (length ts)
      go true ih = refl
      go false ih = ap suc ih

-- ── remove ──

module _ (s : Site) (n : ℕ) where
  pub remove-same : (ts : List Table) → T (distinct ts) → table_at s n (remove s n ts) ≡ None
  unfolding remove
  remove-same [] h = refl
  remove-same (t ∷ ts) h = go (is_at s n t) refl (remove-same ts (rest t ts h))
    where
      go : (b : Bool) → is_at s n t ≡ b → table_at s n (remove s n ts) ≡ None → table_at s n (removed b t ts (remove s n ts)) ≡ None
      go true e ih =
          let h' = subst T (sym e) tt in
          rw (key_site s n t.site t.name h', key_name s n t.site t.name h') (none_of (table_at t.site t.name ts) (alone t ts h))
      go false e ih = rw e ih

  pub remove-other : (s' : Site) (n' : ℕ) → same_key s' n' s n ≡ false → (ts : List Table) → table_at s' n' (remove s n ts) ≡ table_at s' n' ts
  unfolding remove
  remove-other s' n' d [] = refl
  remove-other s' n' d (t ∷ ts) = go (is_at s n t) refl (remove-other s' n' d ts)
    where
      go : (b : Bool) → is_at s n t ≡ b → table_at s' n' (remove s n ts) ≡ table_at s' n' ts → table_at s' n' (removed b t ts (remove s n ts)) ≡ cond (is_at s' n' t) (Some t) (table_at s' n' ts)
      go true e ih = rw (at_other s n s' n' t d (subst T (sym e) tt))
      go false e ih = ap (cond (is_at s' n' t) (Some t)) ih

  -- where there was no table there is none
  remove-none : (s' : Site) (n' : ℕ) (ts : List Table) → T (not (is_some (table_at s' n' ts))) → T (not (is_some (table_at s' n' (remove s n ts))))
  unfolding remove
  remove-none s' n' [] h = tt
  remove-none s' n' (t ∷ ts) h = go (is_at s n t) (remove-none s' n' ts more)
    where
      more : T (not (is_some (table_at s' n' ts)))
      more = first-none (is_at s' n' t) t (table_at s' n' ts) h

      go : (b : Bool) → T (not (is_some (table_at s' n' (remove s n ts)))) → T (not (is_some (table_at s' n' (removed b t ts (remove s n ts)))))
      go true ih = more
      go false ih = rw (not_first (is_at s' n' t) t (table_at s' n' ts) h) ih

  pub remove-distinct : (ts : List Table) → T (distinct ts) → T (distinct (remove s n ts))
  unfolding remove distinct
  remove-distinct [] h = tt
  remove-distinct (t ∷ ts) h = go (is_at s n t) (remove-distinct ts (rest t ts h))
    where
      go : (b : Bool) → T (distinct (remove s n ts)) → T (distinct (removed b t ts (remove s n ts)))
      go true ih = rest t ts h
      go false ih =
          and_in (not (is_some (table_at t.site t.name (remove s n ts)))) (distinct (remove s n ts))
          (remove-none t.site t.name ts (alone t ts h)) ih

  pub remove-all : (q : Table → Bool) (ts : List Table) → T (list_all q ts) → T (list_all q (remove s n ts))
  unfolding remove
  remove-all q [] h = tt
  remove-all q (t ∷ ts) h = go (is_at s n t) (remove-all q ts (and_r (q t) (list_all q ts) h))
    where
      go : (b : Bool) → T (list_all q (remove s n ts)) → T (list_all q (removed b t ts (remove s n ts)))
      go true ih = and_r (q t) (list_all q ts) h
      go false ih = and_in (q t) (list_all q (remove s n ts)) (and_l (q t) (list_all q ts) h) ih

  pub remove-length : (ts : List Table) → length (remove s n ts) ≤ length ts
  unfolding remove
  remove-length [] = omega arith
  remove-length (t ∷ ts) = go (is_at s n t) (remove-length ts)
    where
      go : (b : Bool) → length (remove s n ts) ≤ length ts → length (removed b t ts (remove s n ts)) ≤ suc (length ts)
      go true ih = omega arith
      go false ih = omega arith

-- ── a new table, at the end ──

module _ (u : Table) where
  pub append-other : (s : Site) (n : ℕ) → is_at s n u ≡ false → (ts : List Table) → table_at s n (ts ++ (u ∷ [])) ≡ table_at s n ts
  append-other s n d [] = rw d
  append-other s n d (t ∷ ts) = ap (cond (is_at s n t) (Some t)) (append-other s n d ts)

  pub append-same : (s : Site) (n : ℕ) → T (is_at s n u) → (ts : List Table) → T (not (is_some (table_at s n ts))) → table_at s n (ts ++ (u ∷ [])) ≡ Some u
  append-same s n a [] h = rw (is_true (is_at s n u) a)
  append-same s n a (t ∷ ts) h =
      rw (not_first (is_at s n t) t (table_at s n ts) h) (append-same s n a ts (first-none (is_at s n t) t (table_at s n ts) h))

  pub append-distinct : (ts : List Table) → T (distinct ts) → T (not (is_some (table_at u.site u.name ts))) → T (distinct (ts ++ (u ∷ [])))
  unfolding distinct
  append-distinct [] h k = tt
  append-distinct (t ∷ ts) h k =
      and_in (not (is_some (table_at t.site t.name (ts ++ (u ∷ []))))) (distinct (ts ++ (u ∷ [])))
      (rw (append-other t.site t.name apart ts) (alone t ts h))
      (append-distinct ts (rest t ts h) (first-none (is_at u.site u.name t) t (table_at u.site u.name ts) k))
    where
      apart : is_at t.site t.name u ≡ false
      apart =
          ap₂ ◌&&◌ (eqb_sym t.site.0 u.site.0) (eqb_sym t.name u.name)
          ∙ not_first (is_at u.site u.name t) t (table_at u.site u.name ts) k
