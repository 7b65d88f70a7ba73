-- Sets of places held by flags: what is set, marked, cleared and found. `j` is the place of the first flag.
use Prim.Native.Nat.{ℕ, zero, suc, ◌+◌, ◌<◌, ◌≤◌}
use mathlib.Core.Path.{◌≡◌, refl, sym, ap, ◌∙◌}
use mathlib.Core.Bool.{Bool, true, false, not, ◌&&◌, ◌||◌}
use mathlib.Core.List.{List, [], ◌∷◌}
use native.Mathlib.Omega.{arith}
use borrow.Author.Tests.{eq-eqb, ne_eqb, lt-ltb}
use lib.Dec.{T, eqb, ltb, leb-suc-zero, leb-suc-suc}
use lib.ListN.{length, set}
use Rattle.values.specs.Lists.{among, filter, places}
use Rattle.std.specs.List.{list_all, list_any}
use Rattle.values.proofs.Bools.{and_l, and_r, is_true}
use Rattle.nets.specs.View.{marked}
use Rattle.step_reads.specs.ReadContracts.{flag_at}
use Rattle.values.proofs.FlagLaws.{Flagged}

-- ── what is marked ──

-- the first `n` places, where the flags below `n` are set and no others
marked-first : (l : List Bool) (j n : ℕ) → n ≤ length l → ((k : ℕ) → flag_at l k ≡ ltb k n) → marked j l ≡ places j n
marked-first [] j zero h f = refl
marked-first [] j (suc n) h f = absurd (omega arith)
marked-first (b ∷ l) j zero h f =
    rw (f 0 ∙ leb-suc-zero 0) (marked-first l (suc j) zero (omega arith) (λ k. f (suc k) ∙ leb-suc-zero (suc k) ∙ sym (leb-suc-zero k)))
marked-first (b ∷ l) j (suc n) h f =
    rw (f 0 ∙ lt-ltb 0 (suc n) (omega arith)) (ap (j ∷◌) (marked-first l (suc j) n (omega arith) (λ k. f (suc k) ∙ leb-suc-suc (suc k) n)))

pub flagged-first : {m i n : ℕ} {l : List Bool} → Flagged (λ (k : ℕ). true) m i l → i ≡ n → n ≤ m → marked 0 l ≡ places 0 n
flagged-first {n = n} {l} inv e h =
    marked-first l 0 n (omega (arith, inv.size)) (λ k. inv.flags k ∙ and-true (ltb k _) ∙ ap (ltb k) e)
  where
    and-true : (b : Bool) → (b && true) ≡ b
    and-true true = refl
    and-true false = refl

-- no place in front of the first flag is marked
among_below : (l : List Bool) (j r : ℕ) → r < j → among r (marked j l) ≡ false
among_below [] j r h = refl
among_below (true ∷ l) j r h = rw (ne_eqb r j (λ e. omega arith)) (among_below l (suc j) r (omega arith))
among_below (false ∷ l) j r h = among_below l (suc j) r (omega arith)

-- a place is marked where its flag is set
pub marked-among : (l : List Bool) (j i r : ℕ) → r ≡ j + i → among r (marked j l) ≡ flag_at l i
marked-among [] j i r e = refl
marked-among (true ∷ l) j zero r e = rw (eq-eqb r j (omega arith)) refl
marked-among (false ∷ l) j zero r e = among_below l (suc j) r (omega arith)
marked-among (true ∷ l) j (suc i) r e = rw (ne_eqb r j (λ x. omega arith)) (marked-among l (suc j) i r (omega arith))
marked-among (false ∷ l) j (suc i) r e = marked-among l (suc j) i r (omega arith)

-- a place whose flag is set passes what all marked ones pass
pub marked-passes : (p : ℕ → Bool) (l : List Bool) (j i r : ℕ) → r ≡ j + i → T (list_all p (marked j l)) → flag_at l i ≡ true → T (p r)
marked-passes p [] j i r e h f = let z : ◌≡◌ {A = ℕ} 0 1 = cc in absurd (omega arith)
marked-passes p (true ∷ l) j zero r e h f = let d : r ≡ j = omega arith in rw d (and_l (p j) (list_all p (marked (suc j) l)) h)
marked-passes p (false ∷ l) j zero r e h f = let z : ◌≡◌ {A = ℕ} 0 1 = cc in absurd (omega arith)
marked-passes p (true ∷ l) j (suc i) r e h f = marked-passes p l (suc j) i r (omega arith) (and_r (p j) (list_all p (marked (suc j) l)) h) f
marked-passes p (false ∷ l) j (suc i) r e h f = marked-passes p l (suc j) i r (omega arith) h f

-- ── a flag cleared ──

filter-below : (l : List Bool) (j r : ℕ) → r < j → filter (λ k. not (eqb k r)) (marked j l) ≡ marked j l
filter-below [] j r h = refl
filter-below (true ∷ l) j r h = rw (ne_eqb j r (λ e. omega arith)) (ap (j ∷◌) (filter-below l (suc j) r (omega arith)))
filter-below (false ∷ l) j r h = filter-below l (suc j) r (omega arith)

-- its place leaves the set
pub marked_clear : (l : List Bool) (j i r : ℕ) → r ≡ j + i → marked j (set l i false) ≡ filter (λ k. not (eqb k r)) (marked j l)
marked_clear [] j i r e = refl
marked_clear (true ∷ l) j zero r e = rw (eq-eqb j r (omega arith)) (sym (filter-below l (suc j) r (omega arith)))
marked_clear (false ∷ l) j zero r e = sym (filter-below l (suc j) r (omega arith))
marked_clear (true ∷ l) j (suc i) r e = rw (ne_eqb j r (λ x. omega arith)) (ap (j ∷◌) (marked_clear l (suc j) i r (omega arith)))
marked_clear (false ∷ l) j (suc i) r e = marked_clear l (suc j) i r (omega arith)

-- ── some flag set ──

-- flags `m` that are set where those of `l` are and `p` holds
pub marked-any : (p : ℕ → Bool) (l m : List Bool) (j : ℕ) → ((i r : ℕ) → r ≡ j + i → flag_at m i ≡ (flag_at l i && p r)) → list_any (λ (b : Bool). b) m ≡ list_any p (marked j l)
marked-any p [] [] j h = refl
marked-any p [] (c ∷ m) j h = rw (h 0 j (omega arith)) (marked-any p [] m (suc j) (λ i r e. h (suc i) r (omega arith)))
marked-any p (true ∷ l) [] j h = rw (sym (h 0 j (omega arith))) (marked-any p l [] (suc j) (λ i r e. h (suc i) r (omega arith)))
marked-any p (false ∷ l) [] j h = marked-any p l [] (suc j) (λ i r e. h (suc i) r (omega arith))
marked-any p (true ∷ l) (c ∷ m) j h = rw (h 0 j (omega arith)) (ap (p j ||◌) (marked-any p l m (suc j) (λ i r e. h (suc i) r (omega arith))))
marked-any p (false ∷ l) (c ∷ m) j h = rw (h 0 j (omega arith)) (marked-any p l m (suc j) (λ i r e. h (suc i) r (omega arith)))

-- flags `m` set where those of `l` are, `q` holds and `p` holds; all places marked in `l` pass `q`
module _ (q p : ℕ → Bool) (l m : List Bool) (flags : (i : ℕ) → flag_at m i ≡ (q i && flag_at l i && p i)) (h : T (list_all q (marked 0 l))) where
  passing : (i : ℕ) → flag_at m i ≡ (flag_at l i && p i)
  passing i = flags i ∙ ap (◌&& p i) (go (q i) refl (flag_at l i) refl)
    where
      go : (s : Bool) → q i ≡ s → (t : Bool) → flag_at l i ≡ t → (q i && flag_at l i) ≡ flag_at l i
      go true e t e' = rw e refl
      go false e true e' = let f = is_true (q i) (marked-passes q l 0 i i (omega arith) h e') in rw f refl
      go false e false e' = rw (e, e') refl

  pub passing-any : list_any (λ (b : Bool). b) m ≡ list_any p (marked 0 l)
  passing-any = marked-any p l m 0 (λ i r e. let d : r ≡ i = omega arith in rw d (passing i))

  pub passing-among : (r : ℕ) → flag_at m r ≡ (among r (marked 0 l) && p r)
  passing-among r = passing r ∙ ap (◌&& p r) (sym (marked-among l 0 r r (omega arith)))
