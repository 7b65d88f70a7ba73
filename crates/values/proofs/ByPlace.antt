-- A list whose element at each place is a function of the place (`map f (places 0 n)`): its length, its elements, one more at its end, one changed, one removed. Assumes nothing.
use Prim.Native.Nat.{ℕ, zero, suc, ◌+◌, ◌-◌, ◌<◌, ◌≤◌}
use mathlib.Core.Path.{◌≡◌, refl, sym, ap, ap₂, subst, ◌∙◌}
use mathlib.Core.Bool.{Bool}
use mathlib.Core.List.{[], ◌∷◌, ◌++◌, map}
use native.Mathlib.Omega.{arith}
use native.Mathlib.Numerals.{add-one}
use lib.Dec.{T}
use lib.ListN.{length, drop, get_or, set}
use Rattle.values.specs.Lists.{places, remove_at}
use Rattle.std.specs.List.{list_all}
use Rattle.values.proofs.Bools.{and_l, and_r}

module _ {B : Type 0} (f : ℕ → B) where
  pub length_by : (i n : ℕ) → length (map f (places i n)) ≡ n
  length_by i zero = refl
  length_by i (suc n) = ap suc (length_by (suc i) n)

  at_from : (i n j : ℕ) (d : B) → j < n → get_or (map f (places i n)) j d ≡ f (i + j)
  at_from i zero j d h = absurd (omega arith)
  at_from i (suc n) zero d h = ap f (omega arith)
  at_from i (suc n) (suc j) d h = at_from (suc i) n j d (omega arith) ∙ ap f (omega arith)

  -- the element at a place
  pub by_at : (n j : ℕ) (d : B) → j < n → get_or (map f (places 0 n)) j d ≡ f j
  by_at n j d h = at_from 0 n j d h ∙ ap f (omega arith)

  cons_from : (i n j : ℕ) → j < n → drop j (map f (places i n)) ≡ f (i + j) ∷ drop (suc j) (map f (places i n))
  cons_from i zero j h = absurd (omega arith)
  cons_from i (suc n) zero h = ap (◌∷ map f (places (suc i) n)) (ap f (omega arith))
  cons_from i (suc n) (suc j) h = cons_from (suc i) n j (omega arith) ∙ ap (◌∷ drop (suc j) (map f (places (suc i) n))) (ap f (omega arith))

  -- the element at a place, and the rest after it
  pub by_cons : (n j : ℕ) → j < n → drop j (map f (places 0 n)) ≡ f j ∷ drop (j + 1) (map f (places 0 n))
  by_cons n j h = rw add-one (cons_from 0 n j h ∙ ap (◌∷ drop (suc j) (map f (places 0 n))) (ap f (omega arith)))

  end_from : (i n j : ℕ) → n ≤ j → drop j (map f (places i n)) ≡ []
  end_from i zero zero h = refl
  end_from i zero (suc j) h = refl
  end_from i (suc n) zero h = absurd (omega arith)
  end_from i (suc n) (suc j) h = end_from (suc i) n j (omega arith)

  -- at the end nothing is left
  pub by_end_lem : (n j : ℕ) → n ≤ j → drop j (map f (places 0 n)) ≡ []
  by_end_lem n j h = end_from 0 n j h

  next-from : (i n : ℕ) → map f (places i (suc n)) ≡ map f (places i n) ++ (f (i + n) ∷ [])
  next-from i zero = ap (◌∷ []) (ap f (omega arith))
  next-from i (suc n) = ap (f i ∷◌) (next-from (suc i) n ∙ ap (λ (m : ℕ). map f (places (suc i) n) ++ (f m ∷ [])) (omega arith))

  -- one more
  pub by_next : (n : ℕ) → map f (places 0 (n + 1)) ≡ map f (places 0 n) ++ (f n ∷ [])
  by_next n = rw add-one (next-from 0 n ∙ ap (λ (m : ℕ). map f (places 0 n) ++ (f m ∷ [])) (omega arith))

  -- what holds of all holds at each place
  pub all_by : (p : B → Bool) (n j : ℕ) → j < n → T (list_all p (map f (places 0 n))) → T (p (f j))
  all_by p n j h t = let e : 0 + j ≡ j = omega arith in subst (λ (m : ℕ). T (p (f m))) e (go 0 n j h t)
    where
      go : (i m k : ℕ) → k < m → T (list_all p (map f (places i m))) → T (p (f (i + k)))
      go i zero k h t = absurd (omega arith)
      go i (suc m) zero h t = let e : i + 0 ≡ i = omega arith in rw e (and_l (p (f i)) (list_all p (map f (places (suc i) m))) t)
      go i (suc m) (suc k) h t = let e : i + suc k ≡ suc i + k = omega arith in rw e (go (suc i) m k (omega arith) (and_r (p (f i)) (list_all p (map f (places (suc i) m))) t))

module _ {B : Type 0} (f g : ℕ → B) where
  same_from : (i n : ℕ) → ((j : ℕ) → i ≤ j → j < i + n → f j ≡ g j) → map f (places i n) ≡ map g (places i n)
  same_from i zero h = refl
  same_from i (suc n) h = ap₂ ◌∷◌ (h i (omega arith) (omega arith)) (same_from (suc i) n (λ j p q. h j (omega arith) (omega arith)))

  -- the same at each place
  pub by_same : (n : ℕ) → ((j : ℕ) → j < n → f j ≡ g j) → map f (places 0 n) ≡ map g (places 0 n)
  by_same n h = same_from 0 n (λ j p q. h j (omega arith))

  put-from : (i n k : ℕ) (b : B) → g (i + k) ≡ b → ((j : ℕ) → j < i + n → (j ≡ i + k → ⊥) → f j ≡ g j) → set (map f (places i n)) k b ≡ map g (places i n)
  put-from i zero k b e h = refl
  put-from i (suc n) zero b e h =
      let z : i + 0 ≡ i = omega arith in
      ap₂ ◌∷◌ (sym e ∙ ap g z) (same_from (suc i) n (λ j p q. h j (omega arith) (λ d. omega arith)))
  put-from i (suc n) (suc k) b e h =
      let z : i + suc k ≡ suc i + k = omega arith in
      ap₂ ◌∷◌ (h i (omega arith) (λ d. omega arith)) (put-from (suc i) n k b (ap g (sym z) ∙ e) (λ j q d. h j (omega arith) (λ x. d (x ∙ z))))

  -- one changed at its place
  pub by_set : (n k : ℕ) (b : B) → g k ≡ b → ((j : ℕ) → j < n → (j ≡ k → ⊥) → f j ≡ g j) → set (map f (places 0 n)) k b ≡ map g (places 0 n)
  by_set n k b e h =
      let z : 0 + k ≡ k = omega arith in
      put-from 0 n k b (ap g z ∙ e) (λ j q d. h j (omega arith) (λ x. d (x ∙ sym z)))

  shift_from : (i n : ℕ) → ((j : ℕ) → i ≤ j → j < i + n → g j ≡ f (suc j)) → map g (places i n) ≡ map f (places (suc i) n)
  shift_from i zero h = refl
  shift_from i (suc n) h = ap₂ ◌∷◌ (h i (omega arith) (omega arith)) (shift_from (suc i) n (λ j p q. h j (omega arith) (omega arith)))

  remove-from : (i n k : ℕ) → k ≤ n → ((j : ℕ) → i ≤ j → j < i + k → g j ≡ f j) → ((j : ℕ) → i + k ≤ j → j < i + n → g j ≡ f (suc j)) → map g (places i n) ≡ remove_at k (map f (places i (suc n)))
  remove-from i n zero h same moved = shift_from i n (λ j p q. moved j (omega arith) q)
  remove-from i zero (suc k) h same moved = absurd (omega arith)
  remove-from i (suc n) (suc k) h same moved =
      ap₂ ◌∷◌ (same i (omega arith) (omega arith)) (remove-from (suc i) n k (omega arith) (λ j p q. same j (omega arith) (omega arith)) (λ j p q. moved j (omega arith) (omega arith)))

  -- one removed: those behind it move one place down
  pub by_remove : (n k : ℕ) → k < n → ((j : ℕ) → j < k → g j ≡ f j) → ((j : ℕ) → k ≤ j → j < n - 1 → g j ≡ f (suc j)) → map g (places 0 (n - 1)) ≡ remove_at k (map f (places 0 n))
  by_remove zero k h same moved = absurd (omega arith)
  by_remove (suc n) k h same moved =
      let e : suc n - 1 ≡ n = omega arith in
      rw e (remove-from 0 n k (omega arith) (λ j p q. same j (omega arith)) (λ j p q. moved j (omega arith) (omega arith)))
