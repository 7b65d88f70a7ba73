-- Parts of one size end to end: one for each place, as a loop puts them, or a list of them; and adjacent parts that fill a buffer.
use Prim.Native.Nat.{ℕ, zero, suc, ◌+◌, ◌-◌, ◌*◌, ◌≤◌, ◌<◌}
use mathlib.Core.Path.{◌≡◌, refl, sym, ap, ◌∙◌}
use mathlib.Core.List.{List, [], ◌∷◌, ◌++◌, map, append-nil, append_assoc}
use native.Mathlib.Nat.{zero-mul}
use native.Mathlib.Numerals.{add-one}
use native.Mathlib.Omega.{arith}
use lib.ListN.{length, get_or, take, drop, length-append, length-take, length-drop, drop_of_length-le}
use lib.Seq.{drop_at, drop-drop}
use borrow.Rule.Slice.PartMut.{put_mid}
use Rattle.values.specs.Lists.{places, firsts}
use Rattle.value_bytes.specs.Bytes.{end_to_end}
use Rattle.value_bytes.proofs.Stores.{part-size, part-written, ends_next}

-- ── a part for each place ──

module _ (g : ℕ → List ℕ) where
  unfoldable pub along : ℕ → List ℕ
  along n = end_to_end (map g (places 0 n))

  along-from : (j n r : ℕ) → r ≡ j + n → map g (places j (suc n)) ≡ map g (places j n) ++ (g r ∷ [])
  along-from j zero r e =
      let q : r ≡ j = omega arith in
      rw q refl
  along-from j (suc n) r e = ap (g j ∷◌) (along-from (suc j) n r (omega arith))

  along-none : along 0 ≡ []
  unfolding along
  along-none = refl

  along-next : (n : ℕ) → along (n + 1) ≡ along n ++ g n
  unfolding along
  along-next n = rw add-one (ap end_to_end (along-from 0 n n (omega arith)) ∙ ends_next (map g (places 0 n)) (g n))

  module _ (k : ℕ) (sized : (i : ℕ) → length (g i) ≡ k) where
    pub along-length : (n : ℕ) → length (along n) ≡ n * k
    along-length zero = ap length along-none ∙ sym (zero-mul k)
    along-length (suc n) =
        let e : suc n ≡ n + 1 = omega arith in
        ap (λ (m : ℕ). length (along m)) e ∙ ap length (along-next n) ∙ rw (length-append, along-length n, sized n) (omega arith)

    pub along-more : (i : ℕ) (o out ys : List ℕ) → out ≡ along i ++ drop (i * k) o → ys ≡ g i → put_mid (i * k) (i * k + k - i * k) out ys ≡ along (i + 1) ++ drop ((i + 1) * k) o
    along-more i o out ys e q =
        let s : (i + 1) * k ≡ i * k + k = omega arith in
        rw (e, part-size, part-written (along i) o ys (i * k) k (along-length i), s, along-next i, q)

  pub along-all : (k n i : ℕ) (o out : List ℕ) → i ≤ n → n ≤ i → length o ≡ n * k → out ≡ along i ++ drop (i * k) o → out ≡ end_to_end (map g (places 0 n))
  unfolding along
  along-all k n i o out a b l e =
      let q : i ≡ n = omega arith in
      let w : length o ≤ i * k = rw (q, l) (omega arith) in
      rw (e, drop_of_length-le o {i = i * k} w, append-nil, q)

-- ── a list of parts ──

-- each part of the list has k bytes
abbrev pub Sized : ℕ → List (List ℕ) → Type 0
Sized k [] = Unit
Sized k (r ∷ rs) = (length r ≡ k) × Sized k rs

-- a list that starts with another
pub record Starts (l start : List ℕ) : Type 0 where
  pub rest : List ℕ
  pub whole : l ≡ start ++ rest

module _ (k : ℕ) where
  pub sized-length : (rs : List (List ℕ)) → Sized k rs → length (end_to_end rs) ≡ length rs * k
  sized-length [] s = sym (zero-mul k)
  sized-length (r ∷ rs) s = rw (length-append, s.0, sized-length rs s.1) (omega arith)

  pub sized-append : (rs qs : List (List ℕ)) → Sized k rs → Sized k qs → Sized k (rs ++ qs)
  sized-append [] qs s t = t
  sized-append (r ∷ rs) qs s t = (s.0, sized-append rs qs s.1 t)

  pub sized-map : {A : Type 0} (g : A → List ℕ) → ((a : A) → length (g a) ≡ k) → (l : List A) → Sized k (map g l)
  sized-map g h [] = tt
  sized-map g h (a ∷ l) = (h a, sized-map g h l)

  pub sized-firsts : {A B : Type 0} (g : B → List ℕ) (f : A → B) (z : A) → ((a : A) → length (g (f a)) ≡ k) → (n : ℕ) (l : List A) → Sized k (map g (firsts f z n l))
  sized-firsts g f z h zero l = tt
  sized-firsts g f z h (suc n) [] = (h z, sized-firsts g f z h n [])
  sized-firsts g f z h (suc n) (a ∷ l) = (h a, sized-firsts g f z h n l)

  -- from a part's place on stands the part, whatever follows
  pub sized-from : (rs : List (List ℕ)) (xs : List ℕ) (j : ℕ) (d : List ℕ) → Sized k rs → j < length rs → Starts (drop (j * k) (end_to_end rs ++ xs)) (get_or rs j d)
  sized-from [] xs j d s h = absurd (omega arith)
  sized-from (r ∷ rs) xs zero d s h = record { rest = end_to_end rs ++ xs; whole = ap (λ (n : ℕ). drop n ((r ++ end_to_end rs) ++ xs)) (zero-mul k) ∙ append_assoc r (end_to_end rs) xs }
  sized-from (r ∷ rs) xs (suc j) d s h =
      let e : suc j * k ≡ k + j * k = omega arith in
      let i = sized-from rs xs j d s.1 (omega arith) in
      record {
        rest = i.rest;
        whole =
            ap (λ (n : ℕ). drop n ((r ++ end_to_end rs) ++ xs)) e
            ∙ sym (drop-drop (j * k) k ((r ++ end_to_end rs) ++ xs))
            ∙ ap (λ (l : List ℕ). drop (j * k) (drop k l)) (append_assoc r (end_to_end rs) xs)
            ∙ ap (drop (j * k)) (drop_at r (end_to_end rs ++ xs) k s.0)
            ∙ i.whole;
      }

-- ── adjacent parts that fill a buffer ──

pub two_fill : (o x y : List ℕ) (a n : ℕ) → length x ≡ a → length o ≡ a + n → put_mid a n (x ++ drop a o) y ≡ x ++ y
two_fill o x y a n lx lo = rw (part-written x o y a n lx, drop_of_length-le o {i = a + n} (omega arith), append-nil)

pub three_fill : (o x y z : List ℕ) (a n m : ℕ) → length x ≡ a → length y ≡ n → length o ≡ a + n + m → put_mid (a + n) m (put_mid a n (x ++ drop a o) y) z ≡ x ++ (y ++ z)
three_fill o x y z a n m lx ly lo =
    let l : length (x ++ y) ≡ a + n = simp length-append (omega arith) in
    rw (part-written x o y a n lx, part-written (x ++ y) o z (a + n) m l, drop_of_length-le o {i = a + n + m} (omega arith), append-nil, append_assoc)

-- what two parts leave for a third
pub part_left : (o x y : List ℕ) (a n m : ℕ) → length x ≡ a → length y ≡ n → length o ≡ a + n + m → length (take m (drop (a + n) (put_mid a n (x ++ drop a o) y))) ≡ m
part_left o x y a n m lx ly lo =
    let l : length (x ++ y) ≡ a + n = simp length-append (omega arith) in
    rw (part-written x o y a n lx, drop_at (x ++ y) (drop (a + n) o) (a + n) l) (simp (length-take, length-drop) (omega arith))

-- what one part leaves for a second
pub part-first : (o x : List ℕ) (a n : ℕ) → length x ≡ a → a + n ≤ length o → length (take n (drop a (x ++ drop a o))) ≡ n
part-first o x a n lx lo = rw (drop_at x (drop a o) a lx) (simp (length-take, length-drop) (omega arith))
