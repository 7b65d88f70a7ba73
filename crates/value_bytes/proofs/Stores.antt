-- Bytes stored one after the other, and parts of a buffer written one after the other.
use Prim.Native.Nat.{ℕ, zero, suc, ◌+◌, ◌-◌, ◌*◌, ◌≤◌}
use mathlib.Core.Path.{◌≡◌, refl, sym, ap, ◌∙◌}
use mathlib.Core.List.{List, [], ◌∷◌, ◌++◌, append-nil, append_assoc}
use native.Mathlib.Nat.{zero-mul}
use native.Mathlib.Omega.{arith}
use lib.ListN.{length, get_or, take, drop, replicate, length-append, drop_of_length-le}
use lib.Seq.{sets, sets-eq, take_at, drop_at, drop-drop}
use borrow.Rule.Slice.PartMut.{put_mid, same_len_mid}
use Rattle.values.specs.Lists.{firsts}
use Rattle.values.proofs.Firsts.{firsts-next}
use Rattle.value_bytes.specs.Bytes.{end_to_end}

-- a part of n elements from a on, as the code has it
pub part-size : (a n : ℕ) → a + n - a ≡ n
part-size a n = omega arith

-- stores at each index in turn, over the whole list
pub all-stored : (l vs : List ℕ) → length l ≡ length vs → sets l 0 vs ≡ vs
all-stored l vs e = sets-eq vs l 0 (omega arith) ∙ rw (drop_of_length-le l {i = 0 + length vs} (omega arith)) (append-nil vs)

-- a part of n bytes from a on, written: what came before it, and the bytes of the buffer o after it
pub part-written : (e o ys : List ℕ) (a n : ℕ) → length e ≡ a → put_mid a n (e ++ drop a o) ys ≡ (e ++ ys) ++ drop (a + n) o
part-written e o ys a n l = rw (take_at e (drop a o) a l, drop_at e (drop a o) a l, drop-drop, append_assoc)

pub kept-length : (xs ys : List ℕ) (a k n : ℕ) → length ys ≡ length (take k (drop a xs)) → length xs ≡ n → length (put_mid a k xs ys) ≡ n
kept-length xs ys a k n e l = same_len_mid a k xs ys e ∙ l

-- ── zeros ──

pub drop-replicate : (n m a : ℕ) → drop n (replicate m a) ≡ replicate (m - n) a
drop-replicate zero m a =
    let e : m ≡ m - 0 = omega arith in
    ap (λ (k : ℕ). replicate k a) e
drop-replicate (suc n) zero a =
    let e : 0 ≡ 0 - suc n = omega arith in
    ap (λ (k : ℕ). replicate k a) e
drop-replicate (suc n) (suc m) a =
    let e : suc m - suc n ≡ m - n = omega arith in
    rw e (drop-replicate n m a)

replicate_more : (m n a : ℕ) → replicate m a ++ replicate n a ≡ replicate (m + n) a
replicate_more zero n a =
    let e : n ≡ 0 + n = omega arith in
    ap (λ (k : ℕ). replicate k a) e
replicate_more (suc m) n a =
    let e : suc m + n ≡ suc (m + n) = omega arith in
    rw e (ap (λ (l : List ℕ). a ∷ l) (replicate_more m n a))

-- parts of zeros are zeros
pub zero-parts : (m k : ℕ) → end_to_end (replicate m (replicate k 0)) ≡ replicate (m * k) 0
zero-parts zero k = ap (λ (n : ℕ). replicate n 0) (sym (zero-mul k))
zero-parts (suc m) k =
    let e : k + m * k ≡ suc m * k = omega arith in
    ap (λ (l : List ℕ). replicate k 0 ++ l) (zero-parts m k) ∙ replicate_more k (m * k) 0 ∙ ap (λ (n : ℕ). replicate n 0) e

-- ── parts end to end ──

pub ends-append : (ps qs : List (List ℕ)) → end_to_end (ps ++ qs) ≡ end_to_end ps ++ end_to_end qs
ends-append [] qs = refl
ends-append (p ∷ ps) qs = rw (ends-append ps qs, append_assoc)

pub ends_next : (ps : List (List ℕ)) (p : List ℕ) → end_to_end (ps ++ (p ∷ [])) ≡ end_to_end ps ++ p
ends_next ps p = ends-append ps (p ∷ []) ∙ ap (λ (l : List ℕ). end_to_end ps ++ l) (append-nil p)

-- parts of one size, of the elements of an array
module _ {A : Type 0} (f : A → List ℕ) (z : A) (k : ℕ) (sized : (a : A) → length (f a) ≡ k) where
  pub ends-length : (n : ℕ) (l : List A) → length (end_to_end (firsts f z n l)) ≡ n * k
  ends-length zero l = sym (zero-mul k)
  ends-length (suc n) [] = rw (length-append, sized z, ends-length n []) (omega arith)
  ends-length (suc n) (a ∷ l) = rw (length-append, sized a, ends-length n l) (omega arith)

  -- element i written through the part of k bytes at i * k
  pub ends_more : (l : List A) (i : ℕ) (o out ys : List ℕ) → out ≡ end_to_end (firsts f z i l) ++ drop (i * k) o → ys ≡ f (get_or l i z) →
      put_mid (i * k) (i * k + k - i * k) out ys ≡ end_to_end (firsts f z (i + 1) l) ++ drop ((i + 1) * k) o
  ends_more l i o out ys e q =
      let s : (i + 1) * k ≡ i * k + k = omega arith in
      rw (e, part-size, part-written (end_to_end (firsts f z i l)) o ys (i * k) k (ends-length i l), s, firsts-next f z i l, ends_next, q)

-- all parts written, and nothing left of the buffer
pub ends-all : {A : Type 0} (f : A → List ℕ) (z : A) (k n i : ℕ) (l : List A) (o out : List ℕ) → i ≤ n → n ≤ i → length o ≡ n * k →
    out ≡ end_to_end (firsts f z i l) ++ drop (i * k) o → out ≡ end_to_end (firsts f z n l)
ends-all f z k n i l o out a b lo e =
    let q : i ≡ n = omega arith in
    let w : length o ≤ i * k = rw (q, lo) (omega arith) in
    rw (e, drop_of_length-le o {i = i * k} w, append-nil, q)

-- adjacent parts that fill a buffer o of 104 bytes
module _ (o : List ℕ) (l : length o ≡ 104) where
  none_left : drop 104 o ≡ []
  none_left = drop_of_length-le o {i = 104} (omega arith)

  pub three-parts : (s k z : List ℕ) → length s ≡ 8 → length k ≡ 4 → length z ≡ 92 → put_mid 12 92 (put_mid 8 4 (s ++ drop 8 o) k) z ≡ s ++ (k ++ z)
  three-parts s k z ls lk lz =
      let n : length (s ++ k) ≡ 12 = simp length-append (omega arith) in
      rw (part-written s o k 8 4 ls, part-written (s ++ k) o z 12 92 n, none_left, append-nil, append_assoc)

  pub four-parts : (s a t b : List ℕ) → length s ≡ 8 → length a ≡ 48 → length t ≡ 32 → length b ≡ 16 →
      put_mid 88 16 (put_mid 56 32 (put_mid 8 48 (s ++ drop 8 o) a) t) b ≡ s ++ (a ++ (t ++ b))
  four-parts s a t b ls la lt lb =
      let n : length (s ++ a) ≡ 56 = simp length-append (omega arith) in
      let m : length ((s ++ a) ++ t) ≡ 88 = simp length-append (omega arith) in
      rw (part-written s o a 8 48 ls, part-written (s ++ a) o t 56 32 n, part-written ((s ++ a) ++ t) o b 88 16 m, none_left, append-nil) (simp append_assoc)
