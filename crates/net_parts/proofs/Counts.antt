-- What arrays with counts stand for is as long as the counts say, and is tested where it stands. Assumes nothing.
use Prim.Native.Nat.{ℕ, zero, suc, ◌+◌, ◌-◌, ◌<◌, ◌≤◌}
use mathlib.Core.Path.{◌≡◌, refl, ap, ◌∙◌}
use mathlib.Core.Bool.{Bool, false, not, ◌&&◌}
use mathlib.Core.List.{List, ◌∷◌, map}
use native.Mathlib.Omega.{arith}
use lib.Dec.{eqb, leb}
use lib.ListN.{length, take, drop, get_or, length-drop}
use borrow.Author.Tests.{le-leb, lt-leb, ne_eqb}
use Rattle.std.specs.List.{list_all, slice_range}
use Rattle.std.proofs.lemmas.List.{take_all, drop_more, drop-map}
use Rattle.values.specs.Lists.{firsts}
use Rattle.values.proofs.Firsts.{length-firsts, take_firsts}
use Rattle.values.specs.declared.Operand.{Operand}
use Rattle.rows.specs.declared.Operands.{Operands}
use Rattle.rows.specs.declared.Relation.{Relation}
use Rattle.rows.specs.View.{no_row, no_field, values_of, columns_of, relation_of, operands_of}

pub columns-count : (n : ℕ) (ks : List ℕ) → length (columns_of n ks) ≡ n
columns-count n ks = length-firsts (λ (k : ℕ). k) 0 n ks

pub rows-count : (r : Relation) → length (relation_of r).rows ≡ r.count
rows-count r = length-firsts (values_of r.columns) no_row r.count r.rows

pub operands_count : (t : Operands) → length (operands_of t) ≡ t.count
operands_count t = length-firsts (λ (o : Operand). o) no_field t.count t.fields

-- what is seen of the element at a place, and of those after it
pub one-seen : {A B : Type 0} (f : A → B) (z : A) (l : List A) (i : ℕ) → i < length l → drop i (map f l) ≡ f (get_or l i z) ∷ drop (i + 1) (map f l)
one-seen f z l i h = rw (drop-map f i l, drop-map f (i + 1) l, drop_more l i z h)

-- all that is left from a place on
pub all-after : {A : Type 0} (l : List A) (i : ℕ) → take (length l - i) (drop i l) ≡ drop i l
all-after l i = take_all (length l - i) (drop i l) (omega (arith, length-drop i l))

pub front : {A : Type 0} (n : ℕ) (l : List A) → slice_range l 0 n ≡ take n l
front n l = let e : n - 0 ≡ n = omega arith in ap (λ (k : ℕ). take k l) e

-- a number that is judged first, and what is left to decide
module _ {n m : ℕ} where
  pub number_over : m < n → (b : Bool) → false ≡ (leb n m && b)
  number_over h b = rw (lt-leb n m h)

  pub number_within : n ≤ m → (b : Bool) → b ≡ (leb n m && b)
  number_within h b = rw (le-leb n m h)

-- 1 to `m`, where there are no more
pub some-bounded : (m n : ℕ) → n ≤ m → (b : Bool) → (not (eqb n 0) && b) ≡ (leb 1 n && leb n m && b)
some-bounded m zero h b = refl
some-bounded m (suc n) h b = rw (ne_eqb (suc n) 0 (λ i. omega arith), le-leb 1 (suc n) (omega arith), le-leb (suc n) m h)

-- the same of an array's elements in use, of which each is tested: `e` says whether there is none
pub some-tested : {A : Type 0} (p : A → Bool) (z : A) (m n : ℕ) (l u : List A) → length l ≡ m → n ≤ length l → u ≡ slice_range l 0 n → {e t : Bool} → e ≡ eqb (length u) 0 → t ≡ list_all p u
    → (not e && t) ≡ (leb 1 (length (firsts (λ (a : A). a) z n l)) && leb (length (firsts (λ (a : A). a) z n l)) m && list_all p (firsts (λ (a : A). a) z n l))
some-tested {A} p z m n l u i h q e f =
    let k = firsts (λ (a : A). a) z n l in
    let w : u ≡ k = q ∙ front n l ∙ take_firsts z n l h in
    rw (e, f, w) (some-bounded m (length k) (omega (arith, length-firsts (λ (a : A). a) z n l)) (list_all p k))
