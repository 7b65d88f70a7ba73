-- Rows judged once: each value by its column's kind and its range together. Assumes nothing.
use Prim.Native.Nat.{ℕ, ◌<◌, ◌≤◌}
use mathlib.Core.Path.{◌≡◌, refl, sym, ap, ap₂, ◌∙◌}
use mathlib.Core.Bool.{Bool, true, false, ◌&&◌, and-false}
use mathlib.Core.List.{List, [], ◌∷◌, map}
use Rattle.std.specs.Prelude.{Some}
use native.Mathlib.Omega.{arith}
use lib.Dec.{T, eqb, leb, leb→le}
use borrow.Author.Tests.{le-leb, lt-leb}
use lib.ListN.{length}
use Rattle.values.specs.Lists.{agree}
use Rattle.std.specs.List.{list_all, zip}
use Rattle.values.specs.Values.{kind_of, in_range}
use Rattle.values.proofs.Bools.{and_l, and_r, and_comm, and_swap, T_of}
use Rattle.rows.specs.declared.Relation as Code
use Rattle.rows.specs.Relations.{Row, Columns, Relation}
use Rattle.rows.specs.Fit.{fits_row}
use Rattle.rows.specs.View.{relation_of, Shaped}
use Rattle.nets.specs.Sound.{columns_ok, relation_ok}
use Rattle.net_parts.specs.SoundParts.{row_ok}
use Rattle.net_parts.proofs.Counts.{columns-count, rows-count}

-- ── ranges and fit together ──

row-both : (cs : Columns) (r : Row) → row_ok cs r ≡ (list_all in_range r && fits_row cs r)
row-both [] [] = refl
row-both [] (v ∷ r) = sym (and-false (in_range v && list_all in_range r))
row-both (c ∷ cs) [] = refl
row-both (c ∷ cs) (v ∷ r) =
    ap₂ ◌&&◌ (and_comm (eqb c (kind_of v)) (in_range v)) (row-both cs r)
    ∙ and_swap (in_range v) (eqb c (kind_of v)) (list_all in_range r) (fits_row cs r)

rows_both : (cs : Columns) (rs : List Row) → list_all (row_ok cs) rs ≡ (list_all (λ r. list_all in_range r) rs && list_all (fits_row cs) rs)
rows_both cs [] = refl
rows_both cs (r ∷ rs) =
    ap₂ ◌&&◌ (row-both cs r) (rows_both cs rs)
    ∙ and_swap (list_all in_range r) (fits_row cs r) (list_all (λ r. list_all in_range r) rs) (list_all (fits_row cs) rs)

-- ── a relation, of `n` rows ──

module _ (r : Relation) {n : ℕ} (e : length r.rows ≡ n) where
  pub relation-over : 16 < n → false ≡ relation_ok (Some r)
  relation-over h = rw (lt-leb (length r.rows) 16 (omega arith), and-false (columns_ok r.columns))

  pub relation-judged : {x y : Bool} → n ≤ 16 → x ≡ columns_ok r.columns → x ≡ true → y ≡ list_all (row_ok r.columns) r.rows → y ≡ relation_ok (Some r)
  relation-judged h p k q = rw (sym p ∙ k, le-leb (length r.rows) 16 (omega arith)) (q ∙ rows_both r.columns r.rows)

-- ── a relation that is right is within its arrays ──

pub relation-shaped : (r : Code.Relation) → relation_ok (Some (relation_of r)) ≡ true → Shaped r
relation-shaped r h =
    let a : T (relation_ok (Some (relation_of r))) = T_of (relation_ok (Some (relation_of r))) h in
    let b : T (leb (length (relation_of r).columns) 4) = search (and_l, and_r) in
    let c : T (leb (length (relation_of r).rows) 16) = search (and_l, and_r) in
    record {
      columns = omega (arith, leb→le (length (relation_of r).columns) 4 b, columns-count r.columns r.kinds);
      count = omega (arith, leb→le (length (relation_of r).rows) 16 c, rows-count r);
    }

-- ── pairs ──

-- two lists of one length agree where all pairs of the two do
pub all-pairs : {A B : Type 0} (p : A → B → Bool) (k : List A) (l : List B) → length k ≡ length l → list_all (λ (x : A × B). p x.0 x.1) (zip k l) ≡ agree p k l
all-pairs p [] [] h = refl
all-pairs p [] (b ∷ l) h = absurd (omega arith)
all-pairs p (a ∷ k) [] h = absurd (omega arith)
all-pairs p (a ∷ k) (b ∷ l) h = ap (p a b &&◌) (all-pairs p k l (omega arith))

-- the same of what is seen of their elements
pub agree-map : {A B C D : Type 0} (p : C → D → Bool) (f : A → C) (g : B → D) (k : List A) (l : List B) → agree (λ a b. p (f a) (g b)) k l ≡ agree p (map f k) (map g l)
agree-map p f g [] [] = refl
agree-map p f g [] (b ∷ l) = refl
agree-map p f g (a ∷ k) [] = refl
agree-map p f g (a ∷ k) (b ∷ l) = ap (p (f a) (g b) &&◌) (agree-map p f g k l)
