-- How long each written piece is, and records made of adjacent parts.
use Prim.Native.Nat.{ℕ, zero, suc, min, ◌-◌, ◌*◌, ◌<◌, ◌≤◌}
use mathlib.Core.Path.{◌≡◌, refl}
use mathlib.Core.List.{List, [], ◌∷◌, ◌++◌}
use native.Mathlib.Omega.{arith}
use lib.ListN.{length, get_or, take, replicate, length-append, length-replicate}
use borrow.Rule.Slice.PartMut.{put_mid}
use Rattle.values.specs.declared.Site.{Site}
use Rattle.values.specs.declared.Value.{Value}
use Rattle.values.specs.declared.Value.TheVariants.{Int, Text, Loc}
use Rattle.values.specs.Lists.{firsts}
use Rattle.values.proofs.Firsts.{length-firsts, map-firsts}
use Rattle.rows.specs.declared.Row as Code
use Rattle.rows.specs.View.{no_cell, values_of, columns_of}
use Rattle.nets.specs.Nets.{Table}
use Rattle.record_bytes.specs.Encoding.{operand_bytes, tuple_bytes, start_bytes, column_bytes, table_bytes, row_bytes}
use Rattle.value_bytes.specs.Bytes.{end_to_end}
use Rattle.value_bytes.proofs.Stores.{zero-parts, ends-append, ends-length}

abbrev pub cell_bytes : Value → List ℕ
cell_bytes c = operand_bytes c

pub cell-length : (c : Value) → length (cell_bytes c) ≡ 8
cell-length c = go c
  where
    go : (v : Value) → length (operand_bytes v) ≡ 8
    go (Int i) = refl
    go (Text t) = refl
    go (Loc l) = refl

-- a tuple: the operands of the cells in use, then zeros
pub tuple_is : (n : ℕ) (r : Code.Row) → n ≤ 4 → tuple_bytes (values_of n r) ≡ end_to_end (firsts cell_bytes no_cell n r.cells) ++ replicate (32 - n * 8) 0
unfolding tuple_bytes
tuple_is n r h =
    let l : length (values_of n r) ≡ n = length-firsts (λ (v : Value). v) no_cell n r.cells in
    let e : (4 - n) * 8 ≡ 32 - n * 8 = omega arith in
    rw (ends-append, l, zero-parts (4 - n) 8, e, map-firsts operand_bytes (λ (v : Value). v) no_cell n r.cells)

module _ (n : ℕ) (r : Code.Row) (h : n ≤ 4) where
  pub tuple-length : length (tuple_bytes (values_of n r)) ≡ 32
  tuple-length = rw (tuple_is n r h, length-append, length-replicate, ends-length cell_bytes no_cell 8 cell-length n r.cells) (omega arith)

  pub row-length : (s : Site) (m : ℕ) → length (row_bytes s m (values_of n r)) ≡ 104
  unfolding row_bytes
  row-length s m = simp (length-append, tuple-length)

  -- the parts of a row record, the others zero
  pub row-parts : (s : Site) (m : ℕ) (p t : List ℕ) → p ≡ start_bytes 3 s m → t ≡ tuple_bytes (values_of n r) → put_mid 56 32 (p ++ replicate 96 0) t ≡ row_bytes s m (values_of n r)
  unfolding row_bytes
  row-parts s m p t hp ht = rw (hp, ht) refl

pub table-length : (t : Table) → length (table_bytes t) ≡ 104
unfolding table_bytes
table-length t = refl

-- of the kinds in use four have bytes
pub columns_taken : (ks : List ℕ) (n m : ℕ) → m ≡ min n 4 → column_bytes (take m ks) ≡ column_bytes (columns_of n ks)
columns_taken ks n m e =
    let same : (i : ℕ) → i < 4 → get_or (take m ks) i 0 ≡ get_or (columns_of n ks) i 0 = λ i h. go ks m n i (omega (arith, e)) (λ q. omega (arith, e, q, h)) in
    rw (same 0 (omega arith), same 1 (omega arith), same 2 (omega arith), same 3 (omega arith)) refl
  where
    none : (k i : ℕ) → 0 ≡ get_or (columns_of k []) i 0
    none zero i = refl
    none (suc k) zero = refl
    none (suc k) (suc i) = none k i

    go : (l : List ℕ) (j k i : ℕ) → j ≤ k → (i < k → i < j) → get_or (take j l) i 0 ≡ get_or (columns_of k l) i 0
    go [] zero k i b h = none k i
    go [] (suc j) k i b h = none k i
    go (a ∷ l) zero zero i b h = refl
    go (a ∷ l) zero (suc k) zero b h = absurd (omega (arith, h (omega arith)))
    go (a ∷ l) zero (suc k) (suc i) b h = go l zero k i (omega arith) (λ q. omega (arith, h (omega (arith, q))))
    go (a ∷ l) (suc j) zero i b h = absurd (omega arith)
    go (a ∷ l) (suc j) (suc k) zero b h = refl
    go (a ∷ l) (suc j) (suc k) (suc i) b h = go l j k i (omega arith) (λ q. omega (arith, h (omega (arith, q))))

-- the parts of a table record, the others zero
pub table-parts : (t : Table) (p k : List ℕ) → p ≡ start_bytes 2 t.site t.name → k ≡ column_bytes t.content.columns → put_mid 8 4 (p ++ replicate 96 0) k ≡ table_bytes t
unfolding table_bytes
table-parts t p k hp hk = rw (hp, hk) refl
