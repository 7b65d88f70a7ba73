-- Every cell has a blank, and a number has one before it.
use Prim.Native.Nat.{ℕ, zero, suc, ◌-◌, ◌≤◌}
use mathlib.Core.Path.{◌≡◌, sym, ap, subst}
use mathlib.Core.Bool.{Bool, true, false, cond, ◌||◌}
use mathlib.Core.List.{List, [], ◌∷◌, ◌++◌}
use native.Mathlib.Omega.{arith}
use lib.Dec.{T, eqb}
use lib.ListN.{length, get_or}
use Rattle.values.specs.declared.Value.{Value}
use Rattle.values.specs.declared.Value.TheVariants.{Int, Text, Loc}
use Rattle.std.specs.List.{list_all, list_any}
use Rattle.values.specs.Values.{bytes_of, in_range}
use Rattle.values.proofs.Bools.{and_l, and_r}
use Rattle.value_decimal.specs.Decimals.{digit, signed, blanks}
use Rattle.rows.specs.Relations.{Row, Relation}
use Rattle.row_change.specs.Aggregates.{column, total}
use Rattle.nets.specs.Sound.{rows_ok}
use Rattle.page_rules.specs.Pages.{right_aligned, cell, row_cell, sum_cell}
use Rattle.page_lines.proofs.CellLaws.{few-in32}
use Rattle.page_lines.proofs.SumLaws.{few_in_sum}

abbrev pub HasBlank : List ℕ → Type 0
HasBlank bs = T (list_any (eqb 0x20) bs)

blank_behind : (bs cs : List ℕ) → HasBlank cs → HasBlank (bs ++ cs)
blank_behind [] cs h = h
blank_behind (b ∷ bs) cs h = go (eqb 0x20 b) (blank_behind bs cs h)
  where
    go : (t : Bool) → HasBlank (bs ++ cs) → T (t || list_any (eqb 0x20) (bs ++ cs))
    go true h = tt
    go false h = h

-- twelve places or fewer leave a blank in front
module _ (bs : List ℕ) (few : length bs ≤ 12) where
  in_front : right_aligned bs ≡ 0x20 ∷ blanks (12 - length bs) ++ bs
  in_front =
      let e : 13 - length bs ≡ suc (12 - length bs) = omega arith in
      ap (λ (n : ℕ). blanks n ++ bs) e

  pub right-apart : get_or (right_aligned bs) 0 0 ≡ 0x20
  right-apart = ap (λ (l : List ℕ). get_or l 0 0) in_front

  right_blank : HasBlank (right_aligned bs)
  right_blank = subst HasBlank (sym in_front) tt

cell_blank : (v : Value) → T (in_range v) → HasBlank (cell v)
unfolding cell
cell_blank (Int i) h = right_blank (signed i) (omega (arith, few-in32 i h))
cell_blank (Text t) h = blank_behind (bytes_of t) (blanks 9) tt
cell_blank (Loc l) h = blank_behind (0x40 ∷ digit l.0 ∷ []) (blanks 11) tt

pub row_blank : (r : Row) → T (list_all in_range r) → (i : ℕ) → HasBlank (row_cell r i)
row_blank [] h i = tt
row_blank (v ∷ r) h zero = cell_blank v (and_l (in_range v) (list_all in_range r) h)
row_blank (v ∷ r) h (suc i) = row_blank r (and_r (in_range v) (list_all in_range r) h) i

pub sum_blank : (r : Relation) → T (rows_ok r.rows) → (i : ℕ) → HasBlank (sum_cell r i)
unfolding sum_cell
sum_blank r h i = go (eqb (get_or r.columns i 0) 1)
  where
    go : (t : Bool) → HasBlank (cond t (right_aligned (signed (total (column i r.rows)))) (blanks 13))
    go true = right_blank (signed (total (column i r.rows))) (few_in_sum i r.rows h)
    go false = tt
