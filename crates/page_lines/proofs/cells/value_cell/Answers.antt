-- `page_lines::cells::value_cell` meets its contract: by the kind of the value.
use Prim.Native.Nat.{ℕ, ◌+◌, ◌≤◌}
use mathlib.Core.Path.{◌≡◌, sym, ap, ◌∙◌}
use mathlib.Core.List.{List, [], ◌∷◌, ◌++◌}
use native.Mathlib.Omega.{arith}
use lib.Dec.{T}
use lib.IntN.{ℤ}
use lib.ListN.{length}
use mir.Syntax.{w32}
use mir.Val.{SFits}
use borrow.Author.Rules.{sfits_of}
use Rattle.values.specs.declared.Locality.{Locality}
use Rattle.values.specs.declared.Value.{Value}
use Rattle.values.specs.declared.Value.TheVariants.{Int, Text, Loc}
use Rattle.values.specs.Values.{locality_ok, bytes_of, in_range}
use Rattle.values.proofs.Ints.{wide, wide_is}
use Rattle.value_decimal.specs.Decimals.{digit, signed, blanks}
use Rattle.page_rules.specs.Pages.{left_aligned, cell}
use Rattle.page_lines.proofs.CellLaws.{few-in32, right_filled}
use Rattle.page_lines.proofs.cells.value_cell.Goals as goal

module _ (o : List ℕ) (v : Value) (i : ℤ) (p : SFits w32 i) (e : v ≡ Int i) (l : length o ≡ 13) where
  int-fits : T (in_range v) → length (signed (wide i)) ≤ length o
  int-fits h = rw (wide_is i p) (omega (arith, few-in32 i (rw e at h)))

  as_int : (out : List ℕ) (r : ℕ) → out ≡ blanks r ++ signed (wide i) → r + length (signed (wide i)) ≡ length o → out ≡ cell v
  unfolding cell
  as_int out r q h = rw e (right_filled out (signed i) o r l (q ∙ ap (λ (z : ℤ). blanks r ++ signed z) (wide_is i p)) (ap (λ (z : ℤ). r + length (signed z)) (sym (wide_is i p)) ∙ h))

as-text : (v : Value) (t : ℕ) (out : List ℕ) → v ≡ Text t → out ≡ left_aligned (bytes_of t) → out ≡ cell v
unfolding cell
as-text v t out e o = rw (e, o)

as-loc : (v : Value) (l : Locality) (out : List ℕ) → v ≡ Loc l → out ≡ left_aligned (0x40 ∷ digit l.0 ∷ []) → out ≡ cell v
unfolding cell
as-loc v l out e o = rw (e, o)

loc-ok : (v : Value) (l : Locality) → v ≡ Loc l → T (in_range v) → T (locality_ok l)
loc-ok v l e h = rw e at h

pub put_signed-requires : goal.put_signed-requires
put_signed-requires c = search (int-fits, sfits_of)

pub returns-in-Int : goal.returns-in-Int
returns-in-Int c = search (as_int, sfits_of)

pub returns-in-Text : goal.returns-in-Text
returns-in-Text c = search as-text

pub returns-in-Loc : goal.returns-in-Loc
returns-in-Loc c = search as-loc
