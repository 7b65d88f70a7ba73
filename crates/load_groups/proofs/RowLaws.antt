-- The values of a row record: with no variable bound each operand gives one, so the row fits columns as what its operands give does. Assumes nothing.
use Prim.Native.Nat.{ℕ}
use mathlib.Core.Path.{◌≡◌, refl, ap, sym, ◌∙◌}
use mathlib.Core.List.{List, [], ◌∷◌, map}
use lib.Dec.{T}
use Rattle.values.specs.Operands.{Got}
use Rattle.std.specs.Prelude.{None, Some}
use Rattle.values.specs.declared.Operand.{Operand}
use Rattle.values.specs.declared.Operand.TheVariants.{Absent, ConstInt, ConstText, ConstLoc, Var, Plus, Formal}
use Rattle.std.specs.List.{list_all}
use Rattle.values.specs.Operands.{is_got, values_in, eval}
use Rattle.values.proofs.Bools.{and_r}
use Rattle.values.proofs.ListLaws.{all-map_of}
use Rattle.rows.specs.declared.Draft.{Draft}
use Rattle.rows.specs.Relations.{Columns}
use Rattle.rows.specs.Fit.{fits, fits_row}
use Rattle.rows.specs.View.{draft_of}
use Rattle.nets.specs.Sound.{tagged, operands_ok}
use Rattle.record_bytes.specs.Bytes.{operands_in}
use Rattle.record_bytes.specs.Decoding.{row_in}

-- a constant is a value
constant_got : (o : Operand) → T (tagged 3 o) → T (is_got (eval [] o))
constant_got Absent h = absurd h
constant_got (ConstInt i) h = tt
constant_got (ConstText t) h = tt
constant_got (ConstLoc l) h = tt
constant_got (Var i) h = absurd h
constant_got (Plus i k) h = absurd h
constant_got (Formal i) h = absurd h

constants-got : (os : List Operand) → T (operands_ok 3 os) → T (list_all is_got (map (eval []) os))
constants-got os h = all-map_of (tagged 3) is_got (eval []) os constant_got (search and_r)

-- values that are all there, as a draft again
ones_again : (ds : List Got) → T (list_all is_got ds) → map Some (values_in ds) ≡ ds
ones_again [] h = refl
ones_again (None ∷ ds) h = absurd h
ones_again (Some v ∷ ds) h = ap (Some v ∷◌) (ones_again ds h)

-- `d` is what the operands give
pub row_fits_lem : (cs : Columns) (p : List ℕ) (d : Draft) → draft_of d ≡ map (eval []) (operands_in p) → T (operands_ok 3 (operands_in p)) → fits_row cs (row_in p) ≡ fits cs (draft_of d)
row_fits_lem cs p d given ok = ap (fits cs) (ones_again (map (eval []) (operands_in p)) (constants-got (operands_in p) ok) ∙ sym given)
