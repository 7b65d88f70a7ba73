-- A draft that fits gives a row that fits; columns that agree are equal. Assumes nothing.
use mathlib.Core.Path.{◌≡◌, refl, ap}
use mathlib.Core.List.{List, [], ◌∷◌, map}
use lib.Dec.{T, eqb, eqb→eq}
use Rattle.values.specs.Operands.{Got}
use Rattle.std.specs.Prelude.{None, Some}
use Rattle.std.specs.List.{list_all}
use Rattle.values.specs.Operands.{is_got, values_in, value_in}
use Rattle.values.proofs.Bools.{and_l, and_r, and_in}
use Rattle.values.proofs.AgreeLaws.{agree_eq}
use Rattle.rows.specs.Relations.{Columns}
use Rattle.rows.specs.Fit.{Draft, of_kind, fits, fits_row, same_columns}

pub fits-row : (cs : Columns) (d : Draft) → T (fits cs d) → T (fits_row cs (values_in d))
fits-row [] [] h = tt
fits-row [] (g ∷ d) h = absurd h
fits-row (c ∷ cs) [] h = absurd h
fits-row (c ∷ cs) (None ∷ d) h = absurd h
fits-row (c ∷ cs) (Some v ∷ d) h =
    and_in (of_kind c (Some v)) (fits_row cs (values_in d)) (and_l (of_kind c (Some v)) (fits cs d) h) (fits-row cs d (and_r (of_kind c (Some v)) (fits cs d) h))

pub same-columns : (cs ds : Columns) → T (same_columns cs ds) → cs ≡ ds
same-columns cs ds h = agree_eq eqb eqb→eq cs ds h

-- values that are all there
pub all_there : (d : List Got) → T (list_all is_got d) → map value_in d ≡ values_in d
all_there [] h = refl
all_there (None ∷ d) h = absurd h
all_there (Some v ∷ d) h = ap (v ∷◌) (all_there d h)
