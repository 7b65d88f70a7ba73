-- The tests of one site, one value and one row are equality. Assumes nothing.
use mathlib.Core.Path.{◌≡◌, ap}
use mathlib.Core.List.{List}
use lib.Dec.{T, eqb→eq, eqb_refl}
use lib.IntN.{ℤ, pos, negsuc}
use Rattle.values.specs.declared.Site.{Site}
use Rattle.values.specs.declared.Locality.{Locality}
use Rattle.values.specs.declared.Value.{Value}
use Rattle.values.specs.declared.Value.TheVariants.{Int, Text, Loc}
use Rattle.values.specs.Values.{same_site, same_locality, same_int, same_value, same_row}
use Rattle.values.proofs.AgreeLaws.{agree_eq, agree_refl}

pub site_eq : (s t : Site) → T (same_site s t) → s ≡ t
site_eq s t h = λ i. record { 0 = eqb→eq s.0 t.0 h i }

pub locality_eq : (l m : Locality) → T (same_locality l m) → l ≡ m
locality_eq l m h = λ i. record { 0 = eqb→eq l.0 m.0 h i }

int_eq : (i j : ℤ) → T (same_int i j) → i ≡ j
int_eq (pos m) (pos n) h = ap pos (eqb→eq m n h)
int_eq (pos m) (negsuc n) h = absurd h
int_eq (negsuc m) (pos n) h = absurd h
int_eq (negsuc m) (negsuc n) h = ap negsuc (eqb→eq m n h)

int_refl : (i : ℤ) → T (same_int i i)
int_refl (pos m) = eqb_refl m
int_refl (negsuc m) = eqb_refl m

pub value_eq : (v w : Value) → T (same_value v w) → v ≡ w
value_eq (Int i) (Int j) h = ap Int (int_eq i j h)
value_eq (Int i) (Text u) h = absurd h
value_eq (Int i) (Loc m) h = absurd h
value_eq (Text t) (Int j) h = absurd h
value_eq (Text t) (Text u) h = ap Text (eqb→eq t u h)
value_eq (Text t) (Loc m) h = absurd h
value_eq (Loc l) (Int j) h = absurd h
value_eq (Loc l) (Text u) h = absurd h
value_eq (Loc l) (Loc m) h = ap Loc (locality_eq l m h)

pub value_refl : (v : Value) → T (same_value v v)
value_refl (Int i) = int_refl i
value_refl (Text t) = eqb_refl t
value_refl (Loc l) = eqb_refl l.0

pub row_eq : (r s : List Value) → T (same_row r s) → r ≡ s
row_eq r s h = agree_eq same_value value_eq r s h

pub row_refl : (r : List Value) → T (same_row r r)
row_refl r = agree_refl same_value value_refl r
