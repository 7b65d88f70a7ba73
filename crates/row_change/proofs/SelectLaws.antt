-- What a select stores fits its columns, and the columns are kinds. Assumes nothing.
use Prim.Native.Nat.{ℕ, ◌<◌}
use mathlib.Core.Path.{◌≡◌, refl, ap₂, sym, subst}
use mathlib.Core.Bool.{Bool, true, false, ◌&&◌, ◌||◌}
use mathlib.Core.List.{List, [], ◌∷◌, map, map-map}
use lib.Dec.{T, eqb, leb, eqb→eq, eqb_refl}
use lib.ListN.{get_or, length, length-map, get_or-map}
use Rattle.values.specs.declared.Value.TheVariants.{Int, Text, Loc}
use Rattle.values.specs.Operands.{Got}
use Rattle.std.specs.Prelude.{None, Some}
use Rattle.values.specs.declared.Operand.{Operand}
use Rattle.values.specs.declared.Operand.TheVariants.{Absent, ConstInt, ConstText, ConstLoc, Var, Plus, Formal}
use Rattle.values.specs.Lists.{among}
use Rattle.std.specs.List.{list_all}
use Rattle.values.specs.Values.{kind_of}
use Rattle.values.specs.Operands.{Vars, is_got, kind_in, eval, formals, bind}
use Rattle.values.proofs.Bools.{and_l, and_r, and_in}
use Rattle.values.proofs.ListLaws.{all-map_of, all_filter}
use Rattle.values.proofs.BindLaws.{known-passes, map-bind}
use Rattle.rows.specs.Relations.{Row, Columns, Relation, Selector}
use Rattle.rows.specs.Matching.{row_vars, hits, selected}
use Rattle.rows.specs.Fit.{draft, of_kind, fits, fits_row, relation_fits}
use Rattle.rows.proofs.FitLaws.{fits-row}
use Rattle.row_change.specs.Changes.{draft_for, tuple_for, column_for, kinds_of, selected_columns, selection}

-- ── kinds ──

abbrev pub is_kind : ℕ → Bool
is_kind k = leb 1 k && leb k 3

-- a row that fits has the columns for its kinds
fits-kinds : (cs : Columns) (r : Row) → T (fits_row cs r) → cs ≡ map kind_of r
fits-kinds [] [] h = refl
fits-kinds [] (v ∷ r) h = absurd h
fits-kinds (c ∷ cs) [] h = absurd h
fits-kinds (c ∷ cs) (v ∷ r) h =
    ap₂ ◌∷◌ (eqb→eq c (kind_of v) (and_l (eqb c (kind_of v)) (fits_row cs r) h)) (fits-kinds cs r (and_r (eqb c (kind_of v)) (fits_row cs r) h))

-- the kinds of the variables with a row bound: the kinds with its columns bound
kinds-bind : (e : Vars) (t : List Operand) (cs : Columns) (r : Row) → T (fits_row cs r) → bind t cs (kinds_of e) ≡ kinds_of (row_vars e t r)
kinds-bind e t cs r h = rw (fits-kinds cs r h, map-bind kind_in t (map Some r) e, map-map kind_in Some r)

-- a variable has a kind where it is bound
kind-known : (e : Vars) (i : ℕ) → is_kind (get_or (kinds_of e) i 0) ≡ is_got (get_or e i None)
kind-known e i = rw (get_or-map kind_in e i None) (go (get_or e i None))
  where
    go : (g : Got) → is_kind (kind_in g) ≡ is_got g
    go None = refl
    go (Some (Int i)) = refl
    go (Some (Text t)) = refl
    go (Some (Loc l)) = refl

-- and so once the columns are bound, also a formal
pub variable-kind : (e : Vars) (t : List Operand) (cs : Columns) (i : ℕ) → i < length e → length t ≡ length cs → T (list_all is_kind cs) → T (is_got (get_or e i None) || among i (formals t)) → T (is_kind (get_or (bind t cs (kinds_of e)) i 0))
variable-kind e t cs i l q k h =
    known-passes is_kind 0 i t cs (kinds_of e) (rw length-map l) q k
    (subst (λ (b : Bool). T (b || among i (formals t))) (sym (kind-known e i)) h)

-- ── the rows ──

-- not a variable plus Int, which may give nothing
abbrev pub no_sum : Operand → Bool
no_sum Absent = true
no_sum (ConstInt i) = true
no_sum (ConstText t) = true
no_sum (ConstLoc l) = true
no_sum (Var i) = true
no_sum (Plus i k) = false
no_sum (Formal i) = true

-- an operand that gives a value of the kind that its column has
abbrev pub has_kind : List ℕ → Operand → Bool
has_kind ks o = no_sum o && is_kind (column_for ks o)

operand_fits : (e : Vars) (o : Operand) → T (has_kind (kinds_of e) o) → T (of_kind (column_for (kinds_of e) o) (eval e o))
operand_fits e Absent h = absurd h
operand_fits e (ConstInt i) h = tt
operand_fits e (ConstText t) h = tt
operand_fits e (ConstLoc l) h = tt
operand_fits e (Var i) h = rw (get_or-map kind_in e i None) (go (get_or e i None) (rw (get_or-map kind_in e i None) at h))
  where
    go : (g : Got) → T (is_kind (kind_in g)) → T (of_kind (kind_in g) g)
    go None h = absurd h
    go (Some v) h = eqb_refl (kind_of v)
operand_fits e (Plus i k) h = absurd h
operand_fits e (Formal i) h = absurd h

draft-fits : (e : Vars) (u : List Operand) → T (list_all (has_kind (kinds_of e)) u) → T (fits (map (column_for (kinds_of e)) u) (map (eval e) u))
draft-fits e [] h = tt
draft-fits e (o ∷ u) h =
    and_in (of_kind (column_for (kinds_of e) o) (eval e o)) (fits (map (column_for (kinds_of e)) u) (map (eval e) u))
    (operand_fits e o (and_l (has_kind (kinds_of e) o) (list_all (has_kind (kinds_of e)) u) h))
    (draft-fits e u (and_r (has_kind (kinds_of e) o) (list_all (has_kind (kinds_of e)) u) h))

module _ (e : Vars) (s : Selector) (u : List Operand) (r : Relation) (kinds : T (list_all (has_kind (bind s.template r.columns (kinds_of e))) u)) where
  pub selected-kinds : T (list_all is_kind (selection e s u r).columns)
  unfolding selected_columns
  selected-kinds =
      let ks : List ℕ = bind s.template r.columns (kinds_of e) in
      all-map_of (has_kind ks) is_kind (column_for ks) u (λ o h. and_r (no_sum o) (is_kind (column_for ks o)) h) kinds

  row_fits_lem : (x : Row) → T (fits_row r.columns x) → T (fits_row (selected_columns e s.template u r.columns) (tuple_for e s.template u x))
  unfolding selected_columns tuple_for draft
  row_fits_lem x h =
      let q = kinds-bind e s.template r.columns x h in
      fits-row (selected_columns e s.template u r.columns) (draft_for e s.template u x)
      (rw q (draft-fits (row_vars e s.template x) u (rw q at kinds)))

  pub selection-fits : T (relation_fits r) → T (relation_fits (selection e s u r))
  selection-fits h =
      all-map_of (fits_row r.columns) (fits_row (selection e s u r).columns) (tuple_for e s.template u) (selected e s r.rows) row_fits_lem
      (all_filter (fits_row r.columns) (hits e s) r.rows h)
