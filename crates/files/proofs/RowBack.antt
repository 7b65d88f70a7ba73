-- A row record that is written is read again. Assumes nothing.
use Prim.Native.Nat.{ℕ, zero, suc, ◌-◌, ◌≤◌}
use mathlib.Core.Path.{◌≡◌, refl, sym, ap, ap₂, ◌∙◌, subst}
use mathlib.Core.Bool.{Bool, not}
use mathlib.Core.List.{List, [], ◌∷◌, ◌++◌, map, append-nil}
use native.Mathlib.Omega.{arith}
use lib.Dec.{T, eqb, leb, le→leb}
use borrow.Author.Tests.{eq-eqb}
use lib.ListN.{length, take, replicate, length-append, length-map, length-replicate}
use lib.Seq.{take_at, drop_at}
use Rattle.values.specs.declared.Site.{Site}
use Rattle.values.specs.declared.Value.{Value}
use Rattle.values.specs.declared.Value.TheVariants.{Int, Text, Loc}
use Rattle.values.specs.declared.Operand.TheVariants.{Absent}
use Rattle.std.specs.List.{list_all}
use Rattle.values.specs.Values.{site_ok, is_text, in_range}
use Rattle.values.specs.Operands.{values_in, eval}
use Rattle.values.proofs.Bools.{and_l, and_r, and_in, is_true, T_of}
use Rattle.values.proofs.ListLaws.{all_append, all_map, all-map_of}
use Rattle.rows.specs.Relations.{Row}
use Rattle.nets.specs.Sound.{is_absent, tagged, operands_ok}
use Rattle.record_bytes.specs.Bytes.{part, parts, zeros, then_only, leading, operand_form, operand_in, operands_form, operands_in}
use Rattle.record_bytes.specs.Decoding.{row_record, good, site_at, name_in, row_in, row_form, in_form, record_in}
use Rattle.record_bytes.specs.Encoding.{operand_bytes, tuple_bytes, row_bytes}
use Rattle.value_bytes.specs.Bytes.{end_to_end}
use Rattle.files.proofs.EndToEnd.{sized, ends-length, ends-parts, leading-some, then_some, leading-none, then_none}
use Rattle.files.proofs.ValueBack.{text_back, as_operand, value-length, value-form, value-back, value-tagged, values-given}

all_replicate : {A : Type 0} (p : A → Bool) (n : ℕ) (a : A) → T (p a) → T (list_all p (replicate n a))
all_replicate p zero a h = tt
all_replicate p (suc n) a h = and_in (p a) (list_all p (replicate n a)) h (all_replicate p n a h)

there : (v : Value) → T (not (is_absent (as_operand v)))
there (Int i) = tt
there (Text t) = tt
there (Loc l) = tt

-- ── the tuple ──

-- an absent operand
abbrev missing : List ℕ
missing = replicate 8 0

missing-read : (k : ℕ) → map operand_in (replicate k missing) ≡ replicate k Absent
unfolding operand_in
missing-read zero = refl
missing-read (suc k) = ap (λ l. Absent ∷ l) (missing-read k)

missing-form : T (operand_form missing)
unfolding operand_form
missing-form = tt

cells-read : (r : Row) (k : ℕ) → T (list_all in_range r) → map operand_in (map operand_bytes r ++ replicate k missing) ≡ map as_operand r ++ replicate k Absent
cells-read [] k h = missing-read k
cells-read (v ∷ r) k h = ap₂ ◌∷◌ (value-back v (and_l (in_range v) (list_all in_range r) h)) (cells-read r k (and_r (in_range v) (list_all in_range r) h))

module _ (r : Row) (few : length r ≤ 4) where
  abbrev cells : List (List ℕ)
  cells = map operand_bytes r ++ replicate (4 - length r) missing

  four : length cells ≡ 4
  four = simp (length-append, length-map, length-replicate) (omega arith)

  of_eight : T (sized 8 cells)
  of_eight =
      all_append (λ p. eqb (length p) 8) (map operand_bytes r) (replicate (4 - length r) missing)
      (all_map (λ p. eqb (length p) 8) operand_bytes r (λ v. T_of (eqb (length (operand_bytes v)) 8) (eq-eqb (length (operand_bytes v)) 8 (value-length v))))
      (all_replicate (λ (p : List ℕ). eqb (length p) 8) (4 - length r) missing tt)

  tuple-length : length (tuple_bytes r) ≡ 32
  unfolding tuple_bytes
  tuple-length = ends-length 8 cells of_eight ∙ omega (arith, four)

  tuple-parts : parts 8 4 (tuple_bytes r) ≡ cells
  unfolding tuple_bytes
  tuple-parts =
      ap (λ (n : ℕ). parts 8 n (end_to_end cells)) (sym four)
      ∙ ap (parts 8 (length cells)) (sym (append-nil (end_to_end cells)))
      ∙ ends-parts 8 cells [] of_eight

  module _ (ranged : T (list_all in_range r)) where
    operands_read : map operand_in (parts 8 4 (tuple_bytes r)) ≡ map as_operand r ++ replicate (4 - length r) Absent
    operands_read = ap (map operand_in) tuple-parts ∙ cells-read r (4 - length r) ranged

    all_there : T (list_all (λ o. not (is_absent o)) (map as_operand r))
    all_there = all_map (λ o. not (is_absent o)) as_operand r there

    operands_back : operands_in (tuple_bytes r) ≡ map as_operand r
    unfolding operands_in
    operands_back =
        ap (leading is_absent) operands_read
        ∙ leading-some is_absent (map as_operand r) (replicate (4 - length r) Absent) all_there
        ∙ ap (λ l. map as_operand r ++ l) (leading-none is_absent Absent refl (4 - length r))
        ∙ append-nil (map as_operand r)

    operands_form_lem : T (operands_form (tuple_bytes r))
    unfolding operands_form
    operands_form_lem =
        and_in (list_all operand_form (parts 8 4 (tuple_bytes r))) (then_only is_absent (map operand_in (parts 8 4 (tuple_bytes r))))
        (subst (λ l. T (list_all operand_form l)) (sym tuple-parts) (all_append operand_form (map operand_bytes r) (replicate (4 - length r) missing) (all_map operand_form operand_bytes r value-form) (all_replicate operand_form (4 - length r) missing missing-form)))
        (T_of (then_only is_absent (map operand_in (parts 8 4 (tuple_bytes r))))
        (ap (then_only is_absent) operands_read
        ∙ then_some is_absent (map as_operand r) (replicate (4 - length r) Absent) all_there
        ∙ then_none is_absent Absent refl (4 - length r)))

    operands_ok_lem : 1 ≤ length r → T (operands_ok 3 (map as_operand r))
    operands_ok_lem some =
        let n : length (map as_operand r) ≡ length r = length-map r as_operand in
        let a : T (leb 1 (length (map as_operand r))) = le→leb 1 (length (map as_operand r)) (omega arith) in
        let b : T (leb (length (map as_operand r)) 4) = le→leb (length (map as_operand r)) 4 (omega arith) in
        let c : T (list_all (tagged 3) (map as_operand r)) = all-map_of in_range (tagged 3) as_operand r value-tagged ranged in
        search and_in

-- ── the record ──

pub row-length : (s : Site) (n : ℕ) (r : Row) → length r ≤ 4 → length (row_bytes s n r) ≡ 104
unfolding row_bytes
row-length s n r h = simp (length-append, tuple-length r h)

module _ (s : Site) (n : ℕ) (r : Row) (site-ok : T (site_ok s)) (name-ok : T (is_text n)) (some : 1 ≤ length r) (few : length r ≤ 4) (ranged : T (list_all in_range r)) where
  abbrev bytes : List ℕ
  bytes = row_bytes s n r

  site-back : site_at 1 bytes ≡ s
  unfolding row_bytes
  site-back = refl

  name_back : name_in bytes ≡ n
  unfolding row_bytes
  name_back = text_back n name-ok

  cut : part 56 88 bytes ≡ tuple_bytes r
  unfolding row_bytes
  cut = take_at (tuple_bytes r) (replicate 16 0) 32 (tuple-length r few)

  cut-rest : part 88 104 bytes ≡ replicate 16 0
  unfolding row_bytes
  cut-rest = ap (λ l. take 16 l) (drop_at (tuple_bytes r) (replicate 16 0) 32 (tuple-length r few))

  unused : T (zeros (part 2 4 bytes)) × T (zeros (part 8 56 bytes))
  unfolding row_bytes
  unused = (tt, tt)

  cut-back : operands_in (part 56 88 bytes) ≡ map as_operand r
  cut-back = ap operands_in cut ∙ operands_back r few ranged

  row-form : T (row_form bytes)
  unfolding row_form
  row-form =
      let a : T (site_ok (site_at 1 bytes)) = subst (λ t. T (site_ok t)) (sym site-back) site-ok in
      let b : T (is_text (name_in bytes)) = subst (λ m. T (is_text m)) (sym name_back) name-ok in
      let c : T (operands_form (part 56 88 bytes)) = subst (λ l. T (operands_form l)) (sym cut) (operands_form_lem r few ranged) in
      let d : T (operands_ok 3 (operands_in (part 56 88 bytes))) = subst (λ os. T (operands_ok 3 os)) (sym cut-back) (operands_ok_lem r few ranged some) in
      let e : T (zeros (part 88 104 bytes)) = subst (λ l. T (zeros l)) (sym cut-rest) tt in
      search (and_in, unused.0, unused.1) depth 9

  kind_3 : record_in bytes ≡ in_form (row_form bytes) (row_record (site_at 1 bytes) (name_in bytes) (row_in (part 56 88 bytes)))
  unfolding record_in row_bytes
  kind_3 = refl

  pub row_back : record_in bytes ≡ good (row_record s n r)
  row_back =
      kind_3 ∙ ap (λ b. in_form b (row_record (site_at 1 bytes) (name_in bytes) (row_in (part 56 88 bytes)))) (is_true (row_form bytes) row-form)
      ∙ ap₂ (λ m os. good (row_record (site_at 1 bytes) m (values_in (map (eval []) os)))) name_back cut-back
      ∙ ap₂ (λ t vs. good (row_record t n vs)) site-back (values-given r)
