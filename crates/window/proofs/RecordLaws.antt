-- The Int of a record in a column: only a row record has one, and what its operands give has it at the column's place.
use Prim.Native.Nat.{ℕ, zero, suc, ◌≤◌, ◌<◌}
use native.Mathlib.Omega.{arith}
use mathlib.Core.Path.{◌≡◌, refl, sym, ap, ◌∙◌}
use mathlib.Core.Bool.{Bool, true, false, not, cond}
use mathlib.Core.List.{List, [], ◌∷◌, map}
use Rattle.std.specs.Prelude.{Option, None, Some, is_some}
use lib.Dec.{T, eqb}
use lib.IntN.{ℤ}
use lib.ListN.{length, get_or, get_or-eq_default}
use borrow.Author.Tests.{eq-eqb, ne_eqb}
use Rattle.values.specs.Operands.{Got}
use Rattle.values.specs.declared.Operand.{Operand}
use Rattle.values.specs.declared.Operand.TheVariants.{Absent, ConstInt, ConstText, ConstLoc, Var, Plus, Formal}
use Rattle.std.specs.List.{list_all}
use Rattle.values.specs.Operands.{values_in, eval}
use Rattle.values.proofs.Bools.{and_l, and_r, T_of}
use Rattle.values.proofs.Firsts.{length-firsts, firsts_at}
use Rattle.rows.specs.declared.Draft.{Draft}
use Rattle.rows.specs.View.{no_slot, draft_of}
use Rattle.nets.specs.Sound.{tagged, operands_ok}
use Rattle.record_bytes.specs.Bytes.{at, part, operands_in}
use Rattle.record_bytes.specs.Decoding.{Record, Decoded, row_record, site_at, name_in, row_in, row_form, in_form, record_in}
use Rattle.window_rules.specs.Windows.{column_int, record_int, decoded_int, counted_int}
use Rattle.window.specs.WindowCalls.{got_int}

-- ── a column of a draft ──

pub past-draft : (d : Draft) (c : ℕ) → d.count ≤ c → None ≡ got_int (get_or (draft_of d) c None)
past-draft d c h =
    let l : length (draft_of d) ≤ c = omega (arith, length-firsts (λ (g : Got). g) no_slot d.count d.slots) in
    sym (ap got_int (get_or-eq_default (draft_of d) None l))

pub in_draft : (d : Draft) (c : ℕ) (o : Option ℤ) → c < d.count → o ≡ got_int (get_or d.slots c no_slot) → o ≡ got_int (get_or (draft_of d) c None)
in_draft d c o h e = e ∙ sym (ap got_int (firsts_at (λ (g : Got). g) no_slot d.count d.slots c None h))

-- ── constants: each gives a value, so the row has at each place what its operand gives ──

abbrev Placed : List Operand → ℕ → Type 0
Placed os c = got_int (get_or (map (eval []) os) c None) ≡ column_int c (values_in (map (eval []) os))

one_more : (o : Operand) (os : List Operand) → T (tagged 3 o) → ((k : ℕ) → Placed os k) → (c : ℕ) → Placed (o ∷ os) c
one_more Absent os h rest c = absurd h
one_more (ConstInt i) os h rest zero = refl
one_more (ConstInt i) os h rest (suc c) = rest c
one_more (ConstText t) os h rest zero = refl
one_more (ConstText t) os h rest (suc c) = rest c
one_more (ConstLoc l) os h rest zero = refl
one_more (ConstLoc l) os h rest (suc c) = rest c
one_more (Var i) os h rest c = absurd h
one_more (Plus i k) os h rest c = absurd h
one_more (Formal i) os h rest c = absurd h

placed : (os : List Operand) → T (list_all (tagged 3) os) → (c : ℕ) → Placed os c
placed [] h c = refl
placed (o ∷ os) h c = one_more o os (and_l (tagged 3 o) (list_all (tagged 3) os) h) (placed os (and_r (tagged 3 o) (list_all (tagged 3) os) h)) c

tags : (os : List Operand) → T (operands_ok 3 os) → T (list_all (tagged 3) os)
tags os h = search and_r

constants : (bs : List ℕ) → T (row_form bs) → T (operands_ok 3 (operands_in (part 56 88 bs)))
unfolding row_form
constants bs h = search (and_l, and_r) depth 10

-- ── a record ──

pub not_104 : (c : ℕ) (bs : List ℕ) → (length bs ≡ 104 → ⊥) → None ≡ counted_int c bs
unfolding counted_int
not_104 c bs h = rw (ne_eqb (length bs) 104 h) refl

-- no other kind is a row, whether its form is right or not
module _ (c : ℕ) where
  abbrev without : Decoded → Bool
  without x = not (is_some (decoded_int c x))

  other-kind : (b f : Bool) (x : Record) (rest : Decoded) → T (not (is_some (record_int c x))) → T (without rest) → T (without (cond b (in_form f x) rest))
  other-kind true true x rest p q = p
  other-kind true false x rest p q = tt
  other-kind false f x rest p q = q

  row-kind : (b f : Bool) (x : Record) (rest : Decoded) → b ≡ false → T (without rest) → T (without (cond b (in_form f x) rest))
  row-kind b f x rest e q = rw e q

  none-there : (o : Option ℤ) → T (not (is_some o)) → None ≡ o
  none-there None h = refl
  none-there (Some k) h = absurd h

  no_row : (bs : List ℕ) → eqb (at bs 0) 3 ≡ false → T (without (record_in bs))
  unfolding record_in
  no_row bs e = search (other-kind, row-kind, tt) depth 12

pub not-row : (c : ℕ) (bs : List ℕ) → length bs ≡ 104 → (at bs 0 ≡ 3 → ⊥) → None ≡ counted_int c bs
unfolding counted_int
not-row c bs l h = rw (eq-eqb (length bs) 104 l) (none-there c (decoded_int c (record_in bs)) (no_row c bs (ne_eqb (at bs 0) 3 h)))

-- a record of kind 3
row_in_lem : (bs : List ℕ) → at bs 0 ≡ 3 → record_in bs ≡ in_form (row_form bs) (row_record (site_at 1 bs) (name_in bs) (row_in (part 56 88 bs)))
unfolding record_in
row_in_lem bs e = rw e refl

module _ (c : ℕ) (bs : List ℕ) (l : length bs ≡ 104) (kind : at bs 0 ≡ 3) where
  row-int : counted_int c bs ≡ decoded_int c (in_form (row_form bs) (row_record (site_at 1 bs) (name_in bs) (row_in (part 56 88 bs))))
  unfolding counted_int
  row-int = rw (eq-eqb (length bs) 104 l) (ap (decoded_int c) (row_in_lem bs kind))

  pub wrong_form : false ≡ row_form bs → None ≡ counted_int c bs
  wrong_form e = sym (row-int ∙ rw (sym e) refl)

  pub right-form : (d : Draft) (o : Option ℤ) → true ≡ row_form bs → draft_of d ≡ map (eval []) (operands_in (part 56 88 bs)) → o ≡ got_int (get_or (draft_of d) c None) → o ≡ counted_int c bs
  right-form d o e given q =
      let t : row_form bs ≡ true = sym e in
      let ok = constants bs (T_of (row_form bs) t) in
      q
      ∙ ap (λ (g : List Got). got_int (get_or g c None)) given
      ∙ placed (operands_in (part 56 88 bs)) (tags (operands_in (part 56 88 bs)) ok) c
      ∙ sym (row-int ∙ rw t refl)
