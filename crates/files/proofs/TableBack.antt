-- A table record that is written is read again. Assumes nothing.
use Prim.Native.Nat.{ℕ, ◌-◌, ◌≤◌}
use mathlib.Core.Path.{◌≡◌, refl, sym, ap, ◌∙◌, subst}
use mathlib.Core.Bool.{true, not, ◌&&◌}
use mathlib.Core.List.{[], ◌∷◌, ◌++◌, append-nil}
use native.Mathlib.Omega.{arith}
use lib.Dec.{T, leb, leb→le}
use borrow.Author.Tests.{ne_eqb}
use lib.ListN.{length, replicate}
use Rattle.std.specs.List.{list_all}
use Rattle.values.specs.Values.{site_ok, is_text}
use Rattle.values.proofs.Bools.{and_l, and_r, and_in, is_true, T_of, T_not_of}
use Rattle.values.proofs.ListLaws.{all_weaken}
use Rattle.rows.specs.Relations.{Columns}
use Rattle.nets.specs.Nets.{Table}
use Rattle.nets.specs.Sound.{columns_ok, table_ok}
use Rattle.record_bytes.specs.Bytes.{part, is_zero, zeros, columns_form, columns_in}
use Rattle.record_bytes.specs.Decoding.{table_record, good, site_at, name_in, table_form, in_form, record_in}
use Rattle.record_bytes.specs.Encoding.{column_bytes, table_bytes}
use Rattle.files.proofs.EndToEnd.{leading-some, then_some, leading-none, then_none}
use Rattle.files.proofs.ValueBack.{text_back}

-- ── columns ──

padded : (cs : Columns) → length cs ≤ 4 → column_bytes cs ≡ cs ++ replicate (4 - length cs) 0
padded [] h = refl
padded (a ∷ []) h = refl
padded (a ∷ b ∷ []) h = refl
padded (a ∷ b ∷ c ∷ []) h = refl
padded (a ∷ b ∷ c ∷ d ∷ []) h = refl
padded (a ∷ b ∷ c ∷ d ∷ e ∷ cs) h = absurd (omega arith)

kind-there : (c : ℕ) → T (leb 1 c && leb c 3) → T (not (is_zero c))
kind-there c h = T_not_of (is_zero c) (ne_eqb c 0 (λ e. let l : 1 ≤ c = leb→le 1 c (and_l (leb 1 c) (leb c 3) h) in omega arith))

module _ (cs : Columns) (h : T (columns_ok cs)) where
  few : length cs ≤ 4
  few = leb→le (length cs) 4 (search (and_l, and_r))

  there : T (list_all (λ c. not (is_zero c)) cs)
  there = all_weaken (λ c. leb 1 c && leb c 3) (λ c. not (is_zero c)) cs kind-there (search and_r)

  columns-back : columns_in (column_bytes cs) ≡ cs
  columns-back =
      ap columns_in (padded cs few)
      ∙ rw (leading-some is_zero cs (replicate (4 - length cs) 0) there, leading-none is_zero 0 refl (4 - length cs)) (append-nil cs)

  columns-form : columns_form (column_bytes cs) ≡ true
  columns-form =
      ap columns_form (padded cs few)
      ∙ then_some is_zero cs (replicate (4 - length cs) 0) there
      ∙ then_none is_zero 0 refl (4 - length cs)

-- ── a table record ──

pub table-length : (t : Table) → length (table_bytes t) ≡ 104
unfolding table_bytes
table-length t = refl

module _ (t : Table) (h : T (table_ok t)) where
  site-ok : T (site_ok t.site)
  site-ok = search (and_l, and_r)

  name-ok : T (is_text t.name)
  name-ok = search (and_l, and_r)

  columns-ok : T (columns_ok t.content.columns)
  columns-ok = search (and_l, and_r)

  site-back : site_at 1 (table_bytes t) ≡ t.site
  unfolding table_bytes
  site-back = refl

  name_back : name_in (table_bytes t) ≡ t.name
  unfolding table_bytes
  name_back = text_back t.name name-ok

  cut : part 8 12 (table_bytes t) ≡ column_bytes t.content.columns
  unfolding table_bytes
  cut = refl

  cut-back : columns_in (part 8 12 (table_bytes t)) ≡ t.content.columns
  cut-back = ap columns_in cut ∙ columns-back t.content.columns columns-ok

  unused : T (zeros (part 2 4 (table_bytes t))) × T (zeros (part 12 104 (table_bytes t)))
  unfolding table_bytes
  unused = (tt, tt)

  table-form : T (table_form (table_bytes t))
  unfolding table_form
  table-form =
      let a : T (site_ok (site_at 1 (table_bytes t))) = subst (λ s. T (site_ok s)) (sym site-back) site-ok in
      let b : T (is_text (name_in (table_bytes t))) = subst (λ n. T (is_text n)) (sym name_back) name-ok in
      let c : T (columns_form (part 8 12 (table_bytes t))) = T_of (columns_form (part 8 12 (table_bytes t))) (ap columns_form cut ∙ columns-form t.content.columns columns-ok) in
      let d : T (columns_ok (columns_in (part 8 12 (table_bytes t)))) = subst (λ cs. T (columns_ok cs)) (sym cut-back) columns-ok in
      search (and_in, unused.0, unused.1) depth 8

  kind_2 : record_in (table_bytes t) ≡ in_form (table_form (table_bytes t)) (table_record (site_at 1 (table_bytes t)) (name_in (table_bytes t)) (columns_in (part 8 12 (table_bytes t))))
  unfolding record_in table_bytes
  kind_2 = refl

  pub table-back : record_in (table_bytes t) ≡ good (table_record t.site t.name t.content.columns)
  table-back =
      kind_2 ∙ ap (λ b. in_form b (table_record (site_at 1 (table_bytes t)) (name_in (table_bytes t)) (columns_in (part 8 12 (table_bytes t))))) (is_true (table_form (table_bytes t)) table-form)
      ∙ rw (site-back, name_back, cut-back)
