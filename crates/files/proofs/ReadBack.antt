-- Loading the table records and row records of a sound list of tables gives these tables. Assumes nothing.
use Prim.Native.Nat.{ℕ, suc, ◌≤◌}
use mathlib.Core.Path.{◌≡◌, refl, sym, ap, ap₂, ◌∙◌, subst}
use mathlib.Core.Bool.{Bool, true, false, not, ◌&&◌}
use mathlib.Core.List.{List, [], ◌∷◌, ◌++◌, map, append-nil, append_assoc, map-append}
use Rattle.std.specs.Prelude.{None, Some, is_some, cond}
use native.Mathlib.Omega.{arith}
use lib.Dec.{T, leb, ltb, le→leb, lt→ltb, leb→le}
use lib.ListN.{length, length-append, length-map}
use Rattle.values.specs.declared.Site.{Site}
use Rattle.std.specs.List.{find, list_all}
use Rattle.values.proofs.Bools.{and_l, and_r, is_true, T_of, eqb_sym}
use Rattle.values.proofs.ListLaws.{all_append, all_map}
use Rattle.rows.specs.Relations.{Row}
use Rattle.rows.specs.Fit.{fits_row}
use Rattle.nets.specs.Nets.{Table}
use Rattle.nets.specs.Tables.{is_at, table_at, rows_of, columns_of, rows_fit, distinct, with_rows, change}
use Rattle.nets.specs.Sound.{table_ok, sound}
use Rattle.nets.proofs.TableLaws.{key_refl}
use Rattle.nets.proofs.SoundLaws.{Clauses, clauses}
use Rattle.record_bytes.specs.Decoding.{Record, alias_record, table_record, row_record, node_record, start_record, pick_record, Decoded, good, bad}
use Rattle.files.specs.Loading.{Progress, group_of, is_new, row_fits, has_room, load_checks, put, advance, Reading, read_all, first_bad_link, accepted, linked, finish, load}
use Rattle.files.specs.RoundTrip.{tables_only}

-- ── a table in the midst of others ──

module _ {A : Type 0} (p : A → Bool) where
  pub found_first : (a : A) (l : List A) → T (not (is_some (find p (a ∷ l)))) → (p a ≡ false) × T (not (is_some (find p l)))
  found_first a l h = go (p a) h
    where
      go : (b : Bool) → T (not (is_some (cond b (Some a) (find p l)))) → (b ≡ false) × T (not (is_some (find p l)))
      go true h = absurd h
      go false h = (refl, h)

  find_seam : (ds : List A) (x : A) (rest : List A) → T (not (is_some (find p ds))) → T (p x) → find p (ds ++ (x ∷ rest)) ≡ Some x
  find_seam [] x rest h k = rw (is_true (p x) k)
  find_seam (d ∷ ds) x rest h k = let q = found_first d ds h in rw q.0 (find_seam ds x rest q.1 k)

  has_seam : (ds : List A) (x : A) (rest : List A) → T (p x) → T (is_some (find p (ds ++ (x ∷ rest))))
  has_seam [] x rest k = rw (is_true (p x) k) tt
  has_seam (d ∷ ds) x rest k = go (p d) (has_seam ds x rest k)
    where
      go : (b : Bool) → T (is_some (find p (ds ++ (x ∷ rest)))) → T (is_some (cond b (Some d) (find p (ds ++ (x ∷ rest)))))
      go true ih = tt
      go false ih = ih

change_seam : (s : Site) (n : ℕ) (g : List Row → List Row) (ds : List Table) (x : Table) (rest : List Table) → T (not (is_some (table_at s n ds))) → T (is_at s n x) → change s n g (ds ++ (x ∷ rest)) ≡ ds ++ (with_rows (g x.content.rows) x ∷ rest)
unfolding change
change_seam s n g [] x rest h k = rw (is_true (is_at s n x) k)
change_seam s n g (d ∷ ds) x rest h k =
    let q = found_first (is_at s n) d ds h in
    rw q.0 (ap (λ l. d ∷ l) (change_seam s n g ds x rest q.1 k))

never : (b : Bool) → T b → T (not b) → ⊥
never true h k = k
never false h k = h

-- no table before it has its site and name
alone-before : (ds : List Table) (u : Table) (us : List Table) → T (distinct (ds ++ (u ∷ us))) → T (not (is_some (table_at u.site u.name ds)))
unfolding distinct
alone-before [] u us h = tt
alone-before (d ∷ ds) u us h = go (is_at u.site u.name d) refl (alone-before ds u us (and_r (not (is_some (table_at d.site d.name (ds ++ (u ∷ us))))) (distinct (ds ++ (u ∷ us))) h))
  where
    others : T (not (is_some (table_at d.site d.name (ds ++ (u ∷ us)))))
    others = and_l (not (is_some (table_at d.site d.name (ds ++ (u ∷ us))))) (distinct (ds ++ (u ∷ us))) h

    go : (b : Bool) → is_at u.site u.name d ≡ b → T (not (is_some (table_at u.site u.name ds))) → T (not (is_some (cond b (Some d) (table_at u.site u.name ds))))
    go true e ih =
        let here : T (is_at d.site d.name u) = T_of (is_at d.site d.name u) (ap₂ ◌&&◌ (eqb_sym d.site.0 u.site.0) (eqb_sym d.name u.name) ∙ e) in
        never (is_some (table_at d.site d.name (ds ++ (u ∷ us)))) (has_seam (is_at d.site d.name) ds u us here) others
    go false e ih = ih

-- ── the records, and what was read ──

-- a table with no rows yet
abbrev pub emptied : Table → Table
emptied t = with_rows [] t

abbrev pub head : Table → Decoded
head t = good (table_record t.site t.name t.content.columns)

abbrev pub line : Table → Row → Decoded
line t r = good (row_record t.site t.name r)

abbrev pub lines : List Table → List Decoded
lines [] = []
lines (t ∷ ts) = map (line t) t.content.rows ++ lines ts

abbrev pub read : List Table → ℕ → Progress
read ts g = record { net = tables_only ts; picks = []; group = g }

read_on_lem : (i : ℕ) (l : Progress) (r : Record) (xs : List Decoded) → T (leb l.group (group_of r)) → T (is_new l.net r) → T (row_fits l.net r) → T (has_room l.net r) → read_all i l (good r ∷ xs) ≡ read_all (suc i) (advance l r) xs
unfolding read_all load_checks
read_on_lem i l r xs five six seven eight =
    rw (is_true (leb l.group (group_of r)) five, is_true (is_new l.net r) six, is_true (row_fits l.net r) seven, is_true (has_room l.net r) eight)

emptied_has : (s : Site) (n : ℕ) (ts : List Table) → is_some (table_at s n (map emptied ts)) ≡ is_some (table_at s n ts)
emptied_has s n [] = refl
emptied_has s n (t ∷ ts) = go (is_at s n t) (emptied_has s n ts)
  where
    go : (b : Bool) → is_some (table_at s n (map emptied ts)) ≡ is_some (table_at s n ts) → is_some (cond b (Some (emptied t)) (table_at s n (map emptied ts))) ≡ is_some (cond b (Some t) (table_at s n ts))
    go true ih = refl
    go false ih = ih

-- ── table records, then row records ──

-- `P` is to hold of what is read in the end
module _ (P : Reading → Type 0) (ts : List Table) (differ : T (distinct ts)) (few : length ts ≤ 8) (xs : List Decoded) where
  apart : (ds : List Table) (u : Table) (us : List Table) → ds ++ (u ∷ us) ≡ ts → T (not (is_some (table_at u.site u.name ds)))
  apart ds u us e = alone-before ds u us (subst (λ l. T (distinct l)) (sym e) differ)

  heads-read : ((i g : ℕ) → g ≤ 3 → P (read_all i (read (map emptied ts) g) xs)) → (us ds : List Table) → ds ++ us ≡ ts → (i g : ℕ) → g ≤ 2 → P (read_all i (read (map emptied ds) g) (map head us ++ xs))
  unfolding advance put
  heads-read k [] ds e i g h = subst (λ l. P (read_all i (read (map emptied l) g) xs)) (sym e ∙ append-nil ds) (k i g (omega arith))
  heads-read k (u ∷ us) ds e i g h =
      subst P (sym (read_on_lem i (read (map emptied ds) g) (table_record u.site u.name u.content.columns) (map head us ++ xs) five six tt eight))
      (subst (λ l. P (read_all (suc i) (read l 2) (map head us ++ xs))) (map-append emptied ds (u ∷ []))
      (heads-read k us (ds ++ (u ∷ [])) (append_assoc ds (u ∷ []) us ∙ e) (suc i) 2 (omega arith)))
    where
      five : T (leb g 2)
      five = le→leb g 2 h

      six : T (not (is_some (table_at u.site u.name (map emptied ds))))
      six = subst (λ b. T (not b)) (sym (emptied_has u.site u.name ds)) (apart ds u us e)

      eight : T (ltb (length (map emptied ds)) 8)
      eight = lt→ltb (length (map emptied ds)) 8 (omega (arith, length-map ds emptied, length-append ds (u ∷ us), ap length e))

-- the rows `rs` of a table, after rows that were read, with the tables `ds` before it and `us` after it
module _ (P : Reading → Type 0) (xs : List Decoded) (ds : List Table) (u : Table) (us : List Table) (before : T (not (is_some (table_at u.site u.name ds)))) (few : length u.content.rows ≤ 16) where
  abbrev with : List Row → List Table
  with rs = ds ++ (with_rows rs u ∷ us)

  found : (rs : List Row) → table_at u.site u.name (with rs) ≡ Some (with_rows rs u)
  found rs = find_seam (is_at u.site u.name) ds (with_rows rs u) us before (key_refl u.site u.name)

  rows-read : ((i g : ℕ) → g ≤ 3 → P (read_all i (read (ds ++ (u ∷ us)) g) xs)) → (rs old : List Row) → old ++ rs ≡ u.content.rows → T (list_all (fits_row u.content.columns) rs) → (i g : ℕ) → g ≤ 3 → P (read_all i (read (with old) g) (map (line u) rs ++ xs))
  unfolding advance put
  rows-read k [] old e f i g h = subst (λ rs. P (read_all i (read (with rs) g) xs)) (sym (sym (append-nil old) ∙ e)) (k i g h)
  rows-read k (r ∷ rs) old e f i g h =
      subst P (sym (read_on_lem i (read (with old) g) (row_record u.site u.name r) (map (line u) rs ++ xs) (le→leb g 3 h) tt seven eight))
      (subst (λ l. P (read_all (suc i) (read l 3) (map (line u) rs ++ xs))) (sym (change_seam u.site u.name (λ l. l ++ (r ∷ [])) ds (with_rows old u) us before (key_refl u.site u.name)))
      (rows-read k rs (old ++ (r ∷ [])) (append_assoc old (r ∷ []) rs ∙ e) (and_r (fits_row u.content.columns r) (list_all (fits_row u.content.columns) rs) f) (suc i) 3 (omega arith)))
    where
      seven : T (is_some (table_at u.site u.name (with old)) && fits_row (columns_of (table_at u.site u.name (with old))) r)
      seven = rw (found old) (and_l (fits_row u.content.columns r) (list_all (fits_row u.content.columns) rs) f)

      eight : T (ltb (length (rows_of (table_at u.site u.name (with old)))) 16)
      eight = rw (found old) (lt→ltb (length old) 16 (omega (arith, length-append old (r ∷ rs), ap length e)))

few-rows : (t : Table) → T (table_ok t) → length t.content.rows ≤ 16
few-rows t h = leb→le (length t.content.rows) 16 (search (and_l, and_r))

module _ (P : Reading → Type 0) (ts : List Table) (differ : T (distinct ts)) (xs : List Decoded) (k : (i g : ℕ) → g ≤ 3 → P (read_all i (read ts g) xs)) where
  lines-read : (us ds : List Table) → ds ++ us ≡ ts → T (list_all rows_fit us) → T (list_all table_ok us) → (i g : ℕ) → g ≤ 3 → P (read_all i (read (ds ++ map emptied us) g) (lines us ++ xs))
  lines-read [] ds e f o i g h = subst (λ l. P (read_all i (read l g) xs)) (sym e) (k i g h)
  lines-read (u ∷ us) ds e f o i g h =
      subst (λ l. P (read_all i (read (ds ++ (emptied u ∷ map emptied us)) g) l)) (sym (append_assoc (map (line u) u.content.rows) (lines us) xs))
      (rows-read P (lines us ++ xs) ds u (map emptied us) (alone-before ds u us (subst (λ l. T (distinct l)) (sym e) differ)) (few-rows u (and_l (table_ok u) (list_all table_ok us) o))
      (λ j a b.
      subst (λ l. P (read_all j (read l a) (lines us ++ xs))) (append_assoc ds (u ∷ []) (map emptied us))
      (lines-read us (ds ++ (u ∷ [])) (append_assoc ds (u ∷ []) us ∙ e) (and_r (rows_fit u) (list_all rows_fit us) f) (and_r (table_ok u) (list_all table_ok us) o) j a b))
      u.content.rows [] refl (and_l (rows_fit u) (list_all rows_fit us) f) i g h)

-- ── the whole ──

-- a record with no link
abbrev linkless : Decoded → Bool
linkless (good (alias_record a)) = true
linkless (good (table_record s n cs)) = true
linkless (good (row_record s n r)) = true
linkless (good (node_record d)) = false
linkless (good (start_record s i)) = false
linkless (good (pick_record p)) = true
linkless (bad n) = true

no_links : (n i j : ℕ) (xs : List Decoded) → T (list_all linkless xs) → first_bad_link n i j xs ≡ None
unfolding first_bad_link
no_links n i j [] h = refl
no_links n i j (bad k ∷ xs) h = no_links n (suc i) j xs h
no_links n i j (good (alias_record a) ∷ xs) h = no_links n (suc i) j xs h
no_links n i j (good (table_record s m cs) ∷ xs) h = no_links n (suc i) j xs h
no_links n i j (good (row_record s m r) ∷ xs) h = no_links n (suc i) j xs h
no_links n i j (good (node_record d) ∷ xs) h = absurd h
no_links n i j (good (start_record s k) ∷ xs) h = absurd h
no_links n i j (good (pick_record p) ∷ xs) h = no_links n (suc i) j xs h

lines-linkless : (ts : List Table) → T (list_all linkless (lines ts))
lines-linkless [] = tt
lines-linkless (t ∷ ts) =
    all_append linkless (map (line t) t.content.rows) (lines ts) (all_map linkless (line t) t.content.rows (λ r. tt)) (lines-linkless ts)

-- the records of sound tables load as these tables and nothing else
pub tables-load : (ts : List Table) → T (sound (tables_only ts)) → load (map head ts ++ lines ts) ≡ accepted (tables_only ts) []
unfolding load read_all
tables-load ts h =
    heads-read P ts c.names (leb→le (length ts) 8 c.few_tables) (lines ts)
    (λ i g l. subst (λ xs. P (read_all i (read (map emptied ts) g) xs)) (append-nil (lines ts)) (lines-read P ts c.names [] ends ts [] refl c.fit c.tables i g l))
    ts [] refl 0 0 (omega arith)
  where
    c : Clauses (tables_only ts)
    c = clauses (tables_only ts) h

    all-records : List Decoded
    all-records = map head ts ++ lines ts

    P : Reading → Type 0
    P x = finish all-records x ≡ accepted (tables_only ts) []

    linkless-all : T (list_all linkless all-records)
    linkless-all = all_append linkless (map head ts) (lines ts) (all_map linkless head ts (λ t. tt)) (lines-linkless ts)

    ends : (i g : ℕ) → g ≤ 3 → P (read_all i (read ts g) [])
    ends i g l = ap (λ o. linked o (read ts g)) (no_links 0 0 0 all-records linkless-all)
