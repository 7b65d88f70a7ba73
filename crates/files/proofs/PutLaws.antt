-- What a record adds to a net: it stays in its limits and ranges, and each site and name gets the record's columns and row. Assumes nothing.
use Prim.Native.Nat.{ℕ, ◌≤◌}
use mathlib.Core.Path.{◌≡◌, refl, ap, sym, subst, ◌∙◌}
use mathlib.Core.Bool.{Bool, true, false, not, cond, ◌||◌}
use mathlib.Core.List.{List, [], ◌∷◌, ◌++◌, append-nil}
use Rattle.std.specs.Prelude.{Option, None, Some, is_some, cond}
use native.Mathlib.Omega.{arith}
use lib.Dec.{T, ltb, ltb→lt}
use lib.ListN.{length, length-append}
use Rattle.values.specs.declared.Site.{Site}
use Rattle.values.specs.Lists.{keep}
use Rattle.std.specs.List.{find, list_all, list_any}
use Rattle.values.specs.Values.{in_range}
use Rattle.values.proofs.Bools.{and_l, and_r, and_in}
use Rattle.values.proofs.ListLaws.{all_append}
use Rattle.rows.specs.Relations.{Row, Columns}
use Rattle.rows.specs.Fit.{fits_row}
use Rattle.nets.specs.declared.Alias.{Alias}
use Rattle.nets.specs.Nets.{Table, Net}
use Rattle.nets.specs.Tables.{is_at, table_at, rows_of, columns_of, rows_fit, distinct, with_rows, change, changed}
use Rattle.nets.specs.Sound.{alias_ok, aliases_differ, same_alias, table_ok}
use Rattle.nets.proofs.TableLaws.{same_key, key_site, key_name, key_refl, none_of, change-all, change-length, change-distinct, change-same, change-other, append-distinct, append-same, append-other}
use Rattle.nets.proofs.KeepTables.{rows_ok_lem, table_range}
use Rattle.record_bytes.specs.Decoding.{Record, alias_record, table_record, row_record, node_record, start_record, pick_record}
use Rattle.files.specs.Loading.{is_new, row_fits, has_room, bare, put}
use Rattle.files.specs.FileTables.{rows_for1, columns_for1, or_later, table_with}
use Rattle.files.proofs.RecordLaws.{record_ok}

-- ── the net so far: what soundness asks, without the links ──

pub record Good (net : Net) : Type 0 where
  pub few_tables : length net.tables ≤ 8
  pub few_nodes : length net.nodes ≤ 128
  pub few_threads : length net.threads ≤ 8
  pub tables : T (list_all table_ok net.tables)
  pub fit : T (list_all rows_fit net.tables)
  pub names : T (distinct net.tables)
  pub aliases : T (list_all alias_ok net.aliases)
  pub differ : T (aliases_differ net.aliases)

-- none so far, and not the last
any_last : {A : Type 0} (p : A → Bool) (l : List A) (a : A) → T (not (list_any p l)) → p a ≡ false → T (not (list_any p (l ++ (a ∷ []))))
any_last p [] a h e = rw e tt
any_last p (b ∷ l) a h e = go (p b) h (λ k. any_last p l a k e)
  where
    go : (q : Bool) → T (not (q || list_any p l)) → (T (not (list_any p l)) → T (not (list_any p (l ++ (a ∷ []))))) → T (not (q || list_any p (l ++ (a ∷ []))))
    go true h ih = h
    go false h ih = ih h

any_head : {A : Type 0} (p : A → Bool) (b : A) (l : List A) → T (not (list_any p (b ∷ l))) → (p b ≡ false) × T (not (list_any p l))
any_head p b l h = go (p b) h
  where
    go : (q : Bool) → T (not (q || list_any p l)) → (q ≡ false) × T (not (list_any p l))
    go true h = absurd h
    go false h = (refl, h)

-- a new alias, at the end
pub alias-append : (ls : List Alias) (a : Alias) → T (aliases_differ ls) → T (not (list_any (λ b. same_alias b a) ls)) → T (aliases_differ (ls ++ (a ∷ [])))
alias-append [] a h k = tt
alias-append (b ∷ ls) a h k =
    let q = any_head (λ c. same_alias c a) b ls k in
    and_in (not (list_any (same_alias b) (ls ++ (a ∷ [])))) (aliases_differ (ls ++ (a ∷ [])))
    (any_last (same_alias b) ls a (and_l (not (list_any (same_alias b) ls)) (aliases_differ ls) h) q.0)
    (alias-append ls a (and_r (not (list_any (same_alias b) ls)) (aliases_differ ls) h) q.1)

-- a row more, at the end of its table
module _ (s : Site) (n : ℕ) (r : Row) (ts : List Table) where
  abbrev more : List Row → List Row
  more rs = rs ++ (r ∷ [])

  row-ok : T (list_all in_range r) → T (ltb (length (rows_of (table_at s n ts))) 16) → T (list_all table_ok ts) → T (list_all table_ok (change s n more ts))
  row-ok range room h = change-all s n more table_ok ts ok h
    where
      ok : (t : Table) → table_at s n ts ≡ Some t → T (table_ok t) → T (table_ok (with_rows (more t.content.rows) t))
      ok t e k =
          rows_ok_lem (more t.content.rows) t k
          (rw length-append (omega (arith, ltb→lt (length t.content.rows) 16 (subst (λ (o : Option Table). T (ltb (length (rows_of o)) 16)) e room))))
          (all_append (λ x. list_all in_range x) t.content.rows (r ∷ []) (table_range t k) (and_in (list_all in_range r) true range tt))

  row-fit : T (fits_row (columns_of (table_at s n ts)) r) → T (list_all rows_fit ts) → T (list_all rows_fit (change s n more ts))
  row-fit fits h = change-all s n more rows_fit ts ok h
    where
      ok : (t : Table) → table_at s n ts ≡ Some t → T (rows_fit t) → T (rows_fit (with_rows (more t.content.rows) t))
      ok t e k =
          all_append (fits_row t.content.columns) t.content.rows (r ∷ []) k
          (and_in (fits_row t.content.columns r) true (subst (λ (o : Option Table). T (fits_row (columns_of o) r)) e fits) tt)

pub put-good : (net : Net) (r : Record) → Good net → T (record_ok r) → T (is_new net r) → T (row_fits net r) → T (has_room net r) → Good (put net r)
unfolding put
put-good net (alias_record a) g four six seven eight =
    record {
      few_tables = g.few_tables;
      few_nodes = g.few_nodes;
      few_threads = g.few_threads;
      tables = g.tables;
      fit = g.fit;
      names = g.names;
      aliases = all_append alias_ok net.aliases (a ∷ []) g.aliases (and_in (alias_ok a) true four tt);
      differ = alias-append net.aliases a g.differ six;
    }
put-good net (table_record s n cs) g four six seven eight =
    record {
      few_tables = rw length-append (omega (arith, ltb→lt (length net.tables) 8 eight));
      few_nodes = g.few_nodes;
      few_threads = g.few_threads;
      tables = all_append table_ok net.tables (bare s n cs ∷ []) g.tables (search and_in);
      fit = all_append rows_fit net.tables (bare s n cs ∷ []) g.fit tt;
      names = append-distinct (bare s n cs) net.tables g.names six;
      aliases = g.aliases;
      differ = g.differ;
    }
put-good net (row_record s n r) g four six seven eight =
    record {
      few_tables = rw change-length g.few_tables;
      few_nodes = g.few_nodes;
      few_threads = g.few_threads;
      tables = row-ok s n r net.tables four eight g.tables;
      fit = row-fit s n r net.tables (and_r (is_some (table_at s n net.tables)) (fits_row (columns_of (table_at s n net.tables)) r) seven) g.fit;
      names = change-distinct s n (λ rs. rs ++ (r ∷ [])) net.tables g.names;
      aliases = g.aliases;
      differ = g.differ;
    }
put-good net (node_record d) g four six seven eight =
    record {
      few_tables = g.few_tables;
      few_nodes = rw length-append (omega (arith, ltb→lt (length net.nodes) 128 eight));
      few_threads = g.few_threads;
      tables = g.tables;
      fit = g.fit;
      names = g.names;
      aliases = g.aliases;
      differ = g.differ;
    }
put-good net (start_record s i) g four six seven eight =
    record {
      few_tables = g.few_tables;
      few_nodes = g.few_nodes;
      few_threads = rw length-append (omega (arith, ltb→lt (length net.threads) 8 eight));
      tables = g.tables;
      fit = g.fit;
      names = g.names;
      aliases = g.aliases;
      differ = g.differ;
    }
put-good net (pick_record p) g four six seven eight = g

-- ── rows and columns at each site and name ──

module _ (net : Net) where
  pub put-rows : (r : Record) → T (is_new net r) → T (row_fits net r) → (s : Site) (n : ℕ) → rows_of (table_at s n (put net r).tables) ≡ rows_of (table_at s n net.tables) ++ rows_for1 s n r
  unfolding put
  put-rows (alias_record a) six seven s n = sym (append-nil (rows_of (table_at s n net.tables)))
  put-rows (table_record t m cs) six seven s n = go (same_key s n t m) refl
    where
      go : (b : Bool) → same_key s n t m ≡ b → rows_of (table_at s n (net.tables ++ (bare t m cs ∷ []))) ≡ rows_of (table_at s n net.tables) ++ []
      go true e =
          let h = subst T (sym e) tt in
          rw (key_site s n t m h, key_name s n t m h, append-same (bare t m cs) t m (key_refl t m) net.tables six, none_of (table_at t m net.tables) six)
      go false e = ap rows_of (append-other (bare t m cs) s n e net.tables) ∙ sym (append-nil (rows_of (table_at s n net.tables)))
  put-rows (row_record t m r) six seven s n = go (same_key s n t m) refl
    where
      go : (b : Bool) → same_key s n t m ≡ b → rows_of (table_at s n (change t m (λ rs. rs ++ (r ∷ [])) net.tables)) ≡ rows_of (table_at s n net.tables) ++ keep b r []
      go true e =
          let h = subst T (sym e) tt in
          rw (key_site s n t m h, key_name s n t m h)
          (change-same t m (λ rs. rs ++ (r ∷ [])) net.tables (and_l (is_some (table_at t m net.tables)) (fits_row (columns_of (table_at t m net.tables)) r) seven))
      go false e = ap rows_of (change-other t m (λ rs. rs ++ (r ∷ [])) s n e net.tables) ∙ sym (append-nil (rows_of (table_at s n net.tables)))
  put-rows (node_record d) six seven s n = sym (append-nil (rows_of (table_at s n net.tables)))
  put-rows (start_record t i) six seven s n = sym (append-nil (rows_of (table_at s n net.tables)))
  put-rows (pick_record p) six seven s n = sym (append-nil (rows_of (table_at s n net.tables)))

-- the columns of a table found
abbrev pub columns_at : Option Table → Option Columns
columns_at None = None
columns_at (Some t) = Some t.content.columns

pub or-none : (o : Option Columns) → o ≡ or_later o None
or-none None = refl
or-none (Some cs) = refl

columns-first : (b : Bool) (t : Table) (o : Option Table) → columns_at (cond b (Some t) o) ≡ cond b (Some t.content.columns) (columns_at o)
columns-first true t o = refl
columns-first false t o = refl

change-columns : (s : Site) (n : ℕ) (g : List Row → List Row) (s' : Site) (n' : ℕ) (ts : List Table) → columns_at (table_at s' n' (change s n g ts)) ≡ columns_at (table_at s' n' ts)
unfolding change
change-columns s n g s' n' [] = refl
change-columns s n g s' n' (t ∷ ts) = go (is_at s n t) (change-columns s n g s' n' ts)
  where
    go : (b : Bool) → columns_at (table_at s' n' (change s n g ts)) ≡ columns_at (table_at s' n' ts) → columns_at (table_at s' n' (changed b g t ts (change s n g ts))) ≡ columns_at (cond (is_at s' n' t) (Some t) (table_at s' n' ts))
    go true ih = simp columns-first
    go false ih = simp (columns-first, ih)

module _ (net : Net) where
  pub put-columns : (r : Record) → T (is_new net r) → (s : Site) (n : ℕ) → columns_at (table_at s n (put net r).tables) ≡ or_later (columns_at (table_at s n net.tables)) (columns_for1 s n r)
  unfolding put
  put-columns (alias_record a) six s n = or-none (columns_at (table_at s n net.tables))
  put-columns (table_record t m cs) six s n = go (same_key s n t m) refl
    where
      go : (b : Bool) → same_key s n t m ≡ b → columns_at (table_at s n (net.tables ++ (bare t m cs ∷ []))) ≡ or_later (columns_at (table_at s n net.tables)) (cond b (Some cs) None)
      go true e =
          let h = subst T (sym e) tt in
          rw (key_site s n t m h, key_name s n t m h, append-same (bare t m cs) t m (key_refl t m) net.tables six, none_of (table_at t m net.tables) six)
      go false e = ap columns_at (append-other (bare t m cs) s n e net.tables) ∙ or-none (columns_at (table_at s n net.tables))
  put-columns (row_record t m r) six s n = change-columns t m (λ rs. rs ++ (r ∷ [])) s n net.tables ∙ or-none (columns_at (table_at s n net.tables))
  put-columns (node_record d) six s n = or-none (columns_at (table_at s n net.tables))
  put-columns (start_record t i) six s n = or-none (columns_at (table_at s n net.tables))
  put-columns (pick_record p) six s n = or-none (columns_at (table_at s n net.tables))

-- what is found passes the test
find-test : {A : Type 0} (p : A → Bool) (l : List A) (a : A) → find p l ≡ Some a → T (p a)
find-test p [] a e = let z : ◌≡◌ {A = ℕ} 0 1 = cc in absurd (omega arith)
find-test p (b ∷ l) a e = go (p b) refl e (find-test p l a)
  where
    go : (t : Bool) → p b ≡ t → cond t (Some b) (find p l) ≡ Some a → (find p l ≡ Some a → T (p a)) → T (p a)
    go true q e ih = let f : b ≡ a = cc in subst (λ x. T (p x)) f (subst T (sym q) tt)
    go false q e ih = ih e

-- a table is given by its columns and rows
pub table_is_lem : (s : Site) (n : ℕ) (ts : List Table) → table_at s n ts ≡ table_with s n (columns_at (table_at s n ts)) (rows_of (table_at s n ts))
table_is_lem s n ts = go (table_at s n ts) refl
  where
    go : (o : Option Table) → table_at s n ts ≡ o → o ≡ table_with s n (columns_at o) (rows_of o)
    go None e = refl
    go (Some t) e =
        let h = find-test (is_at s n) ts t e in
        rw (key_site s n t.site t.name h, key_name s n t.site t.name h)
