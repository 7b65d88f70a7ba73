-- What each kind of step does to the tables: rows at its site and name balance, other tables stay, rows fit, names differ. Assumes nothing.
use Prim.Native.Nat.{ℕ, ◌+◌}
use mathlib.Core.Path.{◌≡◌, refl, sym, subst, ◌∙◌}
use mathlib.Core.Bool.{true, false, not, ◌||◌}
use mathlib.Core.List.{List, [], ◌∷◌, ◌++◌, map}
use Rattle.std.specs.Prelude.{Option, Some, is_some}
use native.Mathlib.Omega.{arith}
use lib.Dec.{T}
use lib.ListN.{length, length-map}
use Rattle.values.specs.declared.Site.{Site}
use Rattle.values.specs.Lists.{count}
use Rattle.std.specs.List.{list_all}
use Rattle.values.specs.Values.{same_row}
use Rattle.values.specs.Operands.{values_in}
use Rattle.values.proofs.Bools.{and_in}
use Rattle.values.proofs.ListLaws.{count-append, count_split, count_replace, count-length, all_append, all_filter, all-map_of}
use Rattle.rows.specs.Relations.{Row, Columns}
use Rattle.rows.specs.Matching.{hits, selected, unselected}
use Rattle.rows.specs.Fit.{fits, fits_row, relation_fits, same_columns}
use Rattle.rows.proofs.FitLaws.{fits-row, same-columns}
use Rattle.row_change.specs.Changes.{tuple_for, changes, renewed, updated}
use Rattle.row_change.proofs.FitLaws.{renewed-fits}
use Rattle.nets.specs.Nets.{Table, Kind, acting, other, insert, insert_table, delete, update, create, drop, acts, needs_table, is_create}
use Rattle.nets.specs.Tables.{table_at, rows_of, columns_of, distinct, rows_fit, change, remove}
use Rattle.nets.specs.Scenes.{Scene, vars, template, site, table, source, parts, own_draft}
use Rattle.nets.specs.Steps.{insert_fits, rows_by, tables_by, added_by, taken_by}
use Rattle.nets.specs.Accounts.{changed_rows, rows_added, rows_taken}
use Rattle.nets.proofs.TableLaws.{same_key, key_refl, none_of, change-same, change-other, change-all, change-distinct, remove-same, remove-other, remove-all, remove-distinct, append-same, append-other, append-distinct}

-- from tables `ts` to tables `us`, at a site and name, with rows added and taken
pub record Moved (s : Site) (n : ℕ) (ts us : List Table) (added taken : List Row) : Type 0 where
  pub same : (r : Row) → count (same_row r) (rows_of (table_at s n us)) + count (same_row r) taken ≡ count (same_row r) (rows_of (table_at s n ts)) + count (same_row r) added
  pub other : (s' : Site) (n' : ℕ) → same_key s' n' s n ≡ false → table_at s' n' us ≡ table_at s' n' ts
  pub fit : T (list_all rows_fit us)
  pub names : T (distinct us)

module _ (s : Site) (n : ℕ) (ts : List Table) (f : T (list_all rows_fit ts)) (d : T (distinct ts)) where
  -- rows changed by `g`
  by_change :
      (g : List Row → List Row) (added taken : List Row) → T (is_some (table_at s n ts)) →
      ((r : Row) → count (same_row r) (g (rows_of (table_at s n ts))) + count (same_row r) taken ≡ count (same_row r) (rows_of (table_at s n ts)) + count (same_row r) added) →
      ((t : Table) → table_at s n ts ≡ Some t → T (rows_fit t) → T (list_all (fits_row t.content.columns) (g t.content.rows))) →
      Moved s n ts (change s n g ts) added taken
  by_change g added taken there balanced fitting =
      record {
        same = λ r. rw (change-same s n g ts there) (balanced r);
        other = λ s' n' e. change-other s n g s' n' e ts;
        fit = change-all s n g rows_fit ts fitting f;
        names = change-distinct s n g ts d;
      }

  -- a new table with no rows
  by_create : (cs : Columns) → T (not (is_some (table_at s n ts))) → Moved s n ts (ts ++ (record { site = s; name = n; content = record { columns = cs; rows = [] } } ∷ [])) [] []
  by_create cs absent =
      record {
        same = λ r. rw (append-same u s n (key_refl s n) ts absent, none_of (table_at s n ts) absent);
        other = λ s' n' e. append-other u s' n' e ts;
        fit = all_append rows_fit ts (u ∷ []) f tt;
        names = append-distinct u ts d absent;
      }
    where
      u : Table
      u = record { site = s; name = n; content = record { columns = cs; rows = [] } }

  -- the table goes, and its rows are taken
  by_remove : Moved s n ts (remove s n ts) [] (rows_of (table_at s n ts))
  by_remove =
      record {
        same = λ r. rw (remove-same s n ts d) (omega arith);
        other = λ s' n' e. remove-other s n s' n' e ts;
        fit = remove-all s n rows_fit ts f;
        names = remove-distinct s n ts d;
      }

  -- nothing changed
  unmoved : Moved s n ts ts [] []
  unmoved = record { same = λ r. refl; other = λ s' n' e. refl; fit = f; names = d }

module _ (c : Scene) (f : T (list_all rows_fit c.net.tables)) (d : T (distinct c.net.tables)) (src : T (relation_fits (source c))) where
  pub moved :
      (k : Kind) → T (not (needs_table k) || is_some (table c)) → T (not (is_create k) || not (is_some (table c))) → T (insert_fits k (parts c)) →
      Moved (site c) c.node.name c.net.tables (tables_by k c) (rows_added k c) (rows_taken k c)
  unfolding table rows_by tables_by rows_added rows_taken
  moved (acting insert) there absent fitting =
      by_change (site c) c.node.name c.net.tables f d (λ rs. rs ++ (values_in (own_draft (parts c)) ∷ [])) (values_in (own_draft (parts c)) ∷ []) [] there
      (λ r. omega (arith, count-append (same_row r) (rows_of (table c)) (values_in (own_draft (parts c)) ∷ [])))
      (λ t e h.
      all_append (fits_row t.content.columns) t.content.rows (values_in (own_draft (parts c)) ∷ []) h
      (and_in (fits_row t.content.columns (values_in (own_draft (parts c)))) true (fits-row t.content.columns (own_draft (parts c)) (subst (λ (o : Option Table). T (fits (columns_of o) (own_draft (parts c)))) e fitting)) tt))
  moved (acting insert_table) there absent fitting =
      by_change (site c) c.node.name c.net.tables f d (λ rs. rs ++ (source c).rows) (source c).rows [] there
      (λ r. omega (arith, count-append (same_row r) (rows_of (table c)) (source c).rows))
      (λ t e h.
      all_append (fits_row t.content.columns) t.content.rows (source c).rows h
      (rw (same-columns t.content.columns (source c).columns (subst (λ (o : Option Table). T (same_columns (columns_of o) (source c).columns)) e fitting)) src))
  moved (acting delete) there absent fitting =
      by_change (site c) c.node.name c.net.tables f d (unselected (vars c) c.node.selector) [] (selected (vars c) c.node.selector (rows_of (table c))) there
      (λ r. omega (arith, count_split (same_row r) (hits (vars c) c.node.selector) (rows_of (table c))))
      (λ t e h. all_filter (fits_row t.content.columns) (λ r. not (hits (vars c) c.node.selector r)) t.content.rows h)
  moved (acting update) there absent fitting =
      by_change (site c) c.node.name c.net.tables f d (updated (vars c) c.node.selector c.node.tuple (columns_of (table c))) (map (tuple_for (vars c) (template c) c.node.tuple) (changed_rows c)) (changed_rows c) there
      (λ r. count_replace (same_row r) (changes (vars c) c.node.selector c.node.tuple (columns_of (table c))) (tuple_for (vars c) (template c) c.node.tuple) (rows_of (table c)))
      (λ t e h.
      rw e
      (all-map_of (fits_row t.content.columns) (fits_row t.content.columns) (renewed (vars c) c.node.selector c.node.tuple t.content.columns) t.content.rows
      (renewed-fits (vars c) c.node.selector c.node.tuple t.content.columns) h))
  moved (acting create) there absent fitting = by_create (site c) c.node.name c.net.tables f d c.node.columns absent
  moved (acting drop) there absent fitting = by_remove (site c) c.node.name c.net.tables f d
  moved (other o) there absent fitting = unmoved (site c) c.node.name c.net.tables f d

-- the counts answered are the numbers of rows added and taken
pub added-count : (k : Kind) (c : Scene) → added_by k (parts c) ≡ length (rows_added k c)
unfolding added_by rows_added
added-count (acting insert) c = refl
added-count (acting insert_table) c = refl
added-count (acting delete) c = refl
added-count (acting update) c =
    count-length (changes (vars c) c.node.selector c.node.tuple (columns_of (table c))) (rows_of (table c))
    ∙ sym (length-map (changed_rows c) (tuple_for (vars c) (template c) c.node.tuple))
added-count (acting create) c = refl
added-count (acting drop) c = refl
added-count (other o) c = refl

pub taken-count : (k : Kind) (c : Scene) → taken_by k (parts c) ≡ length (rows_taken k c)
unfolding taken_by rows_taken
taken-count (acting insert) c = refl
taken-count (acting insert_table) c = refl
taken-count (acting delete) c = count-length (hits (vars c) c.node.selector) (rows_of (table c))
taken-count (acting update) c =
    count-length (changes (vars c) c.node.selector c.node.tuple (columns_of (table c))) (rows_of (table c))
taken-count (acting create) c = refl
taken-count (acting drop) c = refl
taken-count (other o) c = refl

-- kinds that act on no table leave all tables
pub idle : (k : Kind) (c : Scene) → acts k ≡ false → tables_by k c ≡ c.net.tables
unfolding tables_by
idle (acting a) c e = cc
idle (other o) c e = refl
