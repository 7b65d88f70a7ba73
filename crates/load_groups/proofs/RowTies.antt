-- A row's table, by the place that the code finds: the row's checks, and the tables with the row. Assumes nothing.
use Prim.Native.Nat.{ℕ, ◌≤◌, ◌<◌}
use mathlib.Core.Path.{◌≡◌, refl, sym, ap, ◌∙◌}
use mathlib.Core.Bool.{Bool, true, false, ◌&&◌}
use mathlib.Core.List.{List, [], ◌∷◌, ◌++◌}
use Rattle.std.specs.Prelude.{Option, Some, is_some}
use native.Mathlib.Omega.{arith}
use lib.Dec.{ltb}
use lib.ListN.{length, get_or, set}
use borrow.Author.Tests.{le-ltb}
use Rattle.values.specs.declared.Site.{Site}
use Rattle.values.specs.Lists.{place_of}
use Rattle.values.proofs.Firsts.{length-firsts, firsts_at, firsts-set}
use Rattle.rows.specs.Relations.{Row}
use Rattle.rows.specs.Fit.{fits_row}
use Rattle.rows.specs.View.{relation_of}
use Rattle.nets.specs.declared.Table.{Table}
use Rattle.nets.specs.Nets as M
use Rattle.nets.specs.Tables.{is_at, table_at, rows_of, columns_of, with_rows, change}
use Rattle.nets.specs.Steps.{Check, check}
use Rattle.nets.specs.View.{no_table, table_of, tables_of}
use Rattle.nets.proofs.TablePlaces.{table-at, change-place}
use Rattle.files.specs.declared.Fault.{Fault}
use Rattle.load_walk.specs.Walking.{first_fault}
use Rattle.load_walk.proofs.PlaceTies.{is-there}

abbrev pub row_checks : List M.Table → Site → ℕ → Row → List Check
row_checks ts s n x = check 7 (is_some (table_at s n ts) && fits_row (columns_of (table_at s n ts)) x) ∷ check 8 (ltb (length (rows_of (table_at s n ts))) 16) ∷ []

-- check 7 fails, if not check 4
fails_both : (i : ℕ) (form b c : Bool) → first_fault i (check 4 form ∷ check 7 false ∷ []) ≡ first_fault i (check 4 form ∷ check 7 (false && b) ∷ check 8 c ∷ [])
fails_both i true b c = refl
fails_both i false b c = refl

module _ (ts : List Table) (n : ℕ) (s : Site) (m : ℕ) (at : ℕ) (k : at ≡ place_of (is_at s m) (tables_of n ts)) where
  pub missing : (i : ℕ) (form : Bool) (x : Row) (o : Option Fault) → n ≤ at → o ≡ first_fault i (check 4 form ∷ check 7 false ∷ []) → o ≡ first_fault i (check 4 form ∷ row_checks (tables_of n ts) s m x)
  missing i form x o l z = rw (is-there ts n s m at k, le-ltb at n l) (z ∙ fails_both i form (fits_row (columns_of (table_at s m (tables_of n ts))) x) (ltb (length (rows_of (table_at s m (tables_of n ts)))) 16))

  module _ (l : at < n) where
    the_table : table_at s m (tables_of n ts) ≡ Some (table_of (get_or ts at no_table))
    the_table =
        let z = length-firsts table_of no_table n ts in
        table-at s m (tables_of n ts) (table_of no_table) (omega (arith, k, z, l))
        ∙ ap (λ (i : ℕ). Some (get_or (tables_of n ts) i (table_of no_table))) (sym k)
        ∙ ap (λ (t : M.Table). Some t) (firsts_at table_of no_table n ts at (table_of no_table) l)

    the_change : (g : List Row → List Row) → change s m g (tables_of n ts) ≡ set (tables_of n ts) at (with_rows (g (relation_of (get_or ts at no_table).content).rows) (table_of (get_or ts at no_table)))
    the_change g =
        change-place s m g (tables_of n ts) (table_of no_table)
        ∙ ap (λ (i : ℕ). set (tables_of n ts) i (with_rows (g (get_or (tables_of n ts) i (table_of no_table)).content.rows) (get_or (tables_of n ts) i (table_of no_table)))) (sym k)
        ∙ ap (λ (t : M.Table). set (tables_of n ts) at (with_rows (g t.content.rows) t)) (firsts_at table_of no_table n ts at (table_of no_table) l)

    pub found : (i : ℕ) (form : Bool) (x : Row) (o : Option Fault) →
        o ≡ first_fault i (check 4 form ∷ check 7 (fits_row (relation_of (get_or ts at no_table).content).columns x) ∷ check 8 (ltb (length (relation_of (get_or ts at no_table).content).rows) 16) ∷ []) →
        o ≡ first_fault i (check 4 form ∷ row_checks (tables_of n ts) s m x)
    found i form x o z = rw the_table z

    pub added : (x : Row) (o : Table) → at < length ts → table_of o ≡ with_rows ((relation_of (get_or ts at no_table).content).rows ++ (x ∷ [])) (table_of (get_or ts at no_table)) →
        tables_of n (set ts at o) ≡ change s m (λ rs. rs ++ (x ∷ [])) (tables_of n ts)
    added x o r e = firsts-set table_of no_table n ts at o r ∙ ap (set (tables_of n ts) at) e ∙ sym (the_change (λ rs. rs ++ (x ∷ [])))
