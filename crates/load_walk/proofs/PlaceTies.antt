-- The table of a record, by the place that the code finds, and tables within their arrays. Assumes nothing.
use Rattle.std.specs.Prelude.{is_some}
use Prim.Native.Nat.{ℕ, ◌<◌}
use mathlib.Core.Path.{◌≡◌, refl, sym, ap₂, subst, ◌∙◌}
use mathlib.Core.Bool.{Bool, true, false}
use mathlib.Core.List.{List}
use lib.Dec.{eqb, ltb}
use lib.ListN.{length, get_or, set}
use lib.Seq.{get_or-set_same, get_or-set_other}
use borrow.Author.Tests.{eqb-true, eqb-false}
use Rattle.values.specs.declared.Site.{Site}
use Rattle.values.specs.Lists.{place_of}
use Rattle.values.proofs.Firsts.{length-firsts}
use Rattle.rows.specs.View.{Shaped}
use Rattle.nets.specs.declared.Table.{Table}
use Rattle.nets.specs.Tables.{is_at, table_at}
use Rattle.nets.specs.View.{no_table, table_of, tables_of}
use Rattle.nets.proofs.TablePlaces.{table-there}
use Rattle.load_walk.specs.Walking.{AllShaped}

-- a table is there where its place is below the count
pub is-there : (ts : List Table) (n : ℕ) (s : Site) (m at : ℕ) → at ≡ place_of (is_at s m) (tables_of n ts) → is_some (table_at s m (tables_of n ts)) ≡ ltb at n
is-there ts n s m at k = table-there s m (tables_of n ts) ∙ ap₂ ltb (sym k) (length-firsts table_of no_table n ts)

-- ── within the arrays ──

module _ (ts : List Table) (c : ℕ) (t : Table) (h : c < length ts) (k : Shaped t.content) where
  shaped-set : (n : ℕ) → ((i : ℕ) → i < n → (i ≡ c → ⊥) → Shaped (get_or ts i no_table).content) → (i : ℕ) → i < n → Shaped (get_or (set ts c t) i no_table).content
  shaped-set n old i l = go (eqb i c) refl
    where
      go : (b : Bool) → eqb i c ≡ b → Shaped (get_or (set ts c t) i no_table).content
      go true e =
          subst (λ (j : ℕ). Shaped (get_or (set ts c t) j no_table).content) (sym (eqb-true i c e))
          (subst (λ (x : Table). Shaped x.content) (sym (get_or-set_same ts c t no_table h)) k)
      go false e =
          subst (λ (x : Table). Shaped x.content) (sym (get_or-set_other ts c i t no_table (eqb-false i c e))) (old i l (eqb-false i c e))

  -- one in the place of another
  pub other-shaped : (n : ℕ) → AllShaped n ts → AllShaped n (set ts c t)
  other-shaped n old = (old.0, shaped-set n (λ i l z. old.1 i l))
