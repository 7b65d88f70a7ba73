-- Tables changed and removed at their place, and the net after a step. Assumes nothing.
use Prim.Native.Nat.{ℕ}
use mathlib.Core.Path.{◌≡◌, refl, ap, sym, ◌∙◌}
use mathlib.Core.Bool.{Bool, true, false}
use mathlib.Core.List.{List, [], ◌∷◌}
use Rattle.std.specs.Prelude.{Option, Some, is_some}
use lib.Dec.{T}
use lib.ListN.{get_or, set}
use Rattle.values.specs.declared.Site.{Site}
use Rattle.values.specs.Lists.{remove_at}
use Rattle.rows.specs.Relations.{Row}
use Rattle.nets.specs.Nets.{Table, Kind, acting, drop, Net, refused, done}
use Rattle.nets.specs.Tables.{table_at, rows_of, columns_of, with_rows, change}
use Rattle.nets.specs.Scenes.{Scene, parts, site, table}
use Rattle.nets.specs.Steps.{rows_by, tables_by, added_by, taken_by, threads_after, net_after, performed, Check, verdict, first_refusal}
use Rattle.nets.specs.Accounts.{net_left}
use Rattle.nets.specs.Answers.{is_doing, answer_of}
use Rattle.step_effect.specs.EffectContracts.{puts_rows}
use Rattle.step_meets.specs.MeetContracts.{later_checks, outcome_at}
use Rattle.step_meets.proofs.EffectTies.{puts_tables}
use Rattle.nets.proofs.TableLaws.{change-same}
use Rattle.nets.proofs.TablePlaces.{place_at, place-below, table-at, change-place, remove-place}

-- ── the place of a site and name ──

module _ (s : Site) (n : ℕ) where
  -- the table at the place, with the rows that a change leaves there
  abbrev pub rows_put : List Table → List Table → Table → Table
  rows_put ts us t = record { site = t.site; name = t.name; content = record { columns = columns_of (table_at s n ts); rows = rows_of (table_at s n us) } }

  change-put : (g : List Row → List Row) (ts : List Table) (d : Table) → T (is_some (table_at s n ts)) → change s n g ts ≡ set ts (place_at s n ts) (rows_put ts (change s n g ts) (get_or ts (place_at s n ts) d))
  change-put g ts d h = change-place s n g ts d ∙ ap (set ts (place_at s n ts)) same
    where
      t : Table
      t = get_or ts (place_at s n ts) d

      found : table_at s n ts ≡ Some t
      found = table-at s n ts d (place-below s n ts h)

      rows : g t.content.rows ≡ rows_of (table_at s n (change s n g ts))
      rows = ap (λ (o : Option Table). g (rows_of o)) (sym found) ∙ sym (change-same s n g ts h)

      same : with_rows (g t.content.rows) t ≡ rows_put ts (change s n g ts) t
      same = λ i. record { site = t.site; name = t.name; content = record { columns = sym (ap columns_of found) i; rows = rows i } }

-- ── the tables after a step ──

-- the place of the step's table
abbrev pub table_place : Scene → ℕ
table_place c = place_at (site c) c.node.name c.net.tables

-- the rows of the step's table give way, all else stays
pub tables-put :
    (k : Kind) (c : Scene) (d : Table) → T (puts_rows k) → T (is_some (table c)) →
    tables_by k c ≡ set c.net.tables (table_place c) (rows_put (site c) c.node.name c.net.tables (tables_by k c) (get_or c.net.tables (table_place c) d))
unfolding table
tables-put k c d s h = rw (puts_tables k c s) (change-put (site c) c.node.name (rows_by k (parts c)) c.net.tables d h)

pub drop-tables : (c : Scene) → tables_by (acting drop) c ≡ remove_at (table_place c) c.net.tables
unfolding tables_by
drop-tables c = remove-place (site c) c.node.name c.net.tables

-- ── the net after a step ──

pub net-after : (c : Scene) → net_after c ≡ record { aliases = c.net.aliases; tables = tables_by c.node.kind c; nodes = c.net.nodes; threads = threads_after c }
unfolding net_after
net-after c = refl

-- a judged outcome that is done is the one judged
module _ (net : Net) where
  judge_done : (ks : List Check) (a t : ℕ) (m : Net) → T (is_doing (answer_of (first_refusal refused ks (done a t m)))) → net_left net (first_refusal refused ks (done a t m)) ≡ m
  unfolding first_refusal
  judge_done [] a t m h = refl
  judge_done (k ∷ ks) a t m h = go k.passes h (judge_done ks a t m)
    where
      go : (b : Bool) → T (is_doing (answer_of (verdict refused b k.number k.values (first_refusal refused ks (done a t m))))) → (T (is_doing (answer_of (first_refusal refused ks (done a t m)))) → net_left net (first_refusal refused ks (done a t m)) ≡ m) → net_left net (verdict refused b k.number k.values (first_refusal refused ks (done a t m))) ≡ m
      go true h ih = ih h
      go false h ih = absurd h

  pub done-left : (c : Scene) → T (is_doing (answer_of (outcome_at c))) → net_left net (outcome_at c) ≡ net_after c
  unfolding performed
  done-left c h = judge_done (later_checks c) (added_by c.node.kind (parts c)) (taken_by c.node.kind (parts c)) (net_after c) h
