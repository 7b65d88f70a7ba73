-- Tables stored at their places: one gives way to another, a new one goes last, a removed one closes up. Assumes nothing.
use Prim.Native.Nat.{ℕ, ◌+◌, ◌-◌, ◌<◌, ◌≤◌}
use mathlib.Core.Path.{◌≡◌, refl, ap, sym, ◌∙◌}
use mathlib.Core.Bool.{Bool, true, false, not, cond, ◌&&◌}
use mathlib.Core.List.{List, [], map}
use Rattle.std.specs.Prelude.{Option, Some}
use native.Mathlib.Omega.{arith}
use lib.Dec.{T, eqb, ltb}
use lib.ListN.{length, get_or, set}
use borrow.Author.Tests.{lt-ltb}
use Rattle.values.specs.declared.Site.{Site}
use Rattle.values.proofs.Arrays.{map-set}
use Rattle.values.proofs.Firsts.{firsts_at, firsts_push, firsts-set}
use Rattle.row_change.specs.ChangeContracts.{Holds}
use Rattle.step_meets.specs.declared.Decided.{Decided}
use Rattle.step_meets.specs.Situations.{moved}
use Rattle.rows.specs.declared.Relation as Code
use Rattle.rows.specs.Relations.{Relation}
use Rattle.rows.specs.View.{relation_of}
use Rattle.nets.specs.declared.Table.{Table}
use Rattle.nets.specs.declared.Frame.{Frame}
use Rattle.nets.specs.View.{TableVariable}
use Rattle.nets.specs.declared.Thread.{Thread}
use Rattle.nets.specs.Nets as M
use Rattle.nets.specs.Nets.{Kind, code, needs_table, binds_relation, is_create}
use Rattle.nets.specs.View.{no_table, kind_at, table_of, variable_of, tables_of}
use Rattle.step_effect.specs.EffectContracts.{is_step, puts_rows}
use Rattle.step_effect.specs.TableContracts.{with_content, put_content, tables_with}
use Rattle.step_effect.proofs.KindTies.{puts_needs, with_create, with-drop}
use Rattle.nets.proofs.KindClasses.{◌▸◌, class_in, of_class}
use Rattle.nets.proofs.KindLaws.{at_one}
use Rattle.values.proofs.RemoveLaws.{Closing, closing_ends}

-- ── kinds ──

pub puts_step : (k : Kind) → T (puts_rows k) → T (is_step k)
puts_step = class_in puts_rows is_step tt

pub binds-step : (k : Kind) → T (binds_relation k) → T (is_step k)
binds-step = class_in binds_relation is_step tt

abbrev is_drop : Kind → Bool
is_drop k = eqb (code k) 24

module _ (at : ℕ) (ts : List M.Table) (s : Site) (d : M.Node) (q : Relation) where
  with_puts : (k : Kind) → T (puts_rows k) → tables_with k at ts s d q ≡ put_content at q ts
  unfolding tables_with
  with_puts = of_class (λ k. tables_with k at ts s d q ≡ put_content at q ts) puts_rows (refl ▸ refl ▸ refl ▸ refl ▸ tt)

  with-same : (k : Kind) → puts_rows k ≡ false → is_create k ≡ false → is_drop k ≡ false → tables_with k at ts s d q ≡ ts
  unfolding tables_with
  with-same k a b c =
      of_class (λ j. tables_with j at ts s d q ≡ ts) (λ j. not (puts_rows j) && not (is_create j) && not (is_drop j)) (refl ▸ refl ▸ refl ▸ refl ▸ refl ▸ refl ▸ tt) k (rw (a, b, c) tt)

-- ── tables ──

-- the table at `slot` gives way to `fresh`
pub table-gives_way :
    (n : ℕ) (l : List Table) (at slot b : ℕ) (fresh : Table) (s : Site) (d : M.Node) → length l ≡ 8 → n ≤ 8 → slot ≡ cond (ltb at n) at 0 → fresh.site ≡ (get_or l slot no_table).site → fresh.name ≡ (get_or l slot no_table).name →
    (T (needs_table (kind_at b)) → at < n) → T (puts_rows (kind_at b)) → tables_of n (set l slot fresh) ≡ tables_with (kind_at b) at (tables_of n l) s d (relation_of fresh.content)
table-gives_way n l at slot b fresh s d eight few slot_is site-is name-is there h =
    ap (λ (i : ℕ). tables_of n (set l i fresh)) e
    ∙ firsts-set table_of no_table n l at fresh (omega (arith, low, eight, few))
    ∙ ap (set (tables_of n l) at)
    ((λ i. record { site = (site-is ∙ ap (λ (j : ℕ). (get_or l j no_table).site) e) i; name = (name-is ∙ ap (λ (j : ℕ). (get_or l j no_table).name) e) i; content = relation_of fresh.content })
    ∙ sym (ap (with_content (relation_of fresh.content)) (firsts_at table_of no_table n l at (table_of no_table) low)))
    ∙ sym (with_puts at (tables_of n l) s d (relation_of fresh.content) (kind_at b) h)
  where
    low : at < n
    low = there (puts_needs (kind_at b) h)

    e : slot ≡ at
    e = slot_is ∙ ap (λ (x : Bool). cond x at 0) (lt-ltb at n low)

-- no table does
pub tables_stay : (b at : ℕ) (ts : List M.Table) (s : Site) (d : M.Node) (q : Relation) → puts_rows (kind_at b) ≡ false → eqb b 23 ≡ false → eqb b 24 ≡ false → ts ≡ tables_with (kind_at b) at ts s d q
unfolding kind_at
tables_stay b at ts s d q e x y = sym (with-same at ts s d q (kind_at b) e (sym (at_one is_create 23 tt tt b) ∙ x) (sym (at_one is_drop 24 tt tt b) ∙ y))

-- a new one goes last
pub table_created :
    (n : ℕ) (l : List Table) (at b : ℕ) (s : Site) (d : M.Node) (q : Relation) (t : Table) → length l ≡ 8 → b ≡ 23 → n < 8 →
    table_of t ≡ record { site = s; name = d.name; content = record { columns = d.columns; rows = [] } } → tables_of (n + 1) (set l n t) ≡ tables_with (kind_at b) at (tables_of n l) s d q
table_created n l at b s d q t eight e room is = with_create at (tables_of n l) s d q e is (firsts_push table_of no_table n l t (omega (arith, eight)))

-- a removed one closes up
pub table-dropped :
    (n : ℕ) (l : List Table) (at b : ℕ) (s : Site) (d : M.Node) (q : Relation) {new : List Table} {x : ℕ} → b ≡ 24 → at < n → Closing no_table l at x new → n - 1 ≤ x →
    tables_of (n - 1) new ≡ tables_with (kind_at b) at (tables_of n l) s d q
table-dropped n l at b s d q e low c h = closing_ends table_of no_table n c low h ∙ sym (with-drop at (tables_of n l) s d q e)

-- ── what is stored in the thread ──

-- a thread that is, at its end, as `moved` makes it
pub as_moved : (t : Thread) (r : Decided) (i : ℕ) (f : Frame) {u v : Thread} → u ≡ v → v ≡ moved t r i f v.relations → u ≡ moved t r i f u.relations
as_moved t r i f e h = e ∙ h ∙ sym (ap (λ (x : Thread). moved t r i f x.relations) e)

-- a table variable bound anew
pub bound-set :
    (vs : List TableVariable) (b : ℕ) (q : Code.Relation) (m : Relation) → Holds q m.columns m.rows → {x : Bool} → x ≡ true →
    map variable_of (set vs b (Some q)) ≡ cond x (set (map variable_of vs) b (Some m)) (map variable_of vs)
bound-set vs b q m h e =
    map-set variable_of vs b (Some q)
    ∙ ap (λ (r : Relation). set (map variable_of vs) b (Some r)) (λ i. record { columns = h.columns i; rows = h.rows i })
    ∙ ap (λ (x : Bool). cond x (set (map variable_of vs) b (Some m)) (map variable_of vs)) (sym e)

pub bound-none : (vs : List TableVariable) (o : List (Option Relation)) {x : Bool} → x ≡ false → map variable_of vs ≡ cond x o (map variable_of vs)
bound-none vs o e = ap (λ (x : Bool). cond x o (map variable_of vs)) (sym e)
