-- One step, refused or done, against the accounts. Assumes nothing.
use Prim.Native.Nat.{ℕ, ◌+◌}
use mathlib.Core.Path.{◌≡◌, refl, ap, sym, subst, ◌∙◌}
use mathlib.Core.Bool.{Bool, true, false, not, ◌&&◌, ◌||◌}
use mathlib.Core.List.{List, [], ◌∷◌, map}
use native.Mathlib.Omega.{arith}
use lib.Dec.{T, eqb, ltb}
use lib.ListN.{length, length-map}
use Rattle.values.specs.declared.Site.{Site}
use Rattle.values.specs.Lists.{bit, count}
use Rattle.std.specs.List.{list_all}
use Rattle.values.specs.Values.{same_row}
use Rattle.values.proofs.Bools.{and_l, and_r}
use Rattle.rows.specs.Relations.{Row}
use Rattle.row_change.specs.Aggregates.{column_fits}
use Rattle.nets.specs.declared.Pick.{Pick}
use Rattle.nets.specs.Nets.{Table, Kind, acts, has_template, is_aggregate, Net, Outcome, refused}
use Rattle.nets.specs.Tables.{table_at, rows_of, rows_fit, distinct}
use Rattle.nets.specs.Sound.{sound}
use Rattle.nets.specs.Scenes.{Scene, scene_of, site, Parts, parts}
use Rattle.nets.specs.Steps.{insert_fits, check12, check13, check14, check15, check16, held, check17, check18, check19, check20, tables_by, net_after, performed, Check, verdict, first_refusal, checks, step}
use Rattle.nets.specs.Accounts.{net_left, added_in, taken_in, post, times, rows_added, rows_taken, is_done, if_done, postings, standing}
use Rattle.nets.proofs.TableLaws.{same_key, key_site, key_name}
use Rattle.nets.proofs.SourceLaws.{source_fits}
use Rattle.nets.proofs.MoveLaws.{Moved, moved, added-count, taken-count, idle}

-- ── the checks ──

abbrev pub Passed : List Check → Type 0
Passed [] = Unit {0}
Passed (k ∷ ks) = T k.passes × Passed ks

-- what holds of every refusal, and of the outcome where all checks pass, holds of the judged outcome
pub judged : (P : Outcome → Type 0) → ((n : ℕ) (vs : List ℕ) → P (refused n vs)) → (ks : List Check) (o : Outcome) → (Passed ks → P o) → P (first_refusal refused ks o)
unfolding first_refusal
judged P r [] o h = h tt
judged P r (k ∷ ks) o h = go k.passes (λ t. judged P r ks o (λ u. h (t, u)))
  where
    go : (b : Bool) → (T b → P (first_refusal refused ks o)) → P (verdict refused b k.number k.values (first_refusal refused ks o))
    go true f = f tt
    go false f = r k.number k.values

-- the checks that passed, by name
pub record Pass (c : Scene) : Type 0 where
  pub ten : T (sound c.net)
  pub eleven : T (ltb c.at (length c.net.threads))
  pub twelve : T (check12 c)
  pub thirteen : T (check13 c)
  pub fourteen : T (check14 c)
  pub fifteen : T (check15 c)
  pub sixteen : T (check16 (parts c))
  pub seventeen : T (check17 (parts c) (held c))
  pub eighteen : T (check18 (parts c))
  pub nineteen : T (check19 c)
  pub twenty : T (check20 c)

pub pass : (c : Scene) → Passed (checks c) → Pass c
unfolding checks
pass c h =
    record {
      ten = h.0;
      eleven = h.1.0;
      twelve = h.1.1.0;
      thirteen = h.1.1.1.0;
      fourteen = h.1.1.1.1.0;
      fifteen = h.1.1.1.1.1.0;
      sixteen = h.1.1.1.1.1.1.0;
      seventeen = h.1.1.1.1.1.1.1.0;
      eighteen = h.1.1.1.1.1.1.1.1.0;
      nineteen = h.1.1.1.1.1.1.1.1.1.0;
      twenty = h.1.1.1.1.1.1.1.1.1.1.0;
    }

-- a check asks something of some kinds alone
pub given : (a b : Bool) → T a → T (not a || b) → T b
given true b h k = k
given false b h k = absurd h

-- check 16 asks that an insert fits, that T is as long as the columns, and that an aggregate has its column
module _ (p : Parts) (h : T (check16 p)) where
  pub insert-fits : T (insert_fits p.node.kind p)
  unfolding check16
  insert-fits = search (and_l, and_r)

  pub long-fits : T (has_template p.node.kind) → T (eqb (length p.node.selector.template) (length p.source.columns))
  unfolding check16
  long-fits k = given (has_template p.node.kind) (eqb (length p.node.selector.template) (length p.source.columns)) k (search and_l)

  pub column_fits_lem : T (is_aggregate p.node.kind) → T (column_fits p.node.function p.node.column p.source.columns)
  unfolding check16
  column_fits_lem k = given (is_aggregate p.node.kind) (column_fits p.node.function p.node.column p.source.columns) k (search and_r)

-- ── postings at one site and name ──

abbrev when : Bool → ℕ → ℕ
when true n = n
when false n = 0

times-at : (s : Site) (n : ℕ) (s' : Site) (n' : ℕ) (r : Row) (rs : List Row) → times (post s' n' r) (map (post s n) rs) ≡ when (same_key s' n' s n) (count (same_row r) rs)
times-at s n s' n' r [] = go (same_key s' n' s n)
  where
    go : (b : Bool) → 0 ≡ when b 0
    go true = refl
    go false = refl
times-at s n s' n' r (x ∷ rs) = go (same_key s' n' s n) (times-at s n s' n' r rs)
  where
    go : (b : Bool) → times (post s' n' r) (map (post s n) rs) ≡ when b (count (same_row r) rs)
        → bit (b && same_row r x) + times (post s' n' r) (map (post s n) rs) ≡ when b (bit (same_row r x) + count (same_row r) rs)
    go true ih = omega arith
    go false ih = omega arith

-- at the step's site and name rows balance, and at others nothing moves
balanced :
    (s : Site) (n : ℕ) (ts us : List Table) (added taken : List Row) → Moved s n ts us added taken → (s' : Site) (n' : ℕ) (r : Row) →
    count (same_row r) (rows_of (table_at s' n' us)) + times (post s' n' r) (map (post s n) taken) ≡ count (same_row r) (rows_of (table_at s' n' ts)) + times (post s' n' r) (map (post s n) added)
balanced s n ts us added taken m s' n' r = rw (times-at s n s' n' r taken, times-at s n s' n' r added) (go (same_key s' n' s n) refl)
  where
    go : (b : Bool) → same_key s' n' s n ≡ b → count (same_row r) (rows_of (table_at s' n' us)) + when b (count (same_row r) taken) ≡ count (same_row r) (rows_of (table_at s' n' ts)) + when b (count (same_row r) added)
    go true e =
        let h = subst T (sym e) tt in
        rw (key_site s' n' s n h, key_name s' n' s n h) (m.same r)
    go false e = rw (m.other s' n' e)

unmoved-at :
    (k : Kind) (c : Scene) →
    ((s : Site) (n : ℕ) → same_key s n (site c) c.node.name ≡ false → table_at s n (tables_by k c) ≡ table_at s n c.net.tables) →
    (s : Site) (n : ℕ) → (acts k && same_key s n (site c) c.node.name) ≡ false → table_at s n (tables_by k c) ≡ table_at s n c.net.tables
unmoved-at k c other s n e = go (acts k) refl e
  where
    go : (b : Bool) → acts k ≡ b → (b && same_key s n (site c) c.node.name) ≡ false → table_at s n (tables_by k c) ≡ table_at s n c.net.tables
    go true a e = other s n e
    go false a e = ap (table_at s n) (idle k c a)

-- ── one step ──

-- what a pick's outcome does, in the scene `c` of the net
pub record Stepped (net : Net) (c : Scene) (o : Outcome) : Type 0 where
  pub fit : T (list_all rows_fit (net_left net o).tables)
  pub names : T (distinct (net_left net o).tables)
  pub balance :
      (s : Site) (n : ℕ) (r : Row) →
      standing (net_left net o) s n r + times (post s n r) (if_done o (postings c (rows_taken c.node.kind c))) ≡ standing net s n r + times (post s n r) (if_done o (postings c (rows_added c.node.kind c)))
  pub untouched :
      (s : Site) (n : ℕ) → (is_done o && acts c.node.kind && same_key s n (site c) c.node.name) ≡ false →
      table_at s n (net_left net o).tables ≡ table_at s n net.tables
  pub added : added_in o ≡ length (if_done o (postings c (rows_added c.node.kind c)))
  pub taken : taken_in o ≡ length (if_done o (postings c (rows_taken c.node.kind c)))

module _ (net : Net) (p : Pick) (f : T (list_all rows_fit net.tables)) (d : T (distinct net.tables)) where
  refuses : (n : ℕ) (vs : List ℕ) → Stepped net (scene_of net p) (refused n vs)
  refuses n vs =
      record { fit = f; names = d; balance = λ s m r. refl; untouched = λ s m e. refl; added = refl; taken = refl }

  pub performs : Pass (scene_of net p) → Stepped net (scene_of net p) (performed (scene_of net p))
  unfolding performed net_after scene_of standing check14 check15
  performs h =
      record {
        fit = m.fit;
        names = m.names;
        balance = balanced (site c) c.node.name net.tables (tables_by c.node.kind c) (rows_added c.node.kind c) (rows_taken c.node.kind c) m;
        untouched = unmoved-at c.node.kind c m.other;
        added = added-count c.node.kind c ∙ sym (length-map (rows_added c.node.kind c) (post (site c) c.node.name));
        taken = taken-count c.node.kind c ∙ sym (length-map (rows_taken c.node.kind c) (post (site c) c.node.name));
      }
    where
      c : Scene
      c = scene_of net p

      m : Moved (site c) c.node.name net.tables (tables_by c.node.kind c) (rows_added c.node.kind c) (rows_taken c.node.kind c)
      m = moved c f d (source_fits net p h.ten) c.node.kind h.fourteen h.fifteen (insert-fits (parts c) h.sixteen)

  pub stepped : Stepped net (scene_of net p) (step net p)
  unfolding step
  stepped =
      judged (Stepped net (scene_of net p)) refuses (checks (scene_of net p)) (performed (scene_of net p)) (λ h. performs (pass (scene_of net p) h))
