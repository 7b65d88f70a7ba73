-- A record by the group of its kind: what it is refused for by itself, and what becomes of one that no group took. Assumes nothing.
use Prim.Native.Nat.{ℕ, zero, suc, ◌*◌, ◌≤◌, ◌<◌}
use mathlib.Core.Path.{◌≡◌, refl, sym, ap, ◌∙◌}
use mathlib.Core.Bool.{Bool, true, false, cond}
use mathlib.Core.List.{List}
use native.Mathlib.Omega.{arith}
use lib.ListN.{length, drop_of_length-le}
use lib.Dec.{leb}
use borrow.Author.Tests.{leb-true, leb-false, lt-ltb, lt-leb}
use Rattle.record_bytes.specs.Bytes.{at, part, columns_in}
use Rattle.record_bytes.specs.Decoding.{Record, alias_record, table_record, row_record, node_record, start_record, pick_record, Decoded, good, bad, site_at, name_in, alias_in, row_in, pick_in, node_in, alias_form, table_form, row_form, node_form, start_form, pick_form, in_form, record_in, whole_records, records_in}
use Rattle.record_bytes.specs.RecordKinds.{group_at}
use Rattle.record_bytes.proofs.GroupLaws.{by_group, by_group_lem}
use Rattle.load_walk.specs.declared.Reach.{Reach}
use Rattle.files.specs.Loading.{Progress, group_of, stopped, read_all}
use Rattle.load_walk.specs.Walking.{with_group, record_at, rest, Stops, group_next, Going, Ends, is_good, left_number}
use Rattle.load_walk.proofs.WalkLaws.{records-length, rest-bad, rest-early}

-- ── by the group ──

module _ (bs : List ℕ) (g : ℕ) (e : g ≡ group_at (at bs 0)) where
  pub of_group : (k : ℕ) (form : Bool) (x : Record) → g ≡ k → by_group k bs ≡ in_form form x → record_in bs ≡ in_form form x
  of_group k form x h q = by_group_lem bs ∙ ap (λ (j : ℕ). by_group j bs) (sym e ∙ h) ∙ q

  pub no-group : (g ≡ 1 → ⊥) → (g ≡ 2 → ⊥) → (g ≡ 3 → ⊥) → (g ≡ 4 → ⊥) → (g ≡ 5 → ⊥) → (g ≡ 6 → ⊥) → 3 ≡ left_number (record_in bs)
  no-group a b c d u v = sym (ap left_number (by_group_lem bs ∙ ap (λ (j : ℕ). by_group j bs) (sym e) ∙ go g a b c d u v))
    where
      go : (j : ℕ) → (j ≡ 1 → ⊥) → (j ≡ 2 → ⊥) → (j ≡ 3 → ⊥) → (j ≡ 4 → ⊥) → (j ≡ 5 → ⊥) → (j ≡ 6 → ⊥) → by_group j bs ≡ bad 3
      go zero a b c d u v = refl
      go (suc zero) a b c d u v = absurd (a refl)
      go (suc (suc zero)) a b c d u v = absurd (b refl)
      go (suc (suc (suc zero))) a b c d u v = absurd (c refl)
      go (suc (suc (suc (suc zero)))) a b c d u v = absurd (d refl)
      go (suc (suc (suc (suc (suc zero))))) a b c d u v = absurd (u refl)
      go (suc (suc (suc (suc (suc (suc zero)))))) a b c d u v = absurd (v refl)
      go (suc (suc (suc (suc (suc (suc (suc j))))))) a b c d u v = refl

-- a record of the group `k` fails check 4 by the form of its group
pub form-fault : (k : ℕ) (form : List ℕ → Bool) (said : List ℕ → Record) → ((bs : List ℕ) → by_group k bs ≡ in_form (form bs) (said bs)) →
    (bs : List ℕ) (g : ℕ) (b : Bool) (f : ℕ) → g ≡ group_at (at bs 0) → g ≡ k → b ≡ form bs → f ≡ cond b 5 4 → f ≡ left_number (record_in bs)
form-fault k form said same bs g b f e h p z = z ∙ go b (form bs) p ∙ ap left_number (sym (of_group bs g e k (form bs) (said bs) h (same bs)))
  where
    go : (b c : Bool) → b ≡ c → cond b 5 4 ≡ left_number (in_form c (said bs))
    go b true p = rw p
    go b false p = rw p

abbrev group_in : Decoded → ℕ
group_in (good x) = group_of x
group_in (bad n) = 0

pub not_good : (x : Record) (n : ℕ) → bad n ≡ good x → ⊥
not_good x n e = let z : false ≡ true = ap is_good e in let y : ◌≡◌ {A = ℕ} 0 1 = cc in omega arith

judged-group : (form : Bool) (y x : Record) → in_form form y ≡ good x → group_of x ≡ group_of y
judged-group true y x e = sym (ap group_in e)
judged-group false y x e = absurd (not_good x 4 e)

-- a record that is fine by itself has the group of its kind
pub good-group : (bs : List ℕ) (x : Record) → record_in bs ≡ good x → (group_of x ≡ group_at (at bs 0)) × (1 ≤ group_at (at bs 0)) × (group_at (at bs 0) ≤ 6)
good-group bs x e = go (group_at (at bs 0)) (sym (by_group_lem bs) ∙ e)
  where
    go : (j : ℕ) → by_group j bs ≡ good x → (group_of x ≡ j) × (1 ≤ j) × (j ≤ 6)
    go zero q = absurd (not_good x 3 q)
    go (suc zero) q = (judged-group (alias_form bs) (alias_record (alias_in bs)) x q, omega arith, omega arith)
    go (suc (suc zero)) q = (judged-group (table_form bs) (table_record (site_at 1 bs) (name_in bs) (columns_in (part 8 12 bs))) x q, omega arith, omega arith)
    go (suc (suc (suc zero))) q = (judged-group (row_form bs) (row_record (site_at 1 bs) (name_in bs) (row_in (part 56 88 bs))) x q, omega arith, omega arith)
    go (suc (suc (suc (suc zero)))) q = (judged-group (node_form bs) (node_record (node_in bs)) x q, omega arith, omega arith)
    go (suc (suc (suc (suc (suc zero))))) q = (judged-group (start_form bs) (start_record (site_at 1 bs) (at bs 2)) x q, omega arith, omega arith)
    go (suc (suc (suc (suc (suc (suc zero)))))) q = (judged-group (pick_form bs) (pick_record (pick_in bs)) x q, omega arith, omega arith)
    go (suc (suc (suc (suc (suc (suc (suc j))))))) q = absurd (not_good x 3 q)

-- ── a record that no group took ──

module _ (file : List ℕ) (r : Reach) (g : Going file 7 r) where
  pub at-end : length file ≤ r.place * 104 → Ends file r
  unfolding rest read_all
  at-end h =
      let k : length (records_in file) ≤ r.place = omega (arith, h, g.whole.exact, records-length file) in
      record { ends = λ l. ap (read_all r.place (with_group r.group l)) (drop_of_length-le (records_in file) k) }

  module _ (h : r.place * 104 < length file) (bs : List ℕ) (eb : bs ≡ record_at file r.place) (f : ℕ) (e₀ : f ≡ left_number (record_in bs)) where
    e : f ≡ left_number (record_in (record_at file r.place))
    e = e₀ ∙ ap (λ (x : List ℕ). left_number (record_in x)) eb

    below : r.place < whole_records file
    below = omega (arith, h, g.whole.exact)

    next : group_next file r ≡ group_at (at (record_at file r.place) 0)
    unfolding group_next
    next = rw (lt-ltb (r.place * 104) (length file) h)

    smaller : (k j : ℕ) → k ≡ j → 1 ≤ j → j ≤ 6 → (1 ≤ j → r.group ≤ j → 7 ≤ j) → k < r.group
    smaller k j q a b p = go (leb r.group j) refl
      where
        go : (t : Bool) → leb r.group j ≡ t → k < r.group
        go true w = absurd (omega (arith, b, p a (leb-true r.group j w)))
        go false w = omega (arith, q, leb-false r.group j w)

    -- its group is past
    early : (x : Record) → record_in (record_at file r.place) ≡ good x → leb r.group (group_of x) ≡ false
    early x q =
        let p = good-group (record_at file r.place) x q in
        lt-leb r.group (group_of x) (smaller (group_of x) (group_next file r) (p.0 ∙ sym next) (omega (arith, p.1, next)) (omega (arith, p.2, next)) g.passed)

    pub left_stops : Stops file r (record { number = f; place = r.place }) (λ l. l)
    left_stops = record { stops = λ l. go (record_in (record_at file r.place)) refl l ∙ ap (λ (n : ℕ). stopped n r.place) (sym e) }
      where
        go : (d : Decoded) → record_in (record_at file r.place) ≡ d → (l : Progress) → rest file r.place (with_group r.group l) ≡ stopped (left_number d) r.place
        go (good x) q l = rest-early file r.place below (with_group r.group l) x q (early x q)
        go (bad m) q l = rest-bad file r.place below (with_group r.group l) m q
