-- The walk over a file: a record of the group that is read leads on to the next place, or stops at its fault. Assumes nothing.
use Prim.Native.Nat.{ℕ, zero, suc, ◌+◌, ◌-◌, ◌*◌, ◌≤◌, ◌<◌}
use mathlib.Core.Path.{◌≡◌, refl, ap, sym, subst, ◌∙◌}
use mathlib.Core.Bool.{Bool, true, false, cond}
use mathlib.Core.List.{List, [], ◌∷◌, ◌++◌, map}
use Rattle.std.specs.Prelude.{Option, None, Some, is_some}
use native.Mathlib.Omega.{arith}
use lib.Dec.{leb, ltb, ltb→lt}
use native.Mathlib.Numerals.{add-one}
use lib.ListN.{length, take, drop}
use lib.Seq.{drop-drop}
use Rattle.values.proofs.Bools.{T_of}
use Rattle.nets.specs.Steps.{Check, check}
use Rattle.record_bytes.specs.Bytes.{at, parts}
use Rattle.record_bytes.specs.Decoding.{Record, Decoded, good, bad, in_form, record_in, whole_records, records_in}
use Rattle.record_bytes.specs.RecordKinds.{group_at}
use Rattle.value_bytes.proofs.Stores.{part-size}
use Rattle.record_bytes.proofs.GroupLaws.{by_group}
use Rattle.load_walk.specs.declared.Reach.{Reach}
use Rattle.files.specs.declared.Fault.{Fault}
use Rattle.files.specs.Loading.{Progress, group_of, load_checks, advance, failing, Reading, stopped, proceed, read_all}
use Rattle.load_walk.specs.Walking.{record_at, rest, with_group, refused_by, taken_by, Takes, Refuses, Leads, Stops, group_next, Going, fault_by}

-- ── the record at a place ──

parts_cons : {A : Type 0} (f : List ℕ → A) (n i : ℕ) (bs : List ℕ) → i < n → drop i (map f (parts 104 n bs)) ≡ f (take 104 (drop (i * 104) bs)) ∷ drop (suc i) (map f (parts 104 n bs))
parts_cons f zero i bs h = absurd (omega arith)
parts_cons f (suc n) zero bs h = refl
parts_cons f (suc n) (suc i) bs h =
    let e : 104 + i * 104 ≡ suc i * 104 = omega arith in
    parts_cons f n i (drop 104 bs) (omega arith)
    ∙ ap (λ (l : List ℕ). f (take 104 l) ∷ drop (suc i) (map f (parts 104 n (drop 104 bs)))) (drop-drop (i * 104) 104 bs ∙ ap (λ (k : ℕ). drop k bs) e)

pub records_cons : (file : List ℕ) (i : ℕ) → i < whole_records file → drop i (records_in file) ≡ record_in (record_at file i) ∷ drop (i + 1) (records_in file)
unfolding records_in
records_cons file i h =
    rw (add-one i, part-size (i * 104) 104) (parts_cons record_in (whole_records file) i file h)

parts-length : {A : Type 0} (f : List ℕ → A) (n : ℕ) (bs : List ℕ) → length (map f (parts 104 n bs)) ≡ n
parts-length f zero bs = refl
parts-length f (suc n) bs = ap suc (parts-length f n (drop 104 bs))

pub records-length : (file : List ℕ) → length (records_in file) ≡ whole_records file
unfolding records_in
records-length file = parts-length record_in (whole_records file) file

-- ── a record by itself ──

pub none-some : {A : Type 0} {x : A} → None ≡ Some x → ⊥
none-some e = let z : false ≡ true = ap is_some e in let y : ◌≡◌ {A = ℕ} 0 1 = cc in omega arith

abbrev pub stopped_by : Option Fault → Reading
stopped_by None = stopped 0 0
stopped_by (Some f) = stopped f.number f.place

-- no check fails
pub none-failing : (o : Option ℕ) (i : ℕ) → None ≡ fault_by o i → o ≡ None
none-failing None i e = refl
none-failing (Some n) i e = absurd (none-some e)

module _ (file : List ℕ) (i : ℕ) (h : i < whole_records file) (l : Progress) where
  rest-is : rest file i l ≡ read_all i l (record_in (record_at file i) ∷ drop (i + 1) (records_in file))
  unfolding rest
  rest-is = ap (read_all i l) (records_cons file i h)

  pub rest-bad : (n : ℕ) → record_in (record_at file i) ≡ bad n → rest file i l ≡ stopped n i
  unfolding read_all
  rest-bad n e = rest-is ∙ ap (λ (x : Decoded). read_all i l (x ∷ drop (i + 1) (records_in file))) e

  rest-good : (x : Record) → record_in (record_at file i) ≡ good x → rest file i l ≡ proceed (failing (load_checks l x)) i (rest file (i + 1) (advance l x))
  unfolding rest read_all
  rest-good x e = rest-is ∙ ap (λ (d : Decoded). read_all i l (d ∷ drop (i + 1) (records_in file))) e ∙ rw add-one refl

  -- of a group that is past
  pub rest-early : (x : Record) → record_in (record_at file i) ≡ good x → leb l.group (group_of x) ≡ false → rest file i l ≡ stopped 5 i
  unfolding load_checks
  rest-early x e k = rest-good x e ∙ rw k

  -- whatever it says
  pub rest_taken : refused_by l (record_in (record_at file i)) ≡ None → rest file i l ≡ rest file (i + 1) (taken_by l (record_in (record_at file i)))
  rest_taken e = go (record_in (record_at file i)) refl e
    where
      go : (d : Decoded) → record_in (record_at file i) ≡ d → refused_by l d ≡ None → rest file i l ≡ rest file (i + 1) (taken_by l (record_in (record_at file i)))
      go (good x) q e = rest-good x q ∙ ap (λ (o : Option ℕ). proceed o i (rest file (i + 1) (advance l x))) e ∙ ap (λ (d : Decoded). rest file (i + 1) (taken_by l d)) (sym q)
      go (bad n) q e = absurd (none-some (sym e))

  pub rest_refused : (f : Fault) → fault_by (refused_by l (record_in (record_at file i))) i ≡ Some f → rest file i l ≡ stopped f.number f.place
  rest_refused f e = go (record_in (record_at file i)) refl e
    where
      fails : (o : Option ℕ) (x : Reading) → fault_by o i ≡ Some f → proceed o i x ≡ stopped f.number f.place
      fails None x z = absurd (none-some z)
      fails (Some m) x z = ap stopped_by z

      go : (d : Decoded) → record_in (record_at file i) ≡ d → fault_by (refused_by l d) i ≡ Some f → rest file i l ≡ stopped f.number f.place
      go (good x) q e = rest-good x q ∙ fails (failing (load_checks l x)) (rest file (i + 1) (advance l x)) e
      go (bad m) q e = rest-bad m q ∙ ap stopped_by e

-- ── from reach to reach ──

abbrev pub past : Reach → ℕ → Reach
past r k = record { place = r.place + 1; group = k }

pub leads_trans : (file : List ℕ) (a b c : Reach) (p q r : Progress → Progress) → Leads file a b p q → Leads file b c q r → Leads file a c p r
leads_trans file a b c p q r h k = record { leads = λ l. h.leads l ∙ k.leads l }

pub leads-stop : (file : List ℕ) (a b : Reach) (f : Fault) (p q : Progress → Progress) → Leads file a b p q → Stops file b f q → Stops file a f p
leads-stop file a b f p q h k = record { stops = λ l. h.leads l ∙ k.stops l }

-- ── one record of the walk: the next record is of the group `k` ──

module _ (k : ℕ) (pos : 1 ≤ k) (file : List ℕ) (r : Reach) (n : ℕ) (e : n ≡ group_next file r) (e' : n ≡ k) where
  pub next-is : (r.place * 104 < length file) × (group_at (at (record_at file r.place) 0) ≡ k)
  unfolding group_next
  next-is = go (ltb (r.place * 104) (length file)) refl (sym e ∙ e')
    where
      go : (b : Bool) → ltb (r.place * 104) (length file) ≡ b → cond b (group_at (at (record_at file r.place) 0)) 0 ≡ k →
          (r.place * 104 < length file) × (group_at (at (record_at file r.place) 0) ≡ k)
      go true q z = (ltb→lt (r.place * 104) (length file) (T_of (ltb (r.place * 104) (length file)) q), z)
      go false q z = absurd (omega arith)

  module _ (g : Going file k r) where
    -- there is a record
    pub next_in : r.place < whole_records file
    next_in = omega (arith, next-is.0, g.whole.exact)

    pub next_fits : r.place * 104 + 104 ≤ length file
    next_fits = omega (arith, next_in, g.whole.exact)

    pub next_less : whole_records file - (r.place + 1) < whole_records file - r.place
    next_less = omega (arith, next_in)

    pub went_on : Going file k (past r k)
    went_on = record { whole = g.whole; place = omega (arith, next_in); group = omega arith; passed = λ a b. b }

    -- the record leads on, or stops
    module _ (bs : List ℕ) (eb : bs ≡ record_at file r.place) (p : Progress → Progress) where
      pub step_on : (q : Progress → Progress) → Takes k bs p q → Leads file r (past r k) p q
      step_on q t₀ =
          let t : Takes k (record_at file r.place) p q = subst (λ (x : List ℕ). Takes k x p q) eb t₀ in
          record { leads = λ l. rest_taken file r.place next_in (with_group r.group (p l)) (t.passes r.group l g.group) ∙ ap (rest file (r.place + 1)) (t.takes r.group l) }

      pub step_off : (f : Fault) → Refuses k r.place bs p f → Stops file r f p
      step_off f t₀ =
          let t : Refuses k r.place (record_at file r.place) p f = subst (λ (x : List ℕ). Refuses k r.place x p f) eb t₀ in
          record { stops = λ l. rest_refused file r.place next_in (with_group r.group (p l)) f (t.refuses r.group l g.group) }

-- ── a list to which the records of one group add ──

abbrev pub list_checks : Bool → Bool → List Check
list_checks new room = check 6 new ∷ check 8 room ∷ []

-- a record says `said`, adds `element`, and passes check 4 by `form`, check 6 by `new` and check 8 by `room`
pub record Group (B : Type 0) : Type 0 where
  pub number : ℕ
  pub put : List B → Progress → Progress
  pub form : List ℕ → Bool
  pub new : List B → List ℕ → Bool
  pub room : ℕ → Bool
  pub said : List ℕ → Record
  pub element : List ℕ → B
  pub same : (bs : List ℕ) → by_group number bs ≡ in_form (form bs) (said bs)
  pub checks : (g c : ℕ) (xs : List B) (bs : List ℕ) (l : Progress) → g ≤ number → length xs ≡ c → failing (load_checks (with_group g (put xs l)) (said bs)) ≡ failing (list_checks (new xs bs) (room c))
  pub added : (g : ℕ) (xs : List B) (bs : List ℕ) (l : Progress) → advance (with_group g (put xs l)) (said bs) ≡ with_group number (put (xs ++ (element bs ∷ [])) l)
