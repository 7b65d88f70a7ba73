-- Check 9, by the group of a record's kind. Assumes nothing.
use Prim.Native.Nat.{ℕ, zero, suc, ◌+◌, ◌≤◌, ◌<◌}
use mathlib.Core.Path.{◌≡◌, refl, sym, ap, subst, ◌∙◌}
use mathlib.Core.Bool.{Bool, true, false, cond}
use mathlib.Core.List.{List, [], ◌∷◌}
use Rattle.std.specs.Prelude.{Option, None, Some}
use native.Mathlib.Omega.{arith}
use native.Mathlib.Numerals.{add-one}
use lib.Dec.{T, eqb, ltb}
use lib.ListN.{length, drop, drop_of_length-le}
use Rattle.std.specs.List.{list_all}
use Rattle.values.proofs.Bools.{and_l, and_r}
use Rattle.nets.specs.Sound.{links_ok_as}
use Rattle.nets.specs.View.{kind_at}
use Rattle.net_parts.specs.SoundParts.{links_at}
use Rattle.record_bytes.specs.Bytes.{at}
use Rattle.record_bytes.specs.Decoding.{Record, alias_record, table_record, row_record, node_record, start_record, pick_record, Decoded, good, bad, site_at, node_in, node_form, start_form, in_form, record_in, whole_records, records_in}
use Rattle.record_bytes.specs.RecordKinds.{group_at}
use Rattle.files.specs.Loading.{group_of, link_ok, number_after, bad_link, first_bad_link}
use Rattle.load_walk.specs.Walking.{record_at, is_good, LinkIs}
use Rattle.load_walk.proofs.LeftLaws.{not_good, of_group, good-group}
use Rattle.load_walk.proofs.WalkLaws.{records_cons, records-length}

-- ── one record ──

abbrev link_in : ℕ → ℕ → Decoded → Bool
link_in n j (good x) = link_ok n j x
link_in n j (bad m) = true

judged_link : (n j : ℕ) (form : Bool) (y x : Record) → in_form form y ≡ good x → link_ok n j x ≡ link_ok n j y
judged_link n j true y x e = sym (ap (link_in n j) e)
judged_link n j false y x e = absurd (not_good x 4 e)

module _ (bs : List ℕ) (g : ℕ) (e : g ≡ group_at (at bs 0)) (n j : ℕ) where
  pub node_link : (b : Bool) → g ≡ 4 → b ≡ links_at (kind_at (at bs 0)) n j (at bs 1) (at bs 2) → LinkIs n j bs b
  unfolding links_ok_as node_in
  node_link b h k x q = k ∙ sym (judged_link n j (node_form bs) (node_record (node_in bs)) x (sym (of_group bs g e 4 (node_form bs) (node_record (node_in bs)) h refl) ∙ q))

  pub start_link : (b : Bool) → g ≡ 5 → b ≡ ltb (at bs 2) n → LinkIs n j bs b
  start_link b h k x q =
      k ∙ sym (judged_link n j (start_form bs) (start_record (site_at 1 bs) (at bs 2)) x (sym (of_group bs g e 5 (start_form bs) (start_record (site_at 1 bs) (at bs 2)) h refl) ∙ q))

  pub other_link : (g ≡ 4 → ⊥) → (g ≡ 5 → ⊥) → LinkIs n j bs true
  other_link a b x q = go x (sym (e ∙ sym (good-group bs x q).0))
    where
      go : (x : Record) → group_of x ≡ g → true ≡ link_ok n j x
      go (alias_record y) k = refl
      go (table_record s m cs) k = refl
      go (row_record s m r) k = refl
      go (node_record d) k = absurd (a (sym k))
      go (start_record s i) k = absurd (b (sym k))
      go (pick_record p) k = refl

number_is : (j : ℕ) (x : Record) → number_after j x ≡ cond (eqb (group_of x) 4) (suc j) j
number_is j (alias_record y) = refl
number_is j (table_record s m cs) = refl
number_is j (row_record s m r) = refl
number_is j (node_record d) = refl
number_is j (start_record s i) = refl
number_is j (pick_record p) = refl

-- ── the walk ──

all_drop : {A : Type 0} (p : A → Bool) (l : List A) (i : ℕ) → T (list_all p l) → T (list_all p (drop i l))
all_drop p l zero h = h
all_drop p [] (suc i) h = tt
all_drop p (a ∷ l) (suc i) h = all_drop p l i (and_r (p a) (list_all p l) h)

module _ (file : List ℕ) (h : T (list_all is_good (records_in file))) (n i j : ℕ) (l : i < whole_records file) (o : Option ℕ) (e : o ≡ first_bad_link n i j (drop i (records_in file)))
    (bs : List ℕ) (eb : bs ≡ record_at file i) (b : Bool) (k₀ : LinkIs n j bs b) where
  k : LinkIs n j (record_at file i) b
  k = subst (λ (x : List ℕ). LinkIs n j x b) eb k₀

  here : (x : Record) → record_in (record_at file i) ≡ good x → o ≡ bad_link b i (first_bad_link n (i + 1) (number_after j x) (drop (i + 1) (records_in file)))
  unfolding first_bad_link
  here x q =
      e ∙ ap (first_bad_link n i j) (records_cons file i l ∙ ap (◌∷ drop (i + 1) (records_in file)) q)
      ∙ ap (λ (c : Bool). bad_link c i (first_bad_link n (suc i) (number_after j x) (drop (i + 1) (records_in file)))) (sym (k x q))
      ∙ ap (λ (m : ℕ). bad_link b i (first_bad_link n m (number_after j x) (drop (i + 1) (records_in file)))) (sym (add-one i))

  fine : T (is_good (record_in (record_at file i)))
  fine =
      and_l (is_good (record_in (record_at file i))) (list_all is_good (drop (i + 1) (records_in file)))
      (subst (λ (ys : List Decoded). T (list_all is_good ys)) (records_cons file i l) (all_drop is_good (records_in file) i h))

  pub link_found : b ≡ false → Some i ≡ o
  link_found z = go (record_in (record_at file i)) refl fine
    where
      go : (d : Decoded) → record_in (record_at file i) ≡ d → T (is_good d) → Some i ≡ o
      go (good x) q t = sym (here x q ∙ ap (λ (c : Bool). bad_link c i (first_bad_link n (i + 1) (number_after j x) (drop (i + 1) (records_in file)))) z)
      go (bad m) q t = absurd t

  pub link_passed : (g m : ℕ) → b ≡ true → g ≡ group_at (at bs 0) → m ≡ cond (eqb g 4) (j + 1) j → o ≡ first_bad_link n (i + 1) m (drop (i + 1) (records_in file))
  link_passed g m z p r = go (record_in (record_at file i)) refl fine
    where
      go : (d : Decoded) → record_in (record_at file i) ≡ d → T (is_good d) → o ≡ first_bad_link n (i + 1) m (drop (i + 1) (records_in file))
      go (good x) q t =
          here x q
          ∙ ap (λ (c : Bool). bad_link c i (first_bad_link n (i + 1) (number_after j x) (drop (i + 1) (records_in file)))) z
          ∙ ap (λ (k : ℕ). first_bad_link n (i + 1) k (drop (i + 1) (records_in file)))
          (number_is j x ∙ ap (λ (k : ℕ). cond (eqb k 4) (suc j) j) ((good-group (record_at file i) x q).0 ∙ ap (λ (x : List ℕ). group_at (at x 0)) (sym eb) ∙ sym p) ∙ ap (λ (k : ℕ). cond (eqb g 4) k j) (sym (add-one j)) ∙ sym r)
      go (bad y) q t = absurd t

pub no_link : (file : List ℕ) (n i j : ℕ) (o : Option ℕ) → whole_records file ≤ i → o ≡ first_bad_link n i j (drop i (records_in file)) → None ≡ o
unfolding first_bad_link
no_link file n i j o h e =
    let k : length (records_in file) ≤ i = omega (arith, h, records-length file) in
    sym (e ∙ ap (first_bad_link n i j) (drop_of_length-le (records_in file) k))
