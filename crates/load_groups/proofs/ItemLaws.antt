-- A record of a group, by the checks that the group has: taken, or refused. Assumes nothing.
use Prim.Native.Nat.{ℕ, zero, suc, ◌≤◌, ◌<◌}
use mathlib.Core.Path.{◌≡◌, refl, ap, sym, subst, ◌∙◌}
use mathlib.Core.Bool.{Bool, true, false}
use mathlib.Core.List.{List, [], ◌∷◌, ◌++◌, map}
use lib.Dec.{T, ltb, ltb→lt}
use native.Mathlib.Omega.{arith}
use lib.ListN.{length, get_or, take}
use Rattle.std.proofs.lemmas.List.{length-map, map-append, get_or-take, length-take-le}
use Rattle.std.specs.Prelude.{Option, None, Some, Result, Ok, Err, MatchResult}
use Rattle.nets.specs.Steps.{Check, check}
use Rattle.record_bytes.specs.Bytes.{at}
use Rattle.record_bytes.specs.Decoding.{Record, in_form, record_in}
use Rattle.record_bytes.specs.RecordKinds.{group_at}
use Rattle.record_bytes.proofs.GroupLaws.{by_group, by_group_lem}
use Rattle.files.specs.declared.Fault.{Fault}
use Rattle.files.specs.Loading.{Progress, load_checks, failing, advance}
use Rattle.load_walk.specs.Walking.{fault_by, first_fault, with_group, refused_by, taken_by, Takes, Refuses, Each}
use Rattle.load_walk.proofs.WalkLaws.{Group, list_checks, none-some, none-failing}

-- what holds of a value holds of what follows from it
pub matched : {A E : Type 0} (P Q : A → Type 0) (R : E → Type 0) (r : Result A E) → MatchResult r P R → ((x : A) → P x → Q x) → MatchResult r Q R
matched P Q R (Ok x) h f = f x h
matched P Q R (Err e) h f = h

-- a record in form is judged by the checks after check 4
judged_by : (b : Bool) (x : Record) (l : Progress) (ks : List Check) → failing (load_checks l x) ≡ failing ks → refused_by l (in_form b x) ≡ failing (check 4 b ∷ ks)
judged_by true x l ks e = e
judged_by false x l ks e = refl

taken_in : (i : ℕ) (b : Bool) (x : Record) (l : Progress) (ks : List Check) → None ≡ first_fault i (check 4 b ∷ ks) → taken_by l (in_form b x) ≡ advance l x
taken_in i true x l ks e = refl
taken_in i false x l ks e = absurd (none-some e)

-- a record of the group `k` says `x`, and after check 4 come the checks `ks`
module _ (k i : ℕ) (bs : List ℕ) (kind : group_at (at bs 0) ≡ k) (form : Bool) (x : Record) (same : by_group k bs ≡ in_form form x) (p : Progress → Progress) (ks : List Check)
    (checks : (g : ℕ) (l : Progress) → g ≤ k → failing (load_checks (with_group g (p l)) x) ≡ failing ks) (o : Option Fault) (w : o ≡ first_fault i (check 4 form ∷ ks)) where
  in_group : record_in bs ≡ in_form form x
  in_group = by_group_lem bs ∙ ap (λ (j : ℕ). by_group j bs) kind ∙ same

  judging : (g : ℕ) (l : Progress) → g ≤ k → refused_by (with_group g (p l)) (record_in bs) ≡ failing (check 4 form ∷ ks)
  judging g l h = ap (refused_by (with_group g (p l))) in_group ∙ judged_by form x (with_group g (p l)) ks (checks g l h)

  pub record_takes : (q : Progress → Progress) → ((g : ℕ) (l : Progress) → advance (with_group g (p l)) x ≡ with_group k (q l)) → None ≡ o → Takes k bs p q
  record_takes q added e =
      record {
        passes = λ g l h. judging g l h ∙ none-failing (failing (check 4 form ∷ ks)) i (e ∙ w);
        takes = λ g l. ap (taken_by (with_group g (p l))) in_group ∙ taken_in i form x (with_group g (p l)) ks (e ∙ w) ∙ added g l;
      }

  pub record_refuses : (f : Fault) → Some f ≡ o → Refuses k i bs p f
  record_refuses f e = record { refuses = λ g l h. ap (λ (n : Option ℕ). fault_by n i) (judging g l h) ∙ sym (e ∙ w) }

-- a record that no check refuses passed each
pub all_passed : (i : ℕ) (form new room : Bool) → None ≡ first_fault i (check 4 form ∷ list_checks new room) → T form × T new × T room
all_passed i true true true w = (tt, tt, tt)
all_passed i true true false w = absurd (none-some w)
all_passed i true false room w = absurd (none-some w)
all_passed i false new room w = absurd (none-some w)

-- check 8 left room for one more
pub room_left : (i : ℕ) (form new : Bool) (c m : ℕ) → None ≡ first_fault i (check 4 form ∷ list_checks new (ltb c m)) → c < m
room_left i form new c m w = ltb→lt c m (all_passed i form new (ltb c m) w).2

-- ── a list to which the records of one group add ──

module _ {B : Type 0} (G : Group B) (i : ℕ) (bs : List ℕ) (kind : group_at (at bs 0) ≡ G.number) (list : List B) (form new room : Bool)
    (hf : form ≡ G.form bs) (hn : new ≡ G.new list bs) (hr : room ≡ G.room (length list)) (o : Option Fault) (w : o ≡ first_fault i (check 4 form ∷ list_checks new room)) where
  said : by_group G.number bs ≡ in_form form (G.said bs)
  said = G.same bs ∙ ap (λ (b : Bool). in_form b (G.said bs)) (sym hf)

  checks : (g : ℕ) (l : Progress) → g ≤ G.number → failing (load_checks (with_group g (G.put list l)) (G.said bs)) ≡ failing (list_checks new room)
  checks g l h = rw (hn, hr) (G.checks g (length list) list bs l h refl)

  pub takes : None ≡ o → Takes G.number bs (G.put list) (G.put (list ++ (G.element bs ∷ [])))
  takes = record_takes G.number i bs kind form (G.said bs) said (G.put list) (list_checks new room) checks o w (G.put (list ++ (G.element bs ∷ []))) (λ g l. G.added g list bs l)

  pub refuses : (f : Fault) → Some f ≡ o → Refuses G.number i bs (G.put list) f
  refuses = record_refuses G.number i bs kind form (G.said bs) said (G.put list) (list_checks new room) checks o w

-- each item seen as one of the net
module _ {A B : Type 0} (G : Group B) (seen : A → B) (i : ℕ) (bs : List ℕ) (kind : group_at (at bs 0) ≡ G.number) (before : List A) (form new room : Bool)
    (hf : form ≡ G.form bs) (hn : new ≡ G.new (map seen before) bs) (hr : room ≡ G.room (length before)) (o : Option Fault) (w : o ≡ first_fault i (check 4 form ∷ list_checks new room)) where
  long : room ≡ G.room (length (map seen before))
  long = hr ∙ ap G.room (sym (length-map before seen))

  pub takes_seen : (x : A) → seen x ≡ G.element bs → None ≡ o → Takes G.number bs (G.put (map seen before)) (G.put (map seen (before ++ (x ∷ []))))
  takes_seen x q e =
      subst (λ (xs : List B). Takes G.number bs (G.put (map seen before)) (G.put xs)) (ap (λ (b : B). map seen before ++ (b ∷ [])) (sym q) ∙ sym (map-append seen before (x ∷ [])))
      (takes G i bs kind (map seen before) form new room hf hn long o w e)

  pub refuses_seen : (f : Fault) → Some f ≡ o → Refuses G.number i bs (G.put (map seen before)) f
  refuses_seen = refuses G i bs kind (map seen before) form new room hf hn long o w

-- ── what holds of each ──

pub each_more : {A : Type 0} (P : A → Type 0) (none : A) (xs : List A) (x : A) → Each P none xs → P x → Each P none (xs ++ (x ∷ []))
each_more P none [] x old new zero h = new
each_more P none [] x old new (suc i) h = absurd (omega arith)
each_more P none (y ∷ ys) x old new zero h = old 0 (omega arith)
each_more P none (y ∷ ys) x old new (suc i) h = each_more P none ys x (λ j l. old (suc j) (omega arith)) new i (omega arith)

-- of those in use
pub each_taken : {A : Type 0} (P : A → Type 0) (none : A) (n : ℕ) (xs : List A) → n ≤ length xs → Each P none (take n xs) → (i : ℕ) → i < n → P (get_or xs i none)
each_taken P none n xs h old i l = subst P (get_or-take n xs i none l) (old i (omega (arith, length-take-le n xs h)))
