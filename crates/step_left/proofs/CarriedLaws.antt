-- Picks one after the other: what one pick more leaves, from what the picks before it left. Assumes nothing.
use Rattle.std.specs.Prelude.{Err, Ok}
use Prim.Native.Nat.{ℕ, ◌+◌, ◌<◌, ◌≤◌, ◌^◌}
use mathlib.Core.Path.{◌≡◌, refl, ap, sym, subst, ◌∙◌}
use mathlib.Core.Bool.{Bool, true, false, not, cond}
use mathlib.Core.List.{List, [], ◌∷◌, ◌++◌}
use native.Mathlib.Omega.{arith}
use native.Mathlib.Nat.{add_assoc}
use native.Mathlib.Numerals.{add-one}
use lib.Dec.{T}
use lib.ListN.{length, take, get_or, length-append}
use lib.Seq.{take-suc, length-take-le}
use Rattle.values.proofs.Bools.{and_l, and_r, and_in}
use Rattle.nets.specs.declared.Pick.{Pick}
use Rattle.nets.specs.declared.Refusal.{Refusal}
use Rattle.nets.specs.declared.Refusal.TheVariants.{Unsound}
use Rattle.nets.specs.Answers.{Answer}
use Rattle.nets.specs.declared.Net.{Net}
use Rattle.nets.specs.Nets as M
use Rattle.nets.specs.Nets.{Outcome, refused, done}
use Rattle.nets.specs.Sound.{sound}
use Rattle.nets.specs.Steps.{step}
use Rattle.nets.specs.Accounts.{net_left, next_net, after, answers, added_in, taken_in, is_done, reported_added, reported_taken}
use Rattle.nets.specs.Answers.{Said, refusing, doing, added_said, taken_said, number_of, answer_of, said_of, is_refused, StepIs}
use Rattle.nets.specs.View.{view}
use Rattle.value_totals.specs.declared.Total.{Total}
use Rattle.value_totals.specs.Totals.{total_of}
use Rattle.step_left.specs.Carried.{all_refused, last_said, Reached, CarriedIs}
use Rattle.nets.proofs.AnswerLaws.{refuses_10}
use Rattle.step_bytes.proofs.AnswerLaws.{no_outcome, answer_at}
use Rattle.step_left.proofs.KeepStep.{kept-sound, refused-is}

-- ── lists of picks, the last one by itself ──

module _ (p : Pick) where
  pub after_last : (net : M.Net) (ps : List Pick) → after net (ps ++ (p ∷ [])) ≡ next_net (after net ps) p
  unfolding after
  after_last net [] = refl
  after_last net (q ∷ ps) = after_last (next_net net q) ps

  added-last : (net : M.Net) (ps : List Pick) → reported_added net (ps ++ (p ∷ [])) ≡ reported_added net ps + added_in (step (after net ps) p)
  unfolding after answers
  added-last net [] = omega arith
  added-last net (q ∷ ps) = ap (λ (k : ℕ). added_in (step net q) + k) (added-last (next_net net q) ps) ∙ sym (add_assoc _ _ _)

  taken-last : (net : M.Net) (ps : List Pick) → reported_taken net (ps ++ (p ∷ [])) ≡ reported_taken net ps + taken_in (step (after net ps) p)
  unfolding after answers
  taken-last net [] = omega arith
  taken-last net (q ∷ ps) = ap (λ (k : ℕ). taken_in (step net q) + k) (taken-last (next_net net q) ps) ∙ sym (add_assoc _ _ _)

  refused-last : (net : M.Net) (ps : List Pick) → T (all_refused net (ps ++ (p ∷ []))) → T (all_refused net ps) × T (not (is_done (step (after net ps) p)))
  unfolding after answers
  refused-last net [] h = (tt, and_l (not (is_done (step net p))) true h)
  refused-last net (q ∷ ps) h =
      let there = refused-last (next_net net q) ps (and_r (not (is_done (step net q))) (all_refused (next_net net q) (ps ++ (p ∷ []))) h) in
      (and_in (not (is_done (step net q))) (all_refused (next_net net q) ps) (and_l (not (is_done (step net q))) (all_refused (next_net net q) (ps ++ (p ∷ []))) h) there.0, there.1)

  said-last : (s : Said) (net : M.Net) (ps : List Pick) → last_said s net (ps ++ (p ∷ [])) ≡ answer_of (step (after net ps) p)
  unfolding after last_said
  said-last s net [] = refl
  said-last s net (q ∷ ps) = said-last (answer_of (step net q)) (next_net net q) ps

-- ── the counts in an answer ──

abbrev pub added_as : Answer → ℕ
added_as (Ok d) = d.added
added_as (Err r) = 0

abbrev pub taken_as : Answer → ℕ
taken_as (Ok d) = d.taken
taken_as (Err r) = 0

added-said : (x : Answer) (o : Outcome) → said_of x ≡ answer_of o → added_in o ≡ added_as x
added-said x o e = outcome o ∙ ap added_said (sym e) ∙ answer x
  where
    outcome : (o : Outcome) → added_in o ≡ added_said (answer_of o)
    outcome (refused n vs) = refl
    outcome (done a t net) = refl

    answer : (x : Answer) → added_said (said_of x) ≡ added_as x
    answer (Ok d) = refl
    answer (Err r) = refl

taken-said : (x : Answer) (o : Outcome) → said_of x ≡ answer_of o → taken_in o ≡ taken_as x
taken-said x o e = outcome o ∙ ap taken_said (sym e) ∙ answer x
  where
    outcome : (o : Outcome) → taken_in o ≡ taken_said (answer_of o)
    outcome (refused n vs) = refl
    outcome (done a t net) = refl

    answer : (x : Answer) → taken_said (said_of x) ≡ taken_as x
    answer (Ok d) = refl
    answer (Err r) = refl

-- an outcome that is not done is answered by a refusal
abbrev is_done_said : Said → Bool
is_done_said (refusing n vs) = false
is_done_said (doing a t) = true

refused-said : (x : Answer) (o : Outcome) → said_of x ≡ answer_of o → T (not (is_done o)) → T (is_refused x)
refused-said x o e h = answer x (subst (λ (b : Bool). T (not b)) (outcome o ∙ ap is_done_said (sym e)) h)
  where
    outcome : (o : Outcome) → is_done o ≡ is_done_said (answer_of o)
    outcome (refused n vs) = refl
    outcome (done a t net) = refl

    answer : (x : Answer) → T (not (is_done_said (said_of x))) → T (is_refused x)
    answer (Ok d) k = absurd k
    answer (Err r) k = tt

-- ── one pick more ──

-- from `g` to `r` by a pick
pub record OnePick (g : Reached) (p : Pick) (r : Reached) : Type 0 where
  pub step : StepIs g.net p (record { answer = r.answer; net = r.net })
  pub added : total_of r.added ≡ total_of g.added + added_as r.answer
  pub taken : total_of r.taken ≡ total_of g.taken + taken_as r.answer
  pub added_room : r.added.high ≤ g.added.high + 1
  pub taken_room : r.taken.high ≤ g.taken.high + 1

-- no pick leaves all as it is
pub carried_none : (net : Net) (z y : Total) → z ≡ record { high = 0; low = 0 } → y ≡ record { high = 0; low = 0 } → CarriedIs net [] (record { net = net; answer = Err Unsound; added = z; taken = y })
unfolding after answers last_said
carried_none net z y e f =
    record {
      left = refl;
      sound = λ h. h;
      kept = λ h. refl;
      last = refl;
      added = ap total_of e;
      taken = ap total_of f;
      added_room = let h = ap (λ (t : Total). t.high) e in omega (arith, h);
      taken_room = let h = ap (λ (t : Total). t.high) f in omega (arith, h);
    }

carried_next : (net : Net) (ps : List Pick) (p : Pick) (g r : Reached) → CarriedIs net ps g → OnePick g p r → CarriedIs net (ps ++ (p ∷ [])) r
unfolding next_net
carried_next net ps p g r h x =
    record {
      left = is.after ∙ ap (λ (m : M.Net). next_net m p) h.left ∙ sym (after_last p (view net) ps);
      sound = λ k. kept-sound g.net p (record { answer = r.answer; net = r.net }) (h.sound k) is;
      kept = λ k.
          let both = refused-last p (view net) ps k in
          is.kept (refused-said r.answer (step (after (view net) ps) p) at both.1) ∙ h.kept both.0;
      last = at ∙ sym (said-last p (refusing 10 []) (view net) ps);
      added =
          let e = added-said r.answer (step (after (view net) ps) p) at in
          let f = added-last p (view net) ps in
          omega (arith, e, f, h.added, x.added);
      taken =
          let e = taken-said r.answer (step (after (view net) ps) p) at in
          let f = taken-last p (view net) ps in
          omega (arith, e, f, h.taken, x.taken);
      added_room = let l = length-append ps (p ∷ []) in omega (arith, l, h.added_room, x.added_room);
      taken_room = let l = length-append ps (p ∷ []) in omega (arith, l, h.taken_room, x.taken_room);
    }
  where
    is : StepIs g.net p (record { answer = r.answer; net = r.net })
    is = x.step

    at : said_of r.answer ≡ answer_of (step (after (view net) ps) p)
    at = is.answer ∙ ap (λ (m : M.Net). answer_of (step m p)) h.left

-- in a list, where i picks are behind
pub carried_again :
    (net : Net) (ps : List Pick) (i : ℕ) (d : Pick) (g r : Reached) → i < length ps → CarriedIs net (take i ps) g → OnePick g (get_or ps i d) r → CarriedIs net (take (i + 1) ps) r
carried_again net ps i d g r l k x =
    subst (λ (qs : List Pick). CarriedIs net qs r) (sym (ap (λ (j : ℕ). take j ps) (add-one i) ∙ take-suc ps i d l)) (carried_next net (take i ps) (get_or ps i d) g r k x)

-- its answer is the one at its place
pub said_here :
    (net : Net) (ps : List Pick) (i : ℕ) (d : Pick) (g : Reached) (x : Answer) → i < length ps → CarriedIs net (take i ps) g → said_of x ≡ answer_of (step (view g.net) (get_or ps i d)) →
    said_of x ≡ answer_of (get_or (answers (view net) ps) i no_outcome)
said_here net ps i d g x l k e = e ∙ ap (λ (m : M.Net). answer_of (step m (get_or ps i d))) k.left ∙ ap answer_of (sym (answer_at (view net) ps i d l))

-- a refused pick
pub pick-refused :
    (g : Reached) (p : Pick) (x : Answer) {why : Refusal} → x ≡ Err why → answer_of (step (view g.net) p) ≡ refusing (number_of why) [] →
    OnePick g p (record { net = g.net; answer = x; added = g.added; taken = g.taken })
pick-refused g p x says e =
    record {
      step = refused-is g.net p _ says refl e;
      added = let z = ap added_as says in omega (arith, z);
      taken = let z = ap taken_as says in omega (arith, z);
      added_room = omega arith;
      taken_room = omega arith;
    }

-- a done pick, with its counts
pub pick-done :
    (g : Reached) (p : Pick) (x : Answer) (n : Net) (u v : Total) {a t : ℕ} → x ≡ Ok (record { added = a; taken = t }) → StepIs g.net p (record { answer = x; net = n }) →
    (total_of u ≡ total_of g.added + a) × (u.high ≤ g.added.high + 1) → (total_of v ≡ total_of g.taken + t) × (v.high ≤ g.taken.high + 1) →
    OnePick g p (record { net = n; answer = x; added = u; taken = v })
pick-done g p x n u v says is h k =
    record {
      step = is;
      added = let z = ap added_as says in omega (arith, z, h.0);
      taken = let z = ap taken_as says in omega (arith, z, k.0);
      added_room = h.1;
      taken_room = k.1;
    }

-- the sums have room for one pick more
pub carried_room :
    (net : Net) (ps : List Pick) (i : ℕ) (g : Reached) → CarriedIs net (take i ps) g → i < length ps → length ps < 2 ^ 63 → (g.added.high < 2 ^ 63) × (g.taken.high < 2 ^ 63)
carried_room net ps i g h l k =
    let z = length-take-le i ps (omega arith) in
    (omega (arith, h.added_room, z), omega (arith, h.taken_room, z))

-- ── a single pick ──

pub carried_step : (net : Net) (p : Pick) (ps : List Pick) (r : Reached) → ps ≡ p ∷ [] → CarriedIs net ps r → StepIs net p (record { answer = r.answer; net = r.net })
unfolding after answers last_said next_net
carried_step net p ps r e h = one (subst (λ (qs : List Pick). CarriedIs net qs r) e h)
  where
    none_done : (x : Answer) (o : Outcome) → said_of x ≡ answer_of o → T (is_refused x) → T (not (is_done o))
    none_done (Ok d) o e k = absurd k
    none_done (Err y) (refused n vs) e k = tt
    none_done (Err y) (done a t net) e k = absurd (subst (λ (s : Said). T (not (is_done_said s))) e tt)

    one : CarriedIs net (p ∷ []) r → StepIs net p (record { answer = r.answer; net = r.net })
    one g =
        record {
          answer = g.last;
          after = g.left;
          kept = λ k. g.kept (and_in (not (is_done (step (view net) p))) true (none_done r.answer (step (view net) p) g.last k) tt);
        }

-- no pick, on a net that is not sound
carried_unsound : (net : Net) (p : Pick) (r : Reached) → sound (view net) ≡ false → CarriedIs net [] r → StepIs net p (record { answer = r.answer; net = r.net })
unfolding after answers last_said
carried_unsound net p r e g =
    record {
      answer = g.last ∙ sym (ap answer_of (refuses_10 (view net) p e));
      after = g.left ∙ sym (ap (net_left (view net)) (refuses_10 (view net) p e));
      kept = λ k. g.kept tt;
    }

-- one pick where the net is sound, and else none
pub carried_single :
    (net : Net) (p : Pick) (ps : List Pick) (r : Reached) (b : Bool) → b ≡ sound (view net) → ps ≡ cond b (p ∷ []) [] → CarriedIs net ps r → StepIs net p (record { answer = r.answer; net = r.net })
carried_single net p ps r true e f g = carried_step net p ps r f g
carried_single net p ps r false e f g = carried_unsound net p r (sym e) (subst (λ (qs : List Pick). CarriedIs net qs r) f g)
