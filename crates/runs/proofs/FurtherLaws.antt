-- Picks of a run, one after another, are a run. Assumes nothing.
use Rattle.std.specs.Prelude.{Err, Ok}
use Prim.Native.Nat.{ℕ, ◌+◌, ◌*◌, ◌<◌, ◌≤◌, ◌^◌}
use mathlib.Core.Path.{◌≡◌, refl, ap, sym, ◌∙◌, subst}
use mathlib.Core.Bool.{true, false, not}
use mathlib.Core.List.{List, [], ◌∷◌, ◌++◌}
use native.Mathlib.Omega.{arith}
use native.Mathlib.Numerals.{add-one}
use lib.Dec.{T}
use lib.ListN.{length, take, get_or, length-append}
use lib.Seq.{take-suc, take_all, length-take-le}
use Rattle.nets.specs.declared.Pick.{Pick}
use Rattle.nets.specs.declared.Net.{Net}
use Rattle.nets.specs.Answers.{Answer}
use Rattle.nets.specs.declared.Stepped.{Stepped}
use Rattle.nets.specs.Nets as M
use Rattle.nets.specs.Nets.{Outcome, refused, done}
use Rattle.nets.specs.Sound.{sound}
use Rattle.nets.specs.Steps.{step}
use Rattle.nets.specs.Accounts.{net_left, next_net, after, answers, added_in, taken_in, is_done, reported_added, reported_taken}
use Rattle.nets.specs.View.{view}
use Rattle.nets.specs.Answers.{added_said, taken_said, answer_of, said_of, is_refused, StepIs}
use Rattle.values.proofs.Bools.{and_l, is_true}
use Rattle.nets.proofs.AnswerLaws.{refuses_10}
use Rattle.files.proofs.EngineLaws.{said-added, said-taken, demand3_of, verdict-accepts}
use Rattle.value_totals.specs.declared.Total.{Total}
use Rattle.value_totals.specs.Totals.{total_of}
use Rattle.step_left.specs.Carried.{all_refused}
use Rattle.run_state.specs.declared.Ran.{Ran}
use Rattle.run_state.specs.States.{Begun, Tallied}
use Rattle.runs.specs.Runs.{RunIs}
use Rattle.runs.specs.Further.{Ready, Further}
use Rattle.runs.proofs.ListLaws.{after_both, added-both, taken-both, refused-both}

-- ── any number of picks ──

-- no pick leaves all as it is
further-none : (s : Ran) → s.sound ≡ sound (view s.net) → Further s [] s
unfolding after answers
further-none s e = record {
  after = refl;
  added = omega arith;
  taken = omega arith;
  kept = λ h. refl;
  flag = e;
  added_room = omega arith;
  taken_room = omega arith;
}

-- first these, then those
further-both : (s m r : Ran) (ps qs : List Pick) → Further s ps m → Further m qs r → Further s (ps ++ qs) r
further-both s m r ps qs a b = record {
  after = b.after ∙ ap (λ (n : M.Net). after n qs) a.after ∙ sym (after_both (view s.net) ps qs);
  added =
      let here = added-both (view s.net) ps qs in
      let there = ap (λ (n : M.Net). reported_added n qs) a.after in
      omega (arith, a.added, b.added, here, there);
  taken =
      let here = taken-both (view s.net) ps qs in
      let there = ap (λ (n : M.Net). reported_taken n qs) a.after in
      omega (arith, a.taken, b.taken, here, there);
  kept = λ h.
      let both = refused-both (view s.net) ps qs h in
      b.kept (subst (λ (n : M.Net). T (all_refused n qs)) (sym a.after) both.1) ∙ a.kept both.0;
  flag = b.flag;
  added_room = let l = length-append ps qs in omega (arith, a.added_room, b.added_room, l);
  taken_room = let l = length-append ps qs in omega (arith, a.taken_room, b.taken_room, l);
}

-- ── the loop over the slice ──

-- i picks are behind: from the first state they led to this one
pub record SoFar (net : Net) (ys : List Pick) (i : ℕ) (s : Ran) : Type 0 where
  pub first : Ran
  pub begun : Begun net first
  pub upto : i ≤ length ys
  pub behind : Further first (take i ys) s

pub so_far-start : (net : Net) (ys : List Pick) (s : Ran) → Begun net s → SoFar net ys 0 s
so_far-start net ys s b = record {
  first = s;
  begun = b;
  upto = omega arith;
  behind = further-none s (b.flag ∙ ap (λ (n : Net). sound (view n)) (sym b.same));
}

-- one pick more
pub so_far-next : (net : Net) (ys : List Pick) (i : ℕ) (s r : Ran) (d : Pick) → i < length ys → SoFar net ys i s → Further s (get_or ys i d ∷ []) r → SoFar net ys (i + 1) r
so_far-next net ys i s r d l g t = record {
  first = g.first;
  begun = g.begun;
  upto = omega arith;
  behind = rw (add-one, take-suc ys i d) (further-both g.first s r (take i ys) (get_or ys i d ∷ []) g.behind t);
}

-- a list in memory is so short that the sums have room
pub so_far-ready : (net : Net) (ys : List Pick) (i : ℕ) (s : Ran) → length ys * 2 < 2 ^ 63 → SoFar net ys i s → Ready s
so_far-ready net ys i s room g =
    let n = length-take-le i ys g.upto in
    record {
      flag = g.behind.flag;
      added = let z = ap (λ (t : Total). t.high) g.begun.added in omega (arith, g.behind.added_room, z, n, room, g.upto);
      taken = let z = ap (λ (t : Total). t.high) g.begun.taken in omega (arith, g.behind.taken_room, z, n, room, g.upto);
    }

-- what a run gives back, and so demand 3 of it
pub run_made :
    (net : Net) (ys : List Pick) (s : Ran) → view s.net ≡ after (view net) ys → total_of s.added ≡ reported_added (view net) ys → total_of s.taken ≡ reported_taken (view net) ys →
    (T (all_refused (view net) ys) → s.net ≡ net) → s.sound ≡ sound (view s.net) → RunIs net ys s
run_made net ys s left more less kept flag = record {
  after = left;
  added = more;
  taken = less;
  kept = kept;
  flag = flag;
  demand3 = λ file l is e same.
      demand3_of file (verdict-accepts file l is e) (view net) (ap view (sym same) ∙ is.net) ys (view s.net) (total_of s.added) (total_of s.taken) left more less;
}

-- from the first state on, all picks of a list
run_is : (net : Net) (ys : List Pick) (f s : Ran) → Begun net f → Further f ys s → RunIs net ys s
run_is net ys f s b t =
    run_made net ys s (t.after ∙ ap (λ (n : Net). after (view n) ys) b.same)
    (let n = ap (λ (n : Net). reported_added (view n) ys) b.same in let z = ap total_of b.added in omega (arith, t.added, z, n))
    (let n = ap (λ (n : Net). reported_taken (view n) ys) b.same in let z = ap total_of b.taken in omega (arith, t.taken, z, n))
    (λ h. t.kept (subst (λ (n : Net). T (all_refused (view n) ys)) (sym b.same) h) ∙ b.same) t.flag

pub so_far-all : (net : Net) (ys : List Pick) (i : ℕ) (s : Ran) → length ys ≤ i → SoFar net ys i s → RunIs net ys s
so_far-all net ys i s l g = run_is net ys g.first s g.begun (rw (← take_all i ys l) g.behind)

-- ── one pick ──

-- an unsound net refuses it
pub further_unsound : (s : Ran) (p : Pick) → Ready s → s.sound ≡ false → Further s (p ∷ []) s
unfolding after next_net answers
further_unsound s p h e = record {
  after = ap (net_left (view s.net)) (sym no);
  added = let n = ap added_in no in omega (arith, n);
  taken = let n = ap taken_in no in omega (arith, n);
  kept = λ k. refl;
  flag = h.flag;
  added_room = omega arith;
  taken_room = omega arith;
}
  where
    no : step (view s.net) p ≡ refused 10 []
    no = refuses_10 (view s.net) p (sym h.flag ∙ e)

-- an answer is a refusal where the outcome that it tells is not done
refused-said : (a : Answer) (o : Outcome) → said_of a ≡ answer_of o → is_refused a ≡ not (is_done o)
refused-said (Err r) (refused n vs) e = refl
refused-said (Err r) (done a t net) e = cc
refused-said (Ok d) (refused n vs) e = cc
refused-said (Ok d) (done b u net) e = refl

-- a sound one is stepped, and the counts of the answer are added
pub further-sound :
    (s r : Ran) (p : Pick) (o : Stepped) → s.sound ≡ true → StepIs s.net p o → T (sound (view o.net)) → Tallied s o r → Further s (p ∷ []) r
unfolding after next_net answers
further-sound s r p o ok is fine t = record {
  after = ap view t.net ∙ is.after;
  added = let e = ap added_said is.answer ∙ said-added (step (view s.net) p) in omega (arith, t.added, e);
  taken = let e = ap taken_said is.answer ∙ said-taken (step (view s.net) p) in omega (arith, t.taken, e);
  kept = λ h. t.net ∙ is.kept (subst T (sym (refused-said o.answer (step (view s.net) p) is.answer)) (and_l (not (is_done (step (view s.net) p))) true h));
  flag = t.flag ∙ ok ∙ sym (is_true (sound (view o.net)) fine) ∙ ap (λ (m : Net). sound (view m)) (sym t.net);
  added_room = t.added_room;
  taken_room = t.taken_room;
}
