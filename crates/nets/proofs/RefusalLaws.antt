-- What a refusal says, when a step is done, and that a refused pick moves nothing. Assumes nothing.
use Prim.Native.Nat.{ℕ}
use mathlib.Core.Path.{◌≡◌, refl}
use mathlib.Core.Bool.{Bool, true, false, ◌&&◌}
use mathlib.Core.List.{List, [], ◌∷◌}
use lib.Dec.{T, leb}
use Rattle.std.specs.List.{list_all}
use Rattle.values.proofs.Bools.{and_l, and_r}
use Rattle.nets.specs.declared.Pick.{Pick}
use Rattle.nets.specs.Nets.{Net, Outcome, refused, done}
use Rattle.nets.specs.Sound.{is_empty}
use Rattle.nets.specs.Scenes.{scene_of}
use Rattle.nets.specs.Steps.{performed, Check, verdict, first_refusal, checks, step}
use Rattle.nets.specs.Accounts.{next_net, added_at, taken_at, is_done}

-- a refusal has a number of 10..20 and no values
abbrev pub numbered : Outcome → Bool
numbered (refused n vs) = leb 10 n && leb n 20 && is_empty vs
numbered (done a t net) = true

-- a test that the checks' refusals and the outcome pass
judge_all : (q : Outcome → Bool) (ks : List Check) (o : Outcome) → T (list_all (λ k. q (refused k.number k.values)) ks) → T (q o) → T (q (first_refusal refused ks o))
unfolding first_refusal
judge_all q [] o h g = g
judge_all q (k ∷ ks) o h g = go k.passes (judge_all q ks o (and_r here (list_all (λ j. q (refused j.number j.values)) ks) h) g)
  where
    here : Bool
    here = q (refused k.number k.values)

    go : (b : Bool) → T (q (first_refusal refused ks o)) → T (q (verdict refused b k.number k.values (first_refusal refused ks o)))
    go true ih = ih
    go false ih = and_l here (list_all (λ j. q (refused j.number j.values)) ks) h

judge_done : (ks : List Check) (o : Outcome) → is_done o ≡ true → is_done (first_refusal refused ks o) ≡ list_all (λ k. k.passes) ks
unfolding first_refusal
judge_done [] o e = e
judge_done (k ∷ ks) o e = go k.passes (judge_done ks o e)
  where
    go : (b : Bool) → is_done (first_refusal refused ks o) ≡ list_all (λ j. j.passes) ks → is_done (verdict refused b k.number k.values (first_refusal refused ks o)) ≡ (b && list_all (λ j. j.passes) ks)
    go true ih = ih
    go false ih = refl

module _ (net : Net) (p : Pick) where
  pub step-numbered : T (numbered (step net p))
  unfolding step checks performed
  step-numbered = judge_all numbered (checks (scene_of net p)) (performed (scene_of net p)) tt tt

  -- a step is done exactly when all checks pass
  pub step-done : is_done (step net p) ≡ list_all (λ k. k.passes) (checks (scene_of net p))
  unfolding step performed
  step-done = judge_done (checks (scene_of net p)) (performed (scene_of net p)) refl

  -- a refused pick changes no net and posts nothing
  module _ (n : ℕ) (vs : List ℕ) (e : step net p ≡ refused n vs) where
    pub refused-stays : next_net net p ≡ net
    unfolding next_net
    refused-stays = rw e

    pub refused_adds : added_at net p ≡ []
    unfolding added_at
    refused_adds = rw e

    pub refused_takes : taken_at net p ≡ []
    unfolding taken_at
    refused_takes = rw e
