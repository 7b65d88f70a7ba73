-- What checks make of an answer, and how a function that goes check by check meets `step`: each return rewrites with the tests that led there. Assumes nothing.
use mathlib.Core.Path.{◌≡◌, refl}
use mathlib.Core.Bool.{Bool, true, false}
use mathlib.Core.List.{List, [], ◌∷◌}
use lib.Dec.{T, ltb}
use lib.ListN.{length}
use Rattle.nets.specs.declared.Pick.{Pick}
use Rattle.nets.specs.Nets.{Net, Outcome, refused}
use Rattle.nets.specs.Sound.{sound}
use Rattle.nets.specs.Scenes.{scene_of, parts}
use Rattle.nets.specs.Steps.{check12, check13, check14, check15, check16, held, check17, check18, check19, check20, performed, Check, verdict, first_refusal, checks, step}
use Rattle.nets.specs.Answers.{Said, refusing, is_doing, answer_of}
use Rattle.nets.proofs.StepLaws.{Passed}

-- ── checks ──

-- what is said of a judged outcome, by the same checks
pub judge_said : (ks : List Check) (o : Outcome) → answer_of (first_refusal refused ks o) ≡ first_refusal refusing ks (answer_of o)
unfolding first_refusal
judge_said [] o = refl
judge_said (k ∷ ks) o = go k.passes (judge_said ks o)
  where
    go : (b : Bool) → answer_of (first_refusal refused ks o) ≡ first_refusal refusing ks (answer_of o) →
        answer_of (verdict refused b k.number k.values (first_refusal refused ks o)) ≡ verdict refusing b k.number k.values (first_refusal refusing ks (answer_of o))
    go true ih = ih
    go false ih = refl

-- a step that is done passed its checks
pub said-passed : (ks : List Check) (s : Said) → T (is_doing (first_refusal refusing ks s)) → Passed ks
unfolding first_refusal
said-passed [] s h = tt
said-passed (k ∷ ks) s h = go k.passes h (said-passed ks s)
  where
    go : (b : Bool) → T (is_doing (verdict refusing b k.number k.values (first_refusal refusing ks s))) → (T (is_doing (first_refusal refusing ks s)) → Passed ks) → T b × Passed ks
    go true h ih = (tt, ih h)
    go false h ih = absurd h

-- ── the step ──

module _ (net : Net) (p : Pick) where
  pub refuses_10 : sound net ≡ false → step net p ≡ refused 10 []
  unfolding step first_refusal checks scene_of
  refuses_10 e = rw e

  module _ (ten : sound net ≡ true) where
    pub refuses_11 : ltb p.thread (length net.threads) ≡ false → step net p ≡ refused 11 []
    unfolding step first_refusal checks scene_of
    refuses_11 e = rw (ten, e)

    module _ (eleven : ltb p.thread (length net.threads) ≡ true) where
      pub refuses_12 : check12 (scene_of net p) ≡ false → step net p ≡ refused 12 []
      unfolding step first_refusal checks scene_of
      refuses_12 e = rw (ten, eleven, e)

      module _ (twelve : check12 (scene_of net p) ≡ true) where
        pub refuses_13 : check13 (scene_of net p) ≡ false → step net p ≡ refused 13 []
        unfolding step first_refusal checks scene_of
        refuses_13 e = rw (ten, eleven, twelve, e)

        module _ (thirteen : check13 (scene_of net p) ≡ true) where
          pub refuses_14 : check14 (scene_of net p) ≡ false → step net p ≡ refused 14 []
          unfolding step first_refusal checks scene_of
          refuses_14 e = rw (ten, eleven, twelve, thirteen, e)

          module _ (fourteen : check14 (scene_of net p) ≡ true) where
            pub refuses_15 : check15 (scene_of net p) ≡ false → step net p ≡ refused 15 []
            unfolding step first_refusal checks scene_of
            refuses_15 e = rw (ten, eleven, twelve, thirteen, fourteen, e)

            module _ (fifteen : check15 (scene_of net p) ≡ true) where
              pub refuses_16 : check16 (parts (scene_of net p)) ≡ false → step net p ≡ refused 16 []
              unfolding step first_refusal checks scene_of
              refuses_16 e = rw (ten, eleven, twelve, thirteen, fourteen, fifteen, e)

              module _ (sixteen : check16 (parts (scene_of net p)) ≡ true) where
                pub refuses_17 : check17 (parts (scene_of net p)) (held (scene_of net p)) ≡ false → step net p ≡ refused 17 []
                unfolding step first_refusal checks scene_of
                refuses_17 e = rw (ten, eleven, twelve, thirteen, fourteen, fifteen, sixteen, e)

                module _ (seventeen : check17 (parts (scene_of net p)) (held (scene_of net p)) ≡ true) where
                  pub refuses_18 : check18 (parts (scene_of net p)) ≡ false → step net p ≡ refused 18 []
                  unfolding step first_refusal checks scene_of
                  refuses_18 e = rw (ten, eleven, twelve, thirteen, fourteen, fifteen, sixteen, seventeen, e)

                  module _ (eighteen : check18 (parts (scene_of net p)) ≡ true) where
                    pub refuses_19 : check19 (scene_of net p) ≡ false → step net p ≡ refused 19 []
                    unfolding step first_refusal checks scene_of
                    refuses_19 e = rw (ten, eleven, twelve, thirteen, fourteen, fifteen, sixteen, seventeen, eighteen, e)

                    module _ (nineteen : check19 (scene_of net p) ≡ true) where
                      pub refuses_20 : check20 (scene_of net p) ≡ false → step net p ≡ refused 20 []
                      unfolding step first_refusal checks scene_of
                      refuses_20 e = rw (ten, eleven, twelve, thirteen, fourteen, fifteen, sixteen, seventeen, eighteen, nineteen, e)

                      pub performs-all : check20 (scene_of net p) ≡ true → step net p ≡ performed (scene_of net p)
                      unfolding step first_refusal checks scene_of
                      performs-all twenty = rw (ten, eleven, twelve, thirteen, fourteen, fifteen, sixteen, seventeen, eighteen, nineteen, twenty)
