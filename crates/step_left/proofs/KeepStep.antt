-- What a step gives back: of a sound net a sound one; of a refusal the net that came in. Assumes nothing.
use Rattle.std.specs.Prelude.{Err}
use Prim.Native.Nat.{ℕ}
use mathlib.Core.Path.{◌≡◌, refl, ap, sym, subst, ◌∙◌}
use mathlib.Core.List.{List, []}
use lib.Dec.{T}
use Rattle.nets.specs.declared.Pick.{Pick}
use Rattle.nets.specs.declared.Net.{Net}
use Rattle.nets.specs.declared.Refusal.{Refusal}
use Rattle.nets.specs.declared.Stepped.{Stepped}
use Rattle.nets.specs.Nets as M
use Rattle.nets.specs.Nets.{Outcome, refused, done}
use Rattle.nets.specs.Sound.{sound}
use Rattle.nets.specs.Steps.{step}
use Rattle.nets.specs.Accounts.{net_left, next_net}
use Rattle.nets.specs.View.{view}
use Rattle.nets.specs.Answers.{refusing, number_of, answer_of, said_of, StepIs}
use Rattle.nets.proofs.KeepSound.{step-sound}

pub kept-sound : (net : Net) (p : Pick) (r : Stepped) → T (sound (view net)) → StepIs net p r → T (sound (view r.net))
unfolding next_net
kept-sound net p r ok h = subst (λ (m : M.Net). T (sound m)) (sym h.after) (step-sound (view net) p ok)

refused-left : (net : M.Net) (o : Outcome) (n : ℕ) (vs : List ℕ) → answer_of o ≡ refusing n vs → net_left net o ≡ net
refused-left net (refused m us) n vs e = refl
refused-left net (done a t m) n vs e = cc

module _ (net : Net) (p : Pick) (o : Stepped) {why : Refusal} (says : o.answer ≡ Err why) (same : o.net ≡ net) where
  pub refused-is : answer_of (step (view net) p) ≡ refusing (number_of why) [] → StepIs net p o
  refused-is e =
      record {
        answer = ap said_of says ∙ sym e;
        after = ap view same ∙ sym (refused-left (view net) (step (view net) p) (number_of why) [] e);
        kept = λ h. same;
      }
