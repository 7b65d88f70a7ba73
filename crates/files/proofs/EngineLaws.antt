-- Demand 3 of what the engine's calls return: their contracts carry it over from the rules. Assumes nothing.
use Prim.Native.Nat.{ℕ, ◌+◌}
use mathlib.Core.Path.{◌≡◌, refl, ap, ap₂, sym, ◌∙◌, subst}
use mathlib.Core.List.{List, [], ◌∷◌}
use Rattle.std.specs.Prelude.{None, Ok}
use Rattle.std.specs.Result.{result_err}
use native.Mathlib.Omega.{arith}
use lib.Dec.{T}
use Rattle.nets.specs.declared.Pick.{Pick}
use Rattle.nets.specs.declared.Net.{Net}
use Rattle.nets.specs.declared.Stepped.{Stepped}
use Rattle.nets.specs.Nets as M
use Rattle.nets.specs.Nets.{Outcome, refused, done}
use Rattle.nets.specs.Sound.{sound}
use Rattle.nets.specs.Steps.{step}
use Rattle.nets.specs.Accounts.{next_net, after, answers, added_in, taken_in, reported_added, reported_taken}
use Rattle.nets.specs.View.{view}
use Rattle.nets.specs.Answers.{answer_of, added_said, taken_said}
use Rattle.files.specs.declared.Loaded.{Loaded}
use Rattle.files.specs.Loading.{LoadAnswer, rejected, accepted, empty_net, load_bytes, fault_of, is_accepted}
use Rattle.files.specs.FileDemand3.{file_net, FileDemand3}
use Rattle.files.specs.Empty.{blank_net}
use Rattle.files.specs.Engine.{LoadIs}
use Rattle.files.specs.EngineDemand3.{Chain, last_net, added_reported, taken_reported, EveryEngineRun}
use Rattle.files.proofs.FileLaws.{file-loaded, file-demand3}

-- ── the rules, given what was left and reported ──

-- a net and sums that are those of the rules, from a file's net
pub demand3_of :
    (file : List ℕ) → T (is_accepted (load_bytes file)) → (net : M.Net) → net ≡ file_net file →
    (ps : List Pick) (found : M.Net) (a t : ℕ) → found ≡ after net ps → a ≡ reported_added net ps → t ≡ reported_taken net ps →
    FileDemand3 file ps found a t
demand3_of file h net e ps found a t p q r =
    subst (λ (n : M.Net). FileDemand3 file ps n a t) (sym (p ∙ ap (λ (n : M.Net). after n ps) e))
    (subst (λ (k : ℕ). FileDemand3 file ps (after (file_net file) ps) k t) (sym (q ∙ ap (λ (n : M.Net). reported_added n ps) e))
    (subst (λ (k : ℕ). FileDemand3 file ps (after (file_net file) ps) (reported_added (file_net file) ps) k) (sym (r ∙ ap (λ (n : M.Net). reported_taken n ps) e))
    (file-demand3 file h ps)))

-- ── one call after another ──

pub chain_after : (net : Net) (ps : List Pick) (rs : List Stepped) → Chain net ps rs → view (last_net net rs) ≡ after (view net) ps
unfolding after next_net
chain_after net [] [] c = refl
chain_after net [] (r ∷ rs) c = absurd c
chain_after net (p ∷ ps) [] c = absurd c
chain_after net (p ∷ ps) (r ∷ rs) c = chain_after r.net ps rs c.1 ∙ ap (λ (n : M.Net). after n ps) c.0.after

pub said-added : (o : Outcome) → added_said (answer_of o) ≡ added_in o
said-added (refused n vs) = refl
said-added (done a t net) = refl

pub said-taken : (o : Outcome) → taken_said (answer_of o) ≡ taken_in o
said-taken (refused n vs) = refl
said-taken (done a t net) = refl

pub chain_added : (net : Net) (ps : List Pick) (rs : List Stepped) → Chain net ps rs → added_reported rs ≡ reported_added (view net) ps
unfolding answers next_net
chain_added net [] [] c = refl
chain_added net [] (r ∷ rs) c = absurd c
chain_added net (p ∷ ps) [] c = absurd c
chain_added net (p ∷ ps) (r ∷ rs) c =
    ap₂ ◌+◌ (ap added_said c.0.answer ∙ said-added (step (view net) p))
    (chain_added r.net ps rs c.1 ∙ ap (λ (n : M.Net). reported_added n ps) c.0.after)

pub chain_taken : (net : Net) (ps : List Pick) (rs : List Stepped) → Chain net ps rs → taken_reported rs ≡ reported_taken (view net) ps
unfolding answers next_net
chain_taken net [] [] c = refl
chain_taken net [] (r ∷ rs) c = absurd c
chain_taken net (p ∷ ps) [] c = absurd c
chain_taken net (p ∷ ps) (r ∷ rs) c =
    ap₂ ◌+◌ (ap taken_said c.0.answer ∙ said-taken (step (view net) p))
    (chain_taken r.net ps rs c.1 ∙ ap (λ (n : M.Net). reported_taken n ps) c.0.after)

-- ── what the engine accepts, the rules accept ──

no-fault : (x : LoadAnswer) → fault_of x ≡ None → T (is_accepted x)
no-fault (rejected n i) e = let z : ◌≡◌ {A = ℕ} 0 1 = cc in absurd (omega arith)
no-fault (accepted net ps) e = tt

pub verdict-accepts : (file : List ℕ) (l : Loaded) → LoadIs file l → l.verdict ≡ Ok tt → T (is_accepted (load_bytes file))
verdict-accepts file l h e = no-fault (load_bytes file) (sym h.fault ∙ ap result_err e)

-- and what the engine loaded is sound
pub loaded-sound : (file : List ℕ) (l : Loaded) → LoadIs file l → l.verdict ≡ Ok tt → T (sound (view l.net))
loaded-sound file l h e = rw h.net (file-loaded file (verdict-accepts file l h e)).is_sound

pub engine_demand3 : EveryEngineRun
engine_demand3 file l h e ps rs c =
    demand3_of file (verdict-accepts file l h e) (view l.net) h.net ps (view (last_net l.net rs)) (added_reported rs) (taken_reported rs)
    (chain_after l.net ps rs c) (chain_added l.net ps rs c) (chain_taken l.net ps rs c)

-- ── the empty net ──

pub blank_empty : view blank_net ≡ empty_net
unfolding view blank_net
blank_empty = refl
