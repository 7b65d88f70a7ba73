-- A run from what the picks carried out leave: all of them on a sound net, none on another one. Assumes nothing.
use Prim.Native.Nat.{ℕ, ◌≤◌}
use mathlib.Core.Path.{◌≡◌, refl, ap, sym, subst, ◌∙◌}
use mathlib.Core.Bool.{Bool, true, false, cond}
use mathlib.Core.List.{List, [], ◌∷◌}
use native.Mathlib.Omega.{arith}
use lib.ListN.{length, take}
use lib.Seq.{take_all, length-take-le}
use Rattle.nets.specs.declared.Pick.{Pick}
use Rattle.nets.specs.declared.Net.{Net}
use Rattle.nets.specs.Nets as M
use Rattle.nets.specs.Nets.{refused}
use Rattle.nets.specs.Sound.{sound}
use Rattle.nets.specs.Steps.{step}
use Rattle.nets.specs.Accounts.{net_left, next_net, after, answers, added_in, taken_in, reported_added, reported_taken}
use Rattle.nets.specs.View.{view}
use Rattle.values.proofs.Bools.{T_of, is_true}
use Rattle.nets.proofs.AnswerLaws.{refuses_10}
use Rattle.step_bytes.specs.PickBytes.{picks_in}
use Rattle.step_left.specs.Carried.{Reached, CarriedIs}
use Rattle.runs.specs.Runs.{RunIs}
use Rattle.runs.proofs.FurtherLaws.{run_made}

-- ── how much is lent ──

module _ (bs : List ℕ) {n : ℕ} where
  pub lent_long : n ≤ length bs → n ≡ length (take n bs)
  lent_long h = sym (length-take-le n bs h)

  -- some bytes are lent only if the test said so
  pub lent_sure : (b : Bool) → (b ≡ false → n ≡ 0) → 2 ≤ length (take n bs) → b ≡ true
  lent_sure true none h = refl
  lent_sure false none h = absurd (omega (arith, subst (λ (m : ℕ). 2 ≤ length (take m bs)) (none refl) h))

  pub lent_picks : (b : Bool) → n ≡ cond b (length bs) 0 → picks_in (take n bs) ≡ cond b (picks_in bs) []
  lent_picks true e = ap (λ (m : ℕ). picks_in (take m bs)) e ∙ ap picks_in (take_all (length bs) bs (omega arith))
  lent_picks false e = ap (λ (m : ℕ). picks_in (take m bs)) e

-- ── an unsound net refuses every pick ──

pub unsound_all : (net : M.Net) → sound net ≡ false → (ps : List Pick) → (after net ps ≡ net) × (reported_added net ps ≡ 0) × (reported_taken net ps ≡ 0)
unfolding after answers next_net
unsound_all net e [] = (refl, refl, refl)
unsound_all net e (p ∷ ps) =
    let rest = unsound_all net e ps in (
      ap (λ (m : M.Net). after m ps) same ∙ rest.0,
      (let h = ap added_in no in let k = ap (λ (m : M.Net). reported_added m ps) same in omega (arith, h, k, rest.1)),
      (let h = ap taken_in no in let k = ap (λ (m : M.Net). reported_taken m ps) same in omega (arith, h, k, rest.2)),
    )
  where
    no : step net p ≡ refused 10 []
    no = refuses_10 net p e

    same : next_net net p ≡ net
    same = ap (net_left net) no

-- ── the run ──

pub run_carried :
    (net : Net) (ps qs : List Pick) (g : Reached) (b : Bool) → b ≡ sound (view net) → qs ≡ cond b ps [] → CarriedIs net qs g → RunIs net ps (record { net = g.net; sound = b; added = g.added; taken = g.taken })
unfolding after answers
run_carried net ps qs g true e f h = go (subst (λ (rs : List Pick). CarriedIs net rs g) f h)
  where
    go : CarriedIs net ps g → RunIs net ps (record { net = g.net; sound = true; added = g.added; taken = g.taken })
    go k = run_made net ps _ k.left k.added k.taken k.kept (sym (is_true (sound (view g.net)) (k.sound (T_of (sound (view net)) (sym e)))))
run_carried net ps qs g false e f h = go (subst (λ (rs : List Pick). CarriedIs net rs g) f h)
  where
    go : CarriedIs net [] g → RunIs net ps (record { net = g.net; sound = false; added = g.added; taken = g.taken })
    go k =
        let same : g.net ≡ net = k.kept tt in
        let all = unsound_all (view net) (sym e) ps in
        run_made net ps _ (ap view same ∙ sym all.0) (k.added ∙ sym all.1) (k.taken ∙ sym all.2) (λ h. same) (e ∙ ap (λ (n : Net). sound (view n)) (sym same))
