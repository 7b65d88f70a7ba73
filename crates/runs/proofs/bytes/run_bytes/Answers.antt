-- `runs::bytes::run_bytes` meets its contract: on a sound net all picks carried out, and else none, since an unsound one refuses every pick. Assumes nothing.
use Prim.Native.Nat.{ℕ}
use mathlib.Core.Path.{◌≡◌, sym, ap, subst, ◌∙◌}
use mathlib.Core.Bool.{Bool, false, cond}
use native.Mathlib.Omega.{arith}
use lib.ListN.{length}
use Rattle.values.proofs.Bools.{T_of}
use Rattle.nets.specs.declared.Net.{Net}
use Rattle.nets.specs.Sound.{sound}
use Rattle.nets.specs.View.{view}
use Rattle.step_bytes.specs.PickBytes.{picks_in}
use Rattle.runs.specs.Runs.{RunIs}
use Rattle.runs.proofs.BytesLaws.{lent_long, lent_sure, lent_picks, run_carried}
use Rattle.runs.proofs.bytes.run_bytes.Goals as goal

pub slice_bounds-carry_out-end : goal.slice_bounds-carry_out-end
slice_bounds-carry_out-end c = lent_long c.args.picks.now c.count_if-length.ensures.1

pub carry_out-g-requires : goal.carry_out-g-requires
carry_out-g-requires c h =
    let lent = c.args.picks.now in
    let none : c.sound_net-sound.result ≡ false → c.count_if-length.result ≡ 0 = λ e. let k = ap {B = ℕ} (λ (b : Bool). cond b (length lent) 0) e in omega (arith, k, c.count_if-length.ensures.0) in
    T_of (sound (view c.args.net)) (sym c.sound_net-sound.ensures ∙ lent_sure lent c.sound_net-sound.result none h)

pub returns : goal.returns
returns c =
    let g = c.carry_out-g in
    let a = c.args in
    let flag = c.sound_net-sound.result in
    subst (λ (m : Net). RunIs a.net (picks_in a.picks.now) (record { net = m; sound = flag; added = g.result.added; taken = g.result.taken })) (sym c.left_by-next.ensures)
    (run_carried a.net (picks_in a.picks.now) _ _ flag c.sound_net-sound.ensures (lent_picks a.picks.now flag c.count_if-length.ensures.0) g.ensures.0)
