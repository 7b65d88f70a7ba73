-- The threads of the net that a run left: how many, their stacks, and their bytes.
use Prim.Native.Nat.{ℕ, zero, suc, ◌+◌, ◌*◌, ◌<◌, ◌≤◌}
use mathlib.Core.Path.{◌≡◌, refl, sym, ap, ap₂, subst, ◌∙◌}
use mathlib.Core.List.{List, ◌∷◌, map}
use lib.Dec.{T}
use lib.ListN.{length, get_or, take, length-take}
use Rattle.std.proofs.Common.{get_or-take}
use native.Mathlib.Omega.{arith}
use Rattle.values.specs.Lists.{places}
use Rattle.nets.specs.declared.Pick.{Pick}
use Rattle.nets.specs.declared.Net.{Net}
use Rattle.nets.specs.declared.Thread.{Thread}
use Rattle.nets.specs.declared.Saved.{Saved}
use Rattle.step_thread.specs.ThreadContracts.{Stacked}
use Rattle.nets.specs.Nets as M
use Rattle.nets.specs.Sound.{sound}
use Rattle.nets.specs.Accounts.{after}
use Rattle.nets.specs.View.{no_thread, thread_at, threads_of, view}
use Rattle.step_picks.proofs.SceneTies.{thread-stacked}
use Rattle.value_bytes.specs.Bytes.{end_to_end}
use Rattle.call_rules.specs.Layouts.{thread_bytes, threads_put}
use Rattle.call_rules.specs.Openings.{AllStacked}
use Rattle.call_moment.proofs.NetShapes.{nodes_in, threads_of_lem, few-threads}
use Rattle.call_thread.proofs.ThreadLaws.{threads-long}

pub all-stacked : (net : Net) → T (sound (view net)) → AllStacked net.threadcount net.threads
all-stacked net ok i h = thread-stacked net (record { thread = i; row = 0 }) ok h

module _ (m : M.Net) (ps : List Pick) (net : Net) (e : view net ≡ after m ps) where
  pub threads-put : threads_put m ps ≡ end_to_end (map thread_bytes (threads_of (nodes_in net) net.saved net.threadcount net.threads))
  unfolding threads_put
  threads-put = rw (sym e, threads_of_lem net)

  pub threads-size : length (threads_put m ps) ≡ net.threadcount * 24
  threads-size = ap length threads-put ∙ threads-long (nodes_in net) net.saved net.threads net.threadcount

-- ── those in use, as a part of the array ──

module _ (net : Net) (ok : T (sound (view net))) (l : length net.threads ≡ 8) where
  abbrev in_use : List Thread
  in_use = take net.threadcount net.threads

  pub in-use-long : length in_use ≡ net.threadcount
  in-use-long = rw (length-take, l) (omega (arith, few-threads net ok))

  same-at : (i : ℕ) → i < net.threadcount → get_or in_use i no_thread ≡ get_or net.threads i no_thread
  same-at i h = get_or-take net.threadcount net.threads i no_thread h

  pub in-use-stacked : AllStacked (length in_use) in_use
  in-use-stacked i h =
      let b : i < net.threadcount = omega (arith, in-use-long, h) in
      subst Stacked (sym (same-at i b)) (all-stacked net ok i b)

  pub in-use-same : (ds : List M.Node) (saved : List Saved) → threads_of ds saved (length in_use) in_use ≡ threads_of ds saved net.threadcount net.threads
  in-use-same ds saved = rw in-use-long (go 0 net.threadcount (omega arith))
    where
      go : (j n : ℕ) → j + n ≤ net.threadcount → map (thread_at ds saved in_use) (places j n) ≡ map (thread_at ds saved net.threads) (places j n)
      go j zero h = refl
      go j (suc n) h = ap₂ ◌∷◌ (rw (same-at j (omega (arith, h))) refl) (go (suc j) n (omega (arith, h)))
