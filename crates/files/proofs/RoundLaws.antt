-- Between two rounds a thread has the bindings that its loop's entry keeps, after every list of picks. Assumes nothing.
use Prim.Native.Nat.{ℕ, zero, suc}
use mathlib.Core.Path.{◌≡◌, refl, ap, sym, subst, ◌∙◌}
use mathlib.Core.Bool.{Bool, true, false, cond}
use mathlib.Core.List.{List, [], ◌∷◌, ◌++◌}
use native.Mathlib.Omega.{arith}
use lib.Dec.{T, eqb, eqb→eq}
use lib.ListN.{get_or}
use Rattle.values.proofs.Bools.{T_of}
use Rattle.nets.specs.declared.Pick.{Pick}
use Rattle.nets.specs.Nets.{code, is_sequential, is_parallel, Kind, Node, Entry, to_run, visiting, Thread, Net, Outcome}
use Rattle.nets.specs.Sound.{no_node}
use Rattle.nets.specs.Scenes.{Scene, scene_of, below, opens}
use Rattle.nets.specs.Steps.{bindings_by, with_bindings, with_stack, keep_thread, restored, go_on, settle, plain, round_bindings, loop_entry, sequential_round, parallel_round, threads_after, net_after, performed, checks, step}
use Rattle.nets.specs.Accounts.{net_left, next_net, after}
use Rattle.nets.proofs.StepLaws.{judged}
use Rattle.files.specs.FileDemand3.{file_net}
use Rattle.files.specs.Rounds.{rounds_ended, EveryRoundEnds}
use Rattle.files.proofs.EngineLaws.{chain_after, verdict-accepts}
use Rattle.files.proofs.FileLaws.{file-starts}

-- ── lists of threads ──

module _ (ds : List Node) where
  pub ended-append : (ts us : List Thread) → rounds_ended ds ts → rounds_ended ds us → rounds_ended ds (ts ++ us)
  ended-append [] us h k = k
  ended-append (t ∷ ts) us h k = (h.0, ended-append ts us h.1 k)

  ended-settle : (i : ℕ) (us ts : List Thread) → rounds_ended ds us → rounds_ended ds ts → rounds_ended ds (settle i us ts)
  ended-settle i us [] h k = tt
  ended-settle zero us (t ∷ ts) h k = ended-append us ts h k.1
  ended-settle (suc i) us (t ∷ ts) h k = (k.0, ended-settle i us ts h k.1)

  -- ── going on ──

  ended-keep : (t : Thread) (s : List Entry) → rounds_ended ds (keep_thread (restored ds t s) s)
  ended-keep t [] = tt
  ended-keep t (to_run i ∷ s) = (tt, tt)
  ended-keep t (visiting i v b ∷ s) = (go (is_sequential (get_or ds i no_node).kind), tt)
    where
      go : (q : Bool) → T q → (cond q (with_bindings t b) t).bindings ≡ b
      go true h = refl
      go false h = absurd h

  ended_on : (n : ℕ) (t : Thread) (s : List Entry) → rounds_ended ds (go_on ds n t s)
  ended_on n t s = go (eqb n 255)
    where
      go : (b : Bool) → rounds_ended ds (cond b (keep_thread (restored ds t s) s) (keep_thread t (to_run n ∷ s)))
      go true = ended-keep t s
      go false = (tt, tt)

-- ── one pick ──

one-kind : (k : Kind) → is_parallel k ≡ true → T (is_sequential k) → ⊥
one-kind k e h = omega (arith, eqb→eq (code k) 26 (T_of _ e), eqb→eq (code k) 25 h)

-- the threads that a done step leaves
threads-ended : (net : Net) (p : Pick) → rounds_ended net.nodes net.threads → rounds_ended net.nodes (threads_after (scene_of net p))
unfolding threads_after scene_of
threads-ended net p h = go (opens c) (is_parallel c.node.kind) refl
  where
    c : Scene
    c = scene_of net p

    go : (o b : Bool) → is_parallel c.node.kind ≡ b → rounds_ended net.nodes (cond o (cond b (parallel_round c) (sequential_round c)) (plain c))
    go true true e =
        ended-append net.nodes (settle c.at (with_stack c.thread (loop_entry c ∷ below c.thread.stack) ∷ []) net.threads)
        (with_stack (with_bindings c.thread (round_bindings c)) (to_run c.node.body ∷ []) ∷ [])
        (ended-settle net.nodes c.at (with_stack c.thread (loop_entry c ∷ below c.thread.stack) ∷ []) net.threads ((λ q. absurd (one-kind c.node.kind e q)), tt) h)
        (tt, tt)
    go true false e =
        ended-settle net.nodes c.at (with_stack (with_bindings c.thread (round_bindings c)) (to_run c.node.body ∷ loop_entry c ∷ below c.thread.stack) ∷ []) net.threads (tt, tt) h
    go false b e =
        ended-settle net.nodes c.at (go_on net.nodes c.node.next (with_bindings c.thread (bindings_by c.node.kind c)) (below c.thread.stack)) net.threads
        (ended_on net.nodes c.node.next (with_bindings c.thread (bindings_by c.node.kind c)) (below c.thread.stack)) h

step-ended : (net : Net) (p : Pick) → rounds_ended net.nodes net.threads → rounds_ended (next_net net p).nodes (next_net net p).threads
unfolding next_net step performed net_after scene_of
step-ended net p h =
    judged (λ (o : Outcome). rounds_ended (net_left net o).nodes (net_left net o).threads) (λ n vs. h) (checks (scene_of net p)) (performed (scene_of net p)) (λ k. threads-ended net p h)

run_ended : (net : Net) (ps : List Pick) → rounds_ended net.nodes net.threads → rounds_ended (after net ps).nodes (after net ps).threads
unfolding after
run_ended net [] h = h
run_ended net (p ∷ ps) h = run_ended (next_net net p) ps (step-ended net p h)

-- ── what the engine returned ──

pub every_round_ends : EveryRoundEnds
every_round_ends file l h e ps rs c =
    subst (λ (n : Net). rounds_ended n.nodes n.threads) (sym (chain_after l.net ps rs c ∙ ap (λ (n : Net). after n ps) h.net))
    (run_ended (file_net file) ps (file-starts file (verdict-accepts file l h e)))
