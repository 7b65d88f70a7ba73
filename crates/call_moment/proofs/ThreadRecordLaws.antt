-- The records of the first threads of a net: how many they are, and one thread more. Assumes nothing.
use Prim.Native.Nat.{ℕ, zero, suc, ◌+◌, ◌-◌, ◌*◌, ◌≤◌, ◌<◌}
use mathlib.Core.Path.{◌≡◌, refl, sym, ap, subst, ◌∙◌}
use mathlib.Core.List.{List, [], ◌∷◌, ◌++◌, map, append-nil, append_assoc}
use native.Mathlib.Omega.{arith}
use lib.Dec.{T}
use lib.ListN.{length, get_or, length-append, get_or-map}
use Rattle.values.proofs.ByPlace.{by_next}
use Rattle.nets.specs.declared.Net.{Net}
use Rattle.nets.specs.Nets as M
use Rattle.nets.specs.Sound.{no_node, sound}
use Rattle.nets.specs.View.{no_thread, thread_at, threads_of, view}
use Rattle.value_bytes.specs.Bytes.{end_to_end}
use Rattle.call_rules.specs.Moments.{thread_records, all_threads}
use Rattle.value_bytes.proofs.Parts.{Sized, sized-length, sized-append}
use Rattle.call_hold.specs.Holdings.{holds_by, HoldsAre}
use Rattle.call_hold.proofs.HoldLaws.{thread-sized}
use Rattle.call_moment.proofs.NetShapes.{nodes_in, nodes_of_lem, threads_of_lem, saved_for, shaped-at, given-at}

threads-append : (ds : List M.Node) (ts us : List M.Thread) → all_threads ds (ts ++ us) ≡ all_threads ds ts ++ all_threads ds us
threads-append ds [] us = refl
threads-append ds (t ∷ ts) us = ap (λ (l : List (List ℕ)). thread_records ds t ++ l) (threads-append ds ts us) ∙ sym (append_assoc (thread_records ds t) (all_threads ds ts) (all_threads ds us))

module _ (net : Net) where
  abbrev at : ℕ → M.Thread
  at i = thread_at (nodes_in net) net.saved net.threads i

  -- those of the first threads
  abbrev pub records_to : ℕ → List (List ℕ)
  records_to n = all_threads (nodes_in net) (threads_of (nodes_in net) net.saved n net.threads)

  -- those of the thread at a place
  abbrev pub records_at : ℕ → List (List ℕ)
  records_at i = thread_records (nodes_in net) (at i)

  pub records-all : all_threads (view net).nodes (view net).threads ≡ records_to net.threadcount
  records-all = rw (nodes_of_lem net, threads_of_lem net)

  pub records-next : (i : ℕ) → records_to (i + 1) ≡ records_to i ++ records_at i
  records-next i =
      ap (all_threads (nodes_in net)) (by_next at i)
      ∙ threads-append (nodes_in net) (threads_of (nodes_in net) net.saved i net.threads) (at i ∷ [])
      ∙ ap (λ (l : List (List ℕ)). records_to i ++ l) (append-nil (records_at i))

  pub count_next : (i : ℕ) → length (records_to (i + 1)) ≡ length (records_to i) + length (records_at i)
  count_next i = ap length (records-next i) ∙ length-append (records_to i) (records_at i)

  counts_grow : (i k : ℕ) → length (records_to i) ≤ length (records_to (i + k))
  counts_grow i zero =
      let e : i + 0 ≡ i = omega arith in
      subst (λ (m : ℕ). length (records_to i) ≤ length (records_to m)) (sym e) (omega arith)
  counts_grow i (suc k) =
      let e : i + k + 1 ≡ i + suc k = omega arith in
      subst (λ (m : ℕ). length (records_to i) ≤ length (records_to m)) e (omega (arith, counts_grow i k, count_next (i + k)))

  -- the first threads leave room for the next one
  pub records-room : (i n : ℕ) → i < n → length (records_to i) + length (records_at i) ≤ length (records_to n)
  records-room i n h =
      let e : i + 1 + (n - (i + 1)) ≡ n = omega arith in
      let g : length (records_to (i + 1)) ≤ length (records_to n) = subst (λ (m : ℕ). length (records_to (i + 1)) ≤ length (records_to m)) e (counts_grow (i + 1) (n - (i + 1))) in
      omega (arith, g, count_next i)

  module _ (ok : T (sound (view net))) where
    -- what is said of each node
    abbrev holds : List ℕ
    holds = map holds_by (nodes_in net)

    said : HoldsAre (nodes_in net) holds
    said = record { at = λ i. get_or-map holds_by (nodes_in net) i no_node }

    pub threads-sized : (i : ℕ) → i ≤ net.threadcount → Sized 104 (records_to i)
    threads-sized zero h = tt
    threads-sized (suc i) h =
        let e : i + 1 ≡ suc i = omega arith in
        let one = subst (Sized 104) (given-at net ok holds said i (omega arith)) (thread-sized holds (saved_for net.saved i) (get_or net.threads i no_thread) (shaped-at net ok holds said i (omega arith))) in
        subst (λ (m : ℕ). Sized 104 (records_to m)) e (subst (Sized 104) (sym (records-next i)) (sized-append 104 (records_to i) (records_at i) (threads-sized i (omega arith)) one))

    pub records-long : (i : ℕ) → i ≤ net.threadcount → length (end_to_end (records_to i)) ≡ length (records_to i) * 104
    records-long i h = sized-length 104 (records_to i) (threads-sized i h)
