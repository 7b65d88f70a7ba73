-- `call_moment::threads::put_all` meets its contract: the records of the threads passed, then the bytes that stood there. Assumes nothing.
use Prim.Native.Nat.{ℕ, ◌+◌, ◌-◌, ◌*◌, ◌<◌, ◌≤◌}
use mathlib.Core.Path.{◌≡◌, refl, sym, ap, ◌∙◌}
use mathlib.Core.List.{List, ◌++◌, append-nil}
use native.Mathlib.Omega.{arith}
use lib.Dec.{T}
use lib.ListN.{length, get_or, drop, length-take, length-drop, drop_of_length-le}
use borrow.Rule.Slice.PartMut.{put_mid}
use Rattle.nets.specs.declared.Net.{Net}
use Rattle.nets.specs.Sound.{sound}
use Rattle.nets.specs.View.{no_thread, view}
use Rattle.value_bytes.specs.Bytes.{end_to_end}
use Rattle.value_bytes.proofs.Stores.{part-size, part-written, kept-length, ends-append}
use Rattle.call_rules.specs.Moments.{all_threads}
use Rattle.call_hold.specs.Holdings.{HoldsAre, thread_given}
use Rattle.call_moment.proofs.NetShapes.{nodes_in, nodes-few, nodes-said, saved_for, few-nodes, few-threads, shaped-at, given-at}
use Rattle.call_moment.proofs.ThreadRecordLaws.{records_to, records_at, records-all, records-next, count_next, records-room, records-long}
use borrow.Author.Rules.{rules}
use Rattle.call_moment.proofs.threads.put_all.Goals as goal

-- the thread at a place
module _ (net : Net) (holds : List ℕ) (i at r : ℕ) (ok : T (sound (view net))) (k : HoldsAre (nodes_in net) holds) (h : i < net.threadcount) (l : at ≡ length (records_to net i) * 104) (er : r ≡ length (thread_given holds (saved_for net.saved i) (get_or net.threads i no_thread))) where
  count : r ≡ length (records_at net i)
  count = er ∙ ap length (given-at net ok holds k i h)

  room : (out : List ℕ) → length out ≡ length (records_to net net.threadcount) * 104 → at + r * 104 ≤ length out
  room out e = omega (arith, l, e, count, records-room net i net.threadcount h)

  longer : at + r * 104 ≡ length (records_to net (i + 1)) * 104
  longer = omega (arith, l, count, count_next net i)

  one_more : (o out ys : List ℕ) → out ≡ end_to_end (records_to net i) ++ drop at o → ys ≡ end_to_end (thread_given holds (saved_for net.saved i) (get_or net.threads i no_thread)) →
      put_mid at (at + r * 104 - at) out ys ≡ end_to_end (records_to net (i + 1)) ++ drop (at + r * 104) o
  one_more o out ys e q =
      let p = q ∙ ap end_to_end (given-at net ok holds k i h) in
      rw (e, part-size, part-written (end_to_end (records_to net i)) o ys at (r * 104) (records-long net ok i (omega arith) ∙ sym l), records-next net i, ends-append, p)

module _ (net : Net) where
  ended : (i at : ℕ) (o out : List ℕ) → i ≤ net.threadcount → net.threadcount ≤ i → length o ≡ length (all_threads (view net).nodes (view net).threads) * 104 → at ≡ length (records_to net i) * 104 → out ≡ end_to_end (records_to net i) ++ drop at o → out ≡ end_to_end (all_threads (view net).nodes (view net).threads)
  ended i at o out a b lo l e =
      let q : i ≡ net.threadcount = omega arith in
      let p : records_to net i ≡ all_threads (view net).nodes (view net).threads = ap (records_to net) q ∙ sym (records-all net) in
      let w : length o ≤ at = omega (arith, lo, l, ap length p) in
      e ∙ ap (λ (x : List ℕ). end_to_end (records_to net i) ++ x) (drop_of_length-le o {i = at} w) ∙ append-nil (end_to_end (records_to net i)) ∙ ap end_to_end p

  begins : (o : List ℕ) → length o ≡ length (all_threads (view net).nodes (view net).threads) * 104 → length o ≡ length (records_to net net.threadcount) * 104
  begins o l = l ∙ ap (λ (rs : List (List ℕ)). length rs * 104) (records-all net)

pub all_holds-holds-requires : goal.all_holds-holds-requires
all_holds-holds-requires c =
    let l : length c.args.net.nodes ≡ 128 = search rules in
    nodes-few c.args.net l (few-nodes c.args.net c.requires.0)

pub slice_bounds-nodes-end : goal.slice_bounds-nodes-end
slice_bounds-nodes-end c =
    let l : length c.args.net.nodes ≡ 128 = search rules in
    omega (arith, few-nodes c.args.net c.requires.0, l)

pub slice_bounds-all_holds-end : goal.slice_bounds-all_holds-end
slice_bounds-all_holds-end c =
    let l : length c.args.net.nodes ≡ 128 = search rules in
    omega (arith, length-take c.args.net.nodecount c.args.net.nodes, few-nodes c.args.net c.requires.0, l)

pub loop-i-init : goal.loop-i-init
loop-i-init c =
    let l : length c.args.net.nodes ≡ 128 = search rules in
    record { sound = search rules; holds = nodes-said c.args.net l (few-nodes c.args.net c.requires.0) c.all_holds-holds.result c.all_holds-holds.ensures; few = search few-threads; within = omega arith; full = search begins; low = omega arith; at = refl; filled = refl }

pub count_records-requires : goal.count_records-requires
count_records-requires c = search shaped-at

pub slice_bounds-put_records-end : goal.slice_bounds-put_records-end
slice_bounds-put_records-end c =
    let r : c.loop-i.at + c.count_records.result * 104 ≤ length c.loop-i.out = search room in
    omega (arith, r)

pub put_records-requires : goal.put_records-requires
put_records-requires c =
    let r : c.loop-i.at + c.count_records.result * 104 ≤ length c.loop-i.out = search room in
    (search shaped-at, simp (length-take, length-drop) (omega (arith, r, c.count_records.ensures.0)))

pub loop-i-preserved : goal.loop-i-preserved
loop-i-preserved c =
    record {
      sound = search rules;
      holds = search rules;
      few = search rules;
      within = omega arith;
      full = search kept-length;
      low = omega arith;
      at = search longer;
      filled = search one_more;
    }

pub returns : goal.returns
returns c = search ended
