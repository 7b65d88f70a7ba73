-- `call_each::threads::threads_left` meets its contract: too little room, or all threads that the run left and then the bytes that stood there. Assumes nothing.
use Prim.Native.Nat.{ℕ, ◌*◌, ◌-◌, ◌≤◌, ◌<◌}
use mathlib.Core.Path.{◌≡◌, refl, sym, ap, ◌∙◌}
use mathlib.Core.List.{List, ◌++◌, map}
use native.Mathlib.Omega.{arith}
use lib.Dec.{T}
use lib.ListN.{length, take, drop, length-take, length-drop}
use Rattle.nets.specs.declared.Pick.{Pick}
use Rattle.nets.specs.declared.Net as Code
use Rattle.nets.specs.declared.Saved.{Saved}
use Rattle.nets.specs.Nets as M
use Rattle.nets.specs.Nets.{Net}
use Rattle.nets.specs.Sound.{sound}
use Rattle.nets.specs.Accounts.{after}
use Rattle.nets.specs.View.{threads_of, view}
use Rattle.value_bytes.specs.Bytes.{end_to_end}
use Rattle.call_rules.specs.Layouts.{thread_bytes, threads_put}
use Rattle.call_rules.specs.Replies.{if_room}
use Rattle.call_rules.specs.Calls.{Gives}
use Rattle.call_rules.proofs.CallLaws.{needed-is, gives-short, gives-put}
use Rattle.call_moment.proofs.NetShapes.{nodes_in, few-threads}
use Rattle.call_each.proofs.ThreadsLeft.{threads-put, threads-size, in-use-long, in-use-stacked, in-use-same}
use borrow.Author.Rules.{rules}
use Rattle.call_each.proofs.threads.threads_left.Goals as goal

module _ (m : Net) (ps : List Pick) (net : Code.Net) (e : (view net ≡ after m ps) × T (sound (view net))) (lt : length net.threads ≡ 8) (o : List ℕ) where
  abbrev size : ℕ
  size = length (take net.threadcount net.threads) * 24

  sized : size ≡ net.threadcount * 24
  sized = ap (λ (n : ℕ). n * 24) (in-use-long net e.1 lt)

  long : length (threads_put m ps) ≡ size
  long = threads-size m ps net e.0 ∙ sym sized

  short : length o < size → Gives (if_room (threads_put m ps) o) o o 21 size
  short h = gives-short (threads_put m ps) o size long size h (needed-is size (omega (arith, sized, few-threads net e.1)))

  given : (ys : List ℕ) → size ≤ length o → ((ds : List M.Node) (saved : List Saved) → ys ≡ end_to_end (map thread_bytes (threads_of ds saved (length (take net.threadcount net.threads)) (take net.threadcount net.threads)))) →
      Gives (if_room (threads_put m ps) o) o (ys ++ drop (size - 0) o) 0 size
  given ys h q =
      let same = ap (λ (ts : List M.Thread). end_to_end (map thread_bytes ts)) (in-use-same net e.1 lt (nodes_in net) net.saved) in
      gives-put (threads_put m ps) o size long ys h (q (nodes_in net) net.saved ∙ same ∙ sym (threads-put m ps net e.0))

pub slice_bounds-all_threads-end : goal.slice_bounds-all_threads-end
slice_bounds-all_threads-end c =
    let r = c.run_picks-left in
    let l : length r.result.threads ≡ 8 = search rules in
    omega (arith, few-threads r.result r.ensures.1, l)

pub slice_bounds-threads-end : goal.slice_bounds-threads-end
slice_bounds-threads-end c =
    let r = c.run_picks-left in
    let l : length r.result.threads ≡ 8 = search rules in
    omega (arith, length-take r.result.threadcount r.result.threads, few-threads r.result r.ensures.1, l)

pub put_threads-requires : goal.put_threads-requires
put_threads-requires c =
    let r = c.run_picks-left in
    let l : length r.result.threads ≡ 8 = search rules in
    (omega (arith, in-use-long r.result r.ensures.1 l, few-threads r.result r.ensures.1), in-use-stacked r.result r.ensures.1 l, simp (length-take, length-drop) (omega (arith, length-take r.result.threadcount r.result.threads, c.if-out-size.false)))

pub overflow_mul-size : goal.overflow_mul-size
overflow_mul-size c =
    let r = c.run_picks-left in
    let l : length r.result.threads ≡ 8 = search rules in
    omega (arith, in-use-long r.result r.ensures.1 l, few-threads r.result r.ensures.1)

pub returns-then-out-size : goal.returns-then-out-size
returns-then-out-size c =
    let r = c.run_picks-left in
    record { gives = short _ _ r.result r.ensures (search rules) c.args.out.now c.if-out-size.true; refused = (omega arith, refl) }

pub returns : goal.returns
returns c =
    let r = c.run_picks-left in
    record { gives = given _ _ r.result r.ensures (search rules) c.args.out.now _ c.if-out-size.false c.put_threads.ensures; refused = tt }
