-- `call_moment::threads::count_all` meets its contract: the records of the threads passed. Assumes nothing.
use Prim.Native.Nat.{ℕ, ◌+◌, ◌<◌, ◌≤◌}
use mathlib.Core.Path.{◌≡◌, refl, sym, ap, ◌∙◌}
use mathlib.Core.List.{List}
use native.Mathlib.Omega.{arith}
use lib.Dec.{T}
use lib.ListN.{length, get_or, length-take}
use Rattle.nets.specs.declared.Net.{Net}
use Rattle.nets.specs.Sound.{sound}
use Rattle.nets.specs.View.{no_thread, view}
use Rattle.call_rules.specs.Moments.{all_threads}
use Rattle.call_hold.specs.Holdings.{HoldsAre, thread_given}
use Rattle.call_moment.proofs.NetShapes.{nodes_in, nodes-few, nodes-said, saved_for, few-nodes, few-threads, shaped-at, given-at}
use Rattle.call_moment.proofs.ThreadRecordLaws.{records_to, records-all, count_next}
use borrow.Author.Rules.{rules}
use Rattle.call_moment.proofs.threads.count_all.Goals as goal

one_more : (net : Net) (holds : List ℕ) (i total n : ℕ) → T (sound (view net)) → HoldsAre (nodes_in net) holds → i < net.threadcount → total ≡ length (records_to net i) →
    n ≡ length (thread_given holds (saved_for net.saved i) (get_or net.threads i no_thread)) → total + n ≡ length (records_to net (i + 1))
one_more net holds i total n ok k h e q = omega (arith, q ∙ ap length (given-at net ok holds k i h), count_next net i)

ended : (net : Net) (i total : ℕ) → i ≤ net.threadcount → net.threadcount ≤ i → total ≡ length (records_to net i) → total ≡ length (all_threads (view net).nodes (view net).threads)
ended net i total a b e =
    let q : i ≡ net.threadcount = omega arith in
    e ∙ ap (λ (m : ℕ). length (records_to net m)) q ∙ sym (ap length (records-all net))

pub all_holds-holds-requires : goal.all_holds-holds-requires
all_holds-holds-requires c =
    let l : length c.args.net.nodes ≡ 128 = search rules in
    nodes-few c.args.net l (few-nodes c.args.net c.requires)

pub slice_bounds-nodes-end : goal.slice_bounds-nodes-end
slice_bounds-nodes-end c =
    let l : length c.args.net.nodes ≡ 128 = search rules in
    omega (arith, few-nodes c.args.net c.requires, l)

pub slice_bounds-all_holds-end : goal.slice_bounds-all_holds-end
slice_bounds-all_holds-end c =
    let l : length c.args.net.nodes ≡ 128 = search rules in
    omega (arith, length-take c.args.net.nodecount c.args.net.nodes, few-nodes c.args.net c.requires, l)

pub loop-i-init : goal.loop-i-init
loop-i-init c =
    let l : length c.args.net.nodes ≡ 128 = search rules in
    record { sound = search rules; holds = nodes-said c.args.net l (few-nodes c.args.net c.requires) c.all_holds-holds.result c.all_holds-holds.ensures; few = search few-threads; within = omega arith; counted = refl; low = omega arith }

pub count_records-total-requires : goal.count_records-total-requires
count_records-total-requires c = search shaped-at

pub loop-i-preserved : goal.loop-i-preserved
loop-i-preserved c = record { sound = search rules; holds = search rules; few = search rules; within = omega arith; counted = search one_more; low = omega arith }

pub returns : goal.returns
returns c = (search ended, omega arith)
