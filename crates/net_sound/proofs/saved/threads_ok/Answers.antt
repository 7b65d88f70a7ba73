-- The threads that are left decide.
use Rattle.std.proofs.Common.{length, map, rules}
use Rattle.values.proofs.ByPlace.{by_cons, by_end_lem}
use Rattle.values.proofs.Loops.{all_more, all-fails, all-ends}
use Rattle.nets.specs.Sound.{thread_ok}
use Rattle.nets.specs.View.{node_of, thread_at}
use Rattle.net_parts.proofs.Counts.{number_within}
use Rattle.net_sound.proofs.saved.threads_ok.Goals as goal

pub loop-i-init : goal.loop-i-init
loop-i-init c = number_within (search rules) _

pub loop-i-preserved : goal.loop-i-preserved
loop-i-preserved c =
    let a = c.args in
    let ds = map node_of a.nodes.now in
    all_more (thread_ok ds) _ c.loop-i.invariant (by_cons (thread_at ds a.saved.now a.threads.now) (length a.threads.now) c.loop-i.i c.loop-i-test.true) c.whole_ok.ensures c.if-not-whole_ok.false

pub returns-then-not-whole_ok : goal.returns-then-not-whole_ok
returns-then-not-whole_ok c =
    let a = c.args in
    let ds = map node_of a.nodes.now in
    all-fails (thread_ok ds) _ c.loop-i.invariant (by_cons (thread_at ds a.saved.now a.threads.now) (length a.threads.now) c.loop-i.i c.loop-i-test.true) c.whole_ok.ensures c.if-not-whole_ok.true

pub returns : goal.returns
returns c =
    let a = c.args in
    let ds = map node_of a.nodes.now in
    all-ends (thread_ok ds) _ c.loop-i.invariant (by_end_lem (thread_at ds a.saved.now a.threads.now) (length a.threads.now) c.loop-i.i c.loop-i-test.false)
