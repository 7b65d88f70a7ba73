-- All but what the entries hold, and that.
use Rattle.std.proofs.Common.{◌∙◌, map, sym}
use Rattle.values.proofs.Bools.{and-go, and-stop}
use Rattle.nets.specs.View.{node_of, variable_of, stack_of, saved_at, thread_of}
use Rattle.net_parts.specs.SoundParts.{all_saved_right}
use Rattle.net_parts.proofs.HeldLaws.{thread-parts}
use Rattle.net_sound.proofs.saved.whole_ok.Goals as goal

pub entries_right-requires-clause-right : goal.entries_right-requires-clause-right
entries_right-requires-clause-right c = λ bs. sym (c.thread_ok.ensures bs) ∙ c.if-thread_ok.true

pub returns-then-thread_ok : goal.returns-then-thread_ok
returns-then-thread_ok c =
    let ds = map node_of c.args.nodes.now in
    let t = c.args.t.now in
    let bs = saved_at ds c.args.saved.now c.args.i t in
    and-go (c.thread_ok.ensures bs) c.if-thread_ok.true c.entries_right.ensures ∙ thread-parts ds (thread_of bs t)

pub returns-else-thread_ok : goal.returns-else-thread_ok
returns-else-thread_ok c =
    let ds = map node_of c.args.nodes.now in
    let t = c.args.t.now in
    let bs = saved_at ds c.args.saved.now c.args.i t in
    c.if-thread_ok.false ∙ and-stop (c.thread_ok.ensures bs) (all_saved_right ds (map variable_of t.relations) (stack_of bs t.depth t.stack)) c.if-thread_ok.false ∙ thread-parts ds (thread_of bs t)
