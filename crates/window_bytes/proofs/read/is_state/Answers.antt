-- `window_bytes::read::is_state` meets its contract: each test is one of the definition.
use Rattle.window_bytes.proofs.ReadLaws.{wrong_width, too_many, unused-zero}
use borrow.Author.Rules.{rules}
use Rattle.window_bytes.proofs.read.is_state.Goals as goal

pub returns-then-not-width_ok : goal.returns-then-not-width_ok
returns-then-not-width_ok c = search wrong_width

pub returns-then-count-width : goal.returns-then-count-width
returns-then-count-width c =
    unused-zero c.args.p.now c.number_in-width.result c.width_ok.result c.number_in-width.ensures c.width_ok.ensures c.number_in-count.result c.number_in-count.ensures c.if-not-width_ok.false
    c.zeros.result c.if-count-width.true (search rules) c.zeros.ensures

pub returns-else-count-width : goal.returns-else-count-width
returns-else-count-width c = search (too_many, rules)
