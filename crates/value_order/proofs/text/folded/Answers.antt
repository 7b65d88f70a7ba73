-- The four folded bytes are the folded text.
use Rattle.value_order.proofs.Texts.{folded_is}
use Rattle.value_order.proofs.text.folded.Goals as goal

pub returns : goal.returns
returns c = folded_is c.args.t c.upper_byte-a.ensures c.upper_byte-b.ensures c.upper_byte-c.ensures c.upper_byte-d.ensures
