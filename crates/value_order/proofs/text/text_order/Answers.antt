-- The order of the folded numbers is the order of the folded bytes; equal texts need no folding.
use Rattle.std.proofs.Common.{sym, ap, ap₂, ◌∙◌, Some}
use Rattle.values.specs.Values.{number_order}
use Rattle.value_order.proofs.Texts.{folded_order, text_same}
use Rattle.value_order.proofs.text.text_order.Goals as goal

pub returns-then-t-u : goal.returns-then-t-u
returns-then-t-u c = text_same c.if-t-u.true

pub returns : goal.returns
returns c = ap Some c.cmp.ensures ∙ ap₂ number_order c.folded.ensures c.folded-2.ensures ∙ sym (folded_order _ _)
