-- `step_effect::effects::vars_after` meets its contract: only an aggregate binds a variable. Assumes nothing.
use mathlib.Core.Path.{sym, ◌∙◌}
use Rattle.nets.specs.View.{kind_at}
use Rattle.step_effect.specs.EffectContracts.{parts_of}
use Rattle.step_effect.proofs.ByteLaws.{aggregate_byte, other-vars}
use Rattle.step_effect.proofs.JudgeLaws.{aggregate_vars}
use Rattle.step_effect.proofs.effects.vars_after.Goals as goal

pub returns-then-is_aggregate : goal.returns-then-is_aggregate
returns-then-is_aggregate c =
    let a = c.args in
    let k = aggregate_byte a.node.kind (sym c.is_aggregate.ensures ∙ c.if-is_aggregate.true) in
    aggregate_vars a.node a.source a.vars c.requires.2 a.content c.requires.3 k c.bind_to.result c.bind_to.ensures

pub returns : goal.returns
returns c =
    let a = c.args in
    other-vars (kind_at a.node.kind) (sym c.is_aggregate.ensures ∙ c.if-is_aggregate.false) (parts_of a.node a.content a.source a.vars)
