-- `step_effect::effects::bound_after` meets its contract: the rows marked, or a select's new rows. Assumes nothing.
use mathlib.Core.Path.{sym, ◌∙◌}
use Rattle.values.proofs.Bools.{T_of}
use Rattle.step_effect.proofs.ByteLaws.{binds_byte, select-bytes}
use Rattle.step_effect.proofs.JudgeLaws.{delete_bound, select-bound}
use Rattle.step_effect.proofs.effects.bound_after.Goals as goal

pub returns-then-is_select : goal.returns-then-is_select
returns-then-is_select c =
    let a = c.args in
    let k = sym c.is_select.ensures ∙ c.if-is_select.true in
    let w = select-bytes a.node.kind k in
    select-bound a.node a.source a.vars c.requires.2 a.content c.requires.4 w k (c.requires.0.complete (T_of _ k)) c.sifted.ensures

pub returns : goal.returns
returns c =
    let a = c.args in
    let k = binds_byte a.node.kind c.requires.3 (sym c.is_select.ensures ∙ c.if-is_select.false) in
    delete_bound a.node a.source a.vars c.requires.2 a.content c.requires.4 k c.sifted-2.ensures
