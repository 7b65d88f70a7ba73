-- `step_effect::effects::content_after` meets its contract: arm by arm. Assumes nothing.
use mathlib.Core.Path.{refl, sym, ap, subst, ◌∙◌}
use mathlib.Core.List.{map, ◌++◌}
use native.Mathlib.Omega.{arith}
use Rattle.rows.specs.View.{values_of, relation_of}
use Rattle.row_change.specs.ChangeContracts.{Holds}
use Rattle.nets.specs.View.{kind_at}
use Rattle.step_effect.proofs.ByteLaws.{reads_none, puts_byte}
use Rattle.step_effect.proofs.JudgeLaws.{insert-room, insert-content, append-content, append-width, append-room, delete_content, update-content}
use Rattle.step_effect.proofs.effects.content_after.Goals as goal

pub push-requires : goal.push-requires
push-requires c =
    let a = c.args in
    (c.requires.0.content, insert-room a.node a.content a.source a.vars c.in-16.is c.requires.4)

pub append-requires : goal.append-requires
append-requires c =
    let a = c.args in
    let k = c.in-17.is in
    (c.requires.0.content, omega (arith, append-room a.node a.content a.source a.vars k c.requires.4, c.used.ensures.count))

pub returns-in-21 : goal.returns-in-21
unfolding kind_at
returns-in-21 c =
    let a = c.args in
    let k = c.in-21.is in
    update-content a.node a.source a.vars c.requires.2 a.content c.requires.4 (c.requires.0.own (reads_none 21 k refl)) k c.requires.0.source

pub returns-in-16 : goal.returns-in-16
returns-in-16 c =
    let a = c.args in
    let f = c.draft_of in
    insert-content a.node a.content a.source a.vars f.result f.ensures.0 c.in-16.is c.requires.4 c.row_of.result c.row_of.ensures.values c.push.ensures

pub returns-in-17 : goal.returns-in-17
returns-in-17 c =
    let a = c.args in
    let k = c.in-17.is in
    append-content a.node a.content a.source a.vars k
    (subst (λ l. Holds c.append.result (relation_of a.content).columns ((relation_of a.content).rows ++ l))
    (ap (λ n. map (values_of n) c.used.result.now) (sym (append-width a.node a.content a.source a.vars k c.requires.4)) ∙ c.used.ensures.rows) c.append.ensures)

pub returns-in_default : goal.returns-in_default
unfolding kind_at
returns-in_default c =
    let a = c.args in
    let x = c.in_default.in_default-own.rest in
    let k = puts_byte a.node.kind c.requires.3 x.0.0.1 x.0.1 x.1 in
    delete_content a.node a.source a.vars c.requires.2 a.content c.requires.4 (c.requires.0.own (reads_none 18 k refl)) k c.sifted.ensures
