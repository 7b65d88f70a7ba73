-- `step_answer::says` meets its contract: arm by arm. Assumes nothing.
use mathlib.Core.Path.{refl, sym, ap, ◌∙◌}
use native.Mathlib.Omega.{arith}
use Rattle.nets.specs.View.{kind_at}
use Rattle.step_effect.specs.EffectContracts.{parts_of}
use Rattle.step_effect.proofs.AnswerForms.{create_form}
use Rattle.step_effect.proofs.ByteLaws.{reads_none, select_byte, step_byte}
use Rattle.step_effect.proofs.JudgeLaws.{delete_said, update-said, aggregate_said, select-said, drop-said}
use Rattle.step_answer.proofs.says.Goals as goal

pub returns-in-16 : goal.returns-in-16
returns-in-16 c =
    let a = c.args in
    c.insert_answer.ensures a.source a.held a.tables

pub returns-in-17 : goal.returns-in-17
returns-in-17 c =
    let a = c.args in
    c.insert_table_answer.ensures a.held a.tables

pub returns-in-18 : goal.returns-in-18
unfolding kind_at
returns-in-18 c =
    let a = c.args in
    let k = c.in-18.is in
    delete_said a.node a.source a.vars c.requires.2 a.content a.held a.tables (c.requires.0.own (reads_none 18 k refl)) k
    c.count_marks.ensures c.checked.result c.checked-in-18.result c.checked.ensures c.checked-in-18.ensures

pub returns-in-21 : goal.returns-in-21
unfolding kind_at
returns-in-21 c =
    let a = c.args in
    let k = c.in-21.is in
    update-said a.node a.source a.vars c.requires.2 a.content a.held a.tables (c.requires.0.own (reads_none 21 k refl)) k
    c.count_marks-n.ensures c.checked-in-21.result c.checked-in-21.ensures

pub returns-in-22 : goal.returns-in-22
returns-in-22 c =
    let a = c.args in
    aggregate_said a.node a.source a.vars c.requires.2 a.content a.held a.tables c.in-22.is
    c.column_fits.ensures c.takes-there.ensures c.checked-in-22.result c.checked-in-22-2.result c.checked-in-22.ensures c.checked-in-22-2.ensures

pub returns-in-23 : goal.returns-in-23
unfolding kind_at
returns-in-23 c =
    let a = c.args in
    c.checked-in-23.ensures ∙ sym (create_form (parts_of a.node a.content a.source a.vars) a.held a.tables (ap kind_at c.in-23.is))

pub returns-in-19 : goal.returns-in-19
returns-in-19 c =
    let a = c.args in
    let x = c.in-19.in_default-own.rest.0.0.0 in
    select-said a.node a.source a.vars c.requires.2 a.content a.held a.tables
    (select_byte a.node.kind x.0.0.1 x.0.1 x.1 c.in-19.if-kind-lt16-own.false c.in-19.if-kind-lt21-own.true)
    c.checked-in-19.result c.checked-in-19-2.result c.checked-in-19.ensures c.checked-in-19-2.ensures

pub returns-in_default : goal.returns-in_default
returns-in_default c =
    let a = c.args in
    let b = step_byte a.node.kind c.requires.1 in
    drop-said a.node a.content a.source a.vars a.held a.tables (omega (arith, b.0, b.1, c.in_default.if-kind-lt16-own.true))

pub returns-in_default-2 : goal.returns-in_default-2
returns-in_default-2 c =
    let a = c.args in
    let x = c.in_default.in_default-own.rest in
    let b = step_byte a.node.kind c.requires.1 in
    drop-said a.node a.content a.source a.vars a.held a.tables (omega (arith, b.0, b.1, c.in_default.if-kind-lt21-own.false, x.1, x.0.1, x.0.0.1))
