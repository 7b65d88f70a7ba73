-- `step_loop::ready_places` meets its contract: the flags below `i` say which rows are still to visit and match.
use Prim.Native.Nat.{ℕ}
use mathlib.Core.Path.{◌≡◌, refl, ap, subst, ◌∙◌}
use mathlib.Core.Bool.{Bool, true, false, ◌&&◌}
use mathlib.Core.List.{List}
use native.Mathlib.Omega.{arith}
use borrow.Author.Rules.{rules}
use borrow.Author.Tests.{ltb-true}
use lib.Dec.{ltb}
use lib.ListN.{get_or}
use Rattle.rows.specs.Matching.{matches}
use Rattle.rows.specs.View.{no_row, no_field, operands_of}
use Rattle.rows.specs.Plans.{wants_met, WantsAre}
use Rattle.rows.proofs.Lengths.{cells-long}
use Rattle.step_reads.specs.ReadContracts.{flag_at}
use Rattle.values.specs.declared.Operand.{Operand}
use Rattle.values.proofs.Firsts.{length-firsts}
use Rattle.values.proofs.FlagLaws.{flagged-starts, flagged-more}
use Rattle.step_loop.proofs.RowLaws.{row_at}
use Rattle.step_loop.proofs.ready_places.Goals as goal

-- what a row is found to be, where there is one
settled : (t v : Bool) {f w m : Bool} → f ≡ (t && (v && w)) → (t ≡ true → w ≡ m) → f ≡ (t && v && m)
settled true v e h = e ∙ ap (v &&◌) (h refl)
settled false v e h = e

pub loop-i-init : goal.loop-i-init
loop-i-init c = (flagged-starts _ 16, search rules)

pub loop-i-preserved : goal.loop-i-preserved
loop-i-preserved c =
    (flagged-more _ 16 c.loop-i.invariant.0 (omega (arith, c.loop-i-test.true, c.requires.0.count)) (ap (flag_at c.args.visit c.loop-i.i &&◌) c.row_matches.ensures), search rules)

pub returns : goal.returns
returns c i =
    let r = c.args.source in
    let few = c.requires.0.count in
    let done : c.loop-i.i ≡ r.count = omega (arith, c.loop-i.invariant.1, c.loop-i-test.false) in
    settled (ltb i r.count) (flag_at c.args.visit i) (c.loop-i.invariant.0.flags i ∙ ap (λ (n : ℕ). ltb i n && (flag_at c.args.visit i && wants_met c.wants_of-wants.result (get_or r.rows i no_row).cells)) done)
    (λ e.
    let h = ltb-true i r.count e in
    let t = operands_of c.args.template in
    let long = length-firsts (λ (o : Operand). o) no_field c.args.template.count c.args.template.fields in
    let wants = subst (λ (u : List Operand). WantsAre c.args.vars u c.wants_of-wants.result) c.used.ensures c.wants_of-wants.ensures in
    wants.matching (omega (arith, long, c.requires.1.count)) (get_or r.rows i no_row) (cells-long r _ c.well_formed.1.0 i (omega (arith, h, few)))
    ∙ ap (matches c.args.vars t) (row_at r (long ∙ c.requires.2) h))
