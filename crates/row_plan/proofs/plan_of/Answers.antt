-- The plan's wants match as the template does, and its terms give what the predicate's operands give.
use Rattle.std.proofs.Common.{◌≤◌, ◌≡◌, ap, ap₂, ◌∙◌, Option, ◌&&◌, List, length, arith, rules}
use Rattle.values.specs.declared.Operand.{Operand}
use Rattle.values.specs.Operands.{Vars, eval, compared}
use Rattle.values.proofs.Firsts.{length-firsts}
use Rattle.rows.specs.declared.Row.{Row}
use Rattle.rows.specs.declared.Selector.{Selector}
use Rattle.rows.specs.declared.Term.{Term}
use Rattle.rows.specs.declared.Want.{Want}
use Rattle.rows.specs.Matching.{agrees, matches, row_vars, hits}
use Rattle.rows.specs.View.{no_field, operands_of, selector_of, values_of}
use Rattle.rows.specs.Plans.{term_of, term_got, as_wanted, wants_met, WantsAre, plan_hits}
use Rattle.rows.proofs.PlanLaws.{term_got_lem}
use Rattle.row_plan.proofs.plan_of.Goals as goal

module _ (e : Vars) (s : Selector) (sixteen : length e ≡ 16) (short : s.template.count ≤ 4) (t : List Operand) (same : t ≡ operands_of s.template) where
  count : length t ≡ s.template.count
  count = ap length same ∙ length-firsts (λ (o : Operand). o) no_field s.template.count s.template.fields

  gives : (row : Row) {x : Term} (o : Operand) → x ≡ term_of e t o →
      term_got x row.cells ≡ eval (row_vars e (operands_of s.template) (values_of s.template.count row)) o
  gives row o q =
      ap (λ x. term_got x row.cells) q
      ∙ term_got_lem e t s.template.count sixteen short count row o
      ∙ ap (λ u. eval (row_vars e u (values_of s.template.count row)) o) same

  plan_is : (ws : List Want) (o : Option (List Want)) {l r : Term} → WantsAre e t ws →
      ((row : Row) → length row.cells ≡ 4 → as_wanted o row.cells ≡ wants_met ws row.cells) →
      l ≡ term_of e t s.left → r ≡ term_of e t s.right → (row : Row) → length row.cells ≡ 4 →
      plan_hits (record { wants = o; test = s.test; left = l; right = r }) row ≡ hits e (selector_of s) (values_of s.template.count row)
  unfolding plan_hits hits
  plan_is ws o are eo el er row n =
      ap₂ ◌&&◌ (eo row n ∙ are.matching (omega (arith, count)) row n ∙ ap₂ (λ u m. matches e u (values_of m row)) same count)
      (ap₂ (λ x y. agrees s.test (compared x y)) (gives row s.left el) (gives row s.right er))

pub returns : goal.returns
returns c =
    plan_is c.args.vars c.args.s.now (search rules) c.requires.count _ c.used-template.ensures _ _ c.wants_of.ensures c.needed.ensures
    c.term_of.ensures c.term_of-2.ensures
