-- Each cell is what its slot holds; where every slot in use has a value, the cells are those values.
use Rattle.std.proofs.Common.{◌≡◌, ◌∙◌, ℕ, List, map, length, sym, ap, rules, tests, arith}
use Rattle.std.proofs.lemmas.List.{take_all}
use Rattle.values.specs.Lists.{firsts}
use Rattle.values.specs.Operands.{value_in}
use Rattle.values.proofs.Firsts.{take_firsts}
use Rattle.rows.specs.View.{no_slot, draft_of}
use Rattle.rows.proofs.FitLaws.{all_there}
use Rattle.rows.proofs.Maps.{firsts_mapped}
use Rattle.row_fit.proofs.fit.row_of.Goals as goal

-- two arrays of one length, of which all is in use
whole : {A B : Type 0} (h : A → B) (z : A) (n : ℕ) (l : List A) (k : List B) → length l ≡ n → length k ≡ n →
    firsts (λ (b : B). b) (h z) n k ≡ map h (firsts (λ (a : A). a) z n l) → k ≡ map h l
whole h z n l k p q e =
    sym (take_all n k (omega arith)) ∙ take_firsts (h z) n k (omega arith)
    ∙ e ∙ ap (map h) (sym (take_firsts z n l (omega arith)) ∙ take_all n l (omega arith))

pub returns-clause-cells : goal.returns-clause-cells
returns-clause-cells c =
    let is = c.map-cells.ensures.items in
    whole value_in no_slot 4 c.args.d.slots _ (search rules) is.long (firsts_mapped is (search rules) no_slot 4 value_in (λ x y q k. search (rules, tests)))

pub returns-clause-values : goal.returns-clause-values
returns-clause-values c =
    λ got.
    let d = c.args.d in
    firsts_mapped c.map-cells.ensures.items (search rules) no_slot d.count value_in (λ x y q k. search (rules, tests)) ∙ all_there (draft_of d) got
