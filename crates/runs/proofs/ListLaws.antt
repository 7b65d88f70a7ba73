-- What the rules leave and report after two lists of picks, one after the other. Assumes nothing.
use Prim.Native.Nat.{ℕ, ◌+◌}
use mathlib.Core.Path.{◌≡◌, refl, ap, sym, ◌∙◌}
use mathlib.Core.Bool.{not}
use mathlib.Core.List.{List, [], ◌∷◌, ◌++◌}
use native.Mathlib.Nat.{add_assoc, zero-add}
use lib.Dec.{T}
use Rattle.values.proofs.Bools.{and_l, and_r, and_in}
use Rattle.nets.specs.declared.Pick.{Pick}
use Rattle.nets.specs.Nets.{Net}
use Rattle.nets.specs.Steps.{step}
use Rattle.nets.specs.Accounts.{next_net, after, answers, added_in, taken_in, is_done, reported_added, reported_taken}
use Rattle.step_left.specs.Carried.{all_refused}

pub after_both : (net : Net) (ps qs : List Pick) → after net (ps ++ qs) ≡ after (after net ps) qs
unfolding after
after_both net [] qs = refl
after_both net (p ∷ ps) qs = after_both (next_net net p) ps qs

pub added-both : (net : Net) (ps qs : List Pick) → reported_added net (ps ++ qs) ≡ reported_added net ps + reported_added (after net ps) qs
unfolding after answers
added-both net [] qs = sym (zero-add _)
added-both net (p ∷ ps) qs = ap (λ (k : ℕ). added_in (step net p) + k) (added-both (next_net net p) ps qs) ∙ sym (add_assoc _ _ _)

pub taken-both : (net : Net) (ps qs : List Pick) → reported_taken net (ps ++ qs) ≡ reported_taken net ps + reported_taken (after net ps) qs
unfolding after answers
taken-both net [] qs = sym (zero-add _)
taken-both net (p ∷ ps) qs = ap (λ (k : ℕ). taken_in (step net p) + k) (taken-both (next_net net p) ps qs) ∙ sym (add_assoc _ _ _)

pub refused-both : (net : Net) (ps qs : List Pick) → T (all_refused net (ps ++ qs)) → T (all_refused net ps) × T (all_refused (after net ps) qs)
unfolding after answers
refused-both net [] qs h = (tt, h)
refused-both net (p ∷ ps) qs h =
    let there = refused-both (next_net net p) ps qs (and_r (not (is_done (step net p))) (all_refused (next_net net p) (ps ++ qs)) h) in
    (and_in (not (is_done (step net p))) (all_refused (next_net net p) ps) (and_l (not (is_done (step net p))) (all_refused (next_net net p) (ps ++ qs)) h) there.0, there.1)
