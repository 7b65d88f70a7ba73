-- A relation has as many rows as its count says.
use Rattle.std.proofs.Common.{◌∙◌, ℕ, sym, ap, ltb}
use Rattle.std.specs.List.{list_all}
use Rattle.nets.specs.View.{marked}
use Rattle.net_parts.proofs.Counts.{rows-count}
use Rattle.net_sound.proofs.threads.has_places.Goals as goal

pub returns-in-Some : goal.returns-in-Some
returns-in-Some c =
    rw c.in-Some.is (c.visit_ok.ensures ∙ ap (λ (n : ℕ). list_all (λ i. ltb i n) (marked 0 c.args.visit.now)) (sym (rows-count c.in-Some.r)))
