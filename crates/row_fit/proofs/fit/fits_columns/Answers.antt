-- Lists of one length agree where all pairs of the two do.
use Rattle.std.proofs.Common.{◌≡◌, ℕ, refl, ap, ◌∙◌, List, [], ◌∷◌, ◌&&◌, length, rules, tests, arith}
use Rattle.std.specs.List.{list_all, zip}
use Rattle.std.proofs.lemmas.Iterator.{YieldsList-from_slice, YieldsList-from_zip}
use Rattle.std.proofs.lemmas.Iterator.Search.{all_from_yields_List}
use Rattle.values.specs.Operands.{Got}
use Rattle.rows.specs.Fit.{of_kind, fits}
use Rattle.row_fit.proofs.fit.fits_columns.Goals as goal

all_pairs : (ks : List ℕ) (gs : List Got) → length ks ≡ length gs → list_all (λ (x : ℕ × Got). of_kind x.0 x.1) (zip ks gs) ≡ fits ks gs
all_pairs [] [] h = refl
all_pairs [] (g ∷ gs) h = absurd (omega arith)
all_pairs (k ∷ ks) [] h = absurd (omega arith)
all_pairs (k ∷ ks) (g ∷ gs) h = ap (of_kind k g &&◌) (all_pairs ks gs (omega arith))

pub returns-then-kinds-given : goal.returns-then-kinds-given
returns-then-kinds-given c =
    all_from_yields_List (λ (x : ℕ × Got). of_kind x.0 x.1) c.all.new.self _ _ c.all.ensures.ran
    (YieldsList-from_zip (YieldsList-from_slice c.args.kinds.now cc) (YieldsList-from_slice c.args.given.now cc)) (λ x r q k. search (rules, tests))
    ∙ all_pairs c.args.kinds.now c.args.given.now c.if-kinds-given.true
