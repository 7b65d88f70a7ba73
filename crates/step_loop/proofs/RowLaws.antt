-- A row of an array, seen in the relation that it belongs to.
use Prim.Native.Nat.{ℕ, ◌<◌}
use mathlib.Core.Path.{◌≡◌, sym, ap, ◌∙◌}
use mathlib.Core.List.{[]}
use lib.ListN.{get_or}
use Rattle.values.proofs.Firsts.{firsts_at}
use Rattle.rows.specs.declared.Relation as Code
use Rattle.rows.specs.View.{no_row, values_of, relation_of}

pub row_at : (r : Code.Relation) {n i : ℕ} → n ≡ r.columns → i < r.count → values_of n (get_or r.rows i no_row) ≡ get_or (relation_of r).rows i []
row_at r {n} {i} e h =
    ap (λ (w : ℕ). values_of w (get_or r.rows i no_row)) e ∙ sym (firsts_at (values_of r.columns) no_row r.count r.rows i [] h)
