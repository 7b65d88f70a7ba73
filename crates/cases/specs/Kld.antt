-- The shape of the table KLD: two texts and two Ints.
use Rattle.std.specs.Prelude.{◌≡◌, [], ◌∷◌}
use Rattle.rows.specs.declared.Relation.{Relation}
use Rattle.rows.specs.View.{relation_of, Shaped}

pub record Kld (r : Relation) : Type 0 where
  pub shaped : Shaped r
  pub columns : (relation_of r).columns ≡ 2 ∷ 2 ∷ 1 ∷ 1 ∷ []
