-- Picks held as bytes.
use Rattle.std.specs.Prelude.{ℕ, List, [], ◌∷◌}
use Rattle.nets.specs.declared.Pick.{Pick}

-- thread place and row place; a last byte without a second says nothing
abbrev pub picks_in : List ℕ → List Pick
picks_in [] = []
picks_in (a ∷ []) = []
picks_in (a ∷ b ∷ l) = record { thread = a; row = b } ∷ picks_in l
