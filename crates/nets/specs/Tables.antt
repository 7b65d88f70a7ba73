-- Tables by site and name.
use Rattle.std.specs.Prelude.{ℕ, Bool, true, false, not, ◌&&◌, List, [], ◌∷◌, eqb, Option, None, Some, is_some}
use Rattle.values.specs.declared.Site.{Site}
use Rattle.std.specs.List.{find}
use Rattle.values.specs.Values.{same_site}
use Rattle.rows.specs.Relations.{Row, Columns, Relation, no_relation}
use Rattle.rows.specs.Fit.{relation_fits}
use Rattle.nets.specs.Nets.{Table}

-- names are compared exactly
abbrev pub is_at : Site → ℕ → Table → Bool
is_at s n t = same_site s t.site && eqb n t.name

abbrev pub table_at : Site → ℕ → List Table → Option Table
table_at s n ts = find (is_at s n) ts

abbrev pub content_of : Option Table → Relation
content_of None = no_relation
content_of (Some t) = t.content

abbrev pub rows_of : Option Table → List Row
rows_of o = (content_of o).rows

abbrev pub columns_of : Option Table → Columns
columns_of o = (content_of o).columns

-- no site has two tables of one name
unfoldable pub distinct : List Table → Bool
distinct [] = true
distinct (t ∷ ts) = not (is_some (table_at t.site t.name ts)) && distinct ts

abbrev pub rows_fit : Table → Bool
rows_fit t = relation_fits t.content

abbrev pub with_rows : List Row → Table → Table
with_rows rs t = record { site = t.site; name = t.name; content = record { columns = t.content.columns; rows = rs } }

-- the rows of the first table at a site and name give way to others
abbrev pub changed : Bool → (List Row → List Row) → Table → List Table → List Table → List Table
changed true g t ts us = with_rows (g t.content.rows) t ∷ ts
changed false g t ts us = t ∷ us

unfoldable pub change : Site → ℕ → (List Row → List Row) → List Table → List Table
change s n g [] = []
change s n g (t ∷ ts) = changed (is_at s n t) g t ts (change s n g ts)

-- the first table at a site and name goes, and the list closes up
abbrev pub removed : Bool → Table → List Table → List Table → List Table
removed true t ts us = ts
removed false t ts us = t ∷ us

unfoldable pub remove : Site → ℕ → List Table → List Table
remove s n [] = []
remove s n (t ∷ ts) = removed (is_at s n t) t ts (remove s n ts)
