-- A run over a list of picks, and the accounts of rows: what done steps add and take, posted by site, name and row.
use Rattle.std.specs.Prelude.{ℕ, Bool, true, false, ◌&&◌, ◌||◌, List, [], ◌∷◌, ◌++◌, map, eqb}
use Rattle.values.specs.declared.Site.{Site}
use Rattle.values.specs.Lists.{filter, count, sum}
use Rattle.values.specs.Values.{same_site, same_row}
use Rattle.values.specs.Operands.{values_in}
use Rattle.rows.specs.Relations.{Row}
use Rattle.rows.specs.Matching.{selected}
use Rattle.row_change.specs.Changes.{changes, tuple_for}
use Rattle.nets.specs.declared.Pick.{Pick}
use Rattle.nets.specs.Nets.{acts, Kind, acting, other, insert, insert_table, delete, update, create, drop, Net, Outcome, refused, done}
use Rattle.nets.specs.Tables.{table_at, rows_of, columns_of}
use Rattle.nets.specs.Scenes.{Scene, scene_of, vars, template, site, table, source, parts, own_draft}
use Rattle.nets.specs.Steps.{step}

-- ── the run ──

-- the net that an answer leaves: a refused pick changes none
abbrev pub net_left : Net → Outcome → Net
net_left net (refused n vs) = net
net_left net (done a t after) = after

unfoldable pub next_net : Net → Pick → Net
next_net net p = net_left net (step net p)

-- the net after a list of picks; the first gets the given net, each later one the net that the pick before it left
unfoldable pub after : Net → List Pick → Net
after net [] = net
after net (p ∷ ps) = after (next_net net p) ps

unfoldable pub answers : Net → List Pick → List Outcome
answers net [] = []
answers net (p ∷ ps) = step net p ∷ answers (next_net net p) ps

-- the counts in the answers; a refused pick reports none
abbrev pub added_in : Outcome → ℕ
added_in (refused n vs) = 0
added_in (done a t net) = a

abbrev pub taken_in : Outcome → ℕ
taken_in (refused n vs) = 0
taken_in (done a t net) = t

abbrev pub reported_added : Net → List Pick → ℕ
reported_added net ps = sum (map added_in (answers net ps))

abbrev pub reported_taken : Net → List Pick → ℕ
reported_taken net ps = sum (map taken_in (answers net ps))

-- ── postings ──

-- a row counted once, in the account of its site, name and row
pub record Posting : Type 0 where
  pub site : Site
  pub name : ℕ
  pub row : Row

abbrev pub post : Site → ℕ → Row → Posting
post s n r = record { site = s; name = n; row = r }

-- one site, name and row; rows are one row when kinds and bytes agree
abbrev pub same_posting : Posting → Posting → Bool
same_posting p q = same_site p.site q.site && eqb p.name q.name && same_row p.row q.row

-- how often it is posted
abbrev pub times : Posting → List Posting → ℕ
times p l = count (same_posting p) l

-- the rows that an update changes
abbrev pub changed_rows : Scene → List Row
changed_rows c = filter (changes (vars c) c.node.selector c.node.tuple (columns_of (table c))) (rows_of (table c))

-- the rows that a done step adds, with all values as they were before it
unfoldable pub rows_added : Kind → Scene → List Row
rows_added (acting insert) c = values_in (own_draft (parts c)) ∷ []
rows_added (acting insert_table) c = (source c).rows
rows_added (acting delete) c = []
rows_added (acting update) c = map (tuple_for (vars c) (template c) c.node.tuple) (changed_rows c)
rows_added (acting create) c = []
rows_added (acting drop) c = []
rows_added (other o) c = []

-- the rows that it takes
unfoldable pub rows_taken : Kind → Scene → List Row
rows_taken (acting insert) c = []
rows_taken (acting insert_table) c = []
rows_taken (acting delete) c = selected (vars c) c.node.selector (rows_of (table c))
rows_taken (acting update) c = changed_rows c
rows_taken (acting create) c = []
rows_taken (acting drop) c = rows_of (table c)
rows_taken (other o) c = []

abbrev pub is_done : Outcome → Bool
is_done (refused n vs) = false
is_done (done a t net) = true

abbrev pub if_done : Outcome → List Posting → List Posting
if_done (refused n vs) l = []
if_done (done a t net) l = l

-- at the site that L means and the node's name
abbrev pub postings : Scene → List Row → List Posting
postings c rs = map (post (site c) c.node.name) rs

unfoldable pub added_at : Net → Pick → List Posting
added_at net p = if_done (step net p) (postings (scene_of net p) (rows_added (scene_of net p).node.kind (scene_of net p)))

unfoldable pub taken_at : Net → Pick → List Posting
taken_at net p = if_done (step net p) (postings (scene_of net p) (rows_taken (scene_of net p).node.kind (scene_of net p)))

-- all that done steps of a list add, and take
unfoldable pub added : Net → List Pick → List Posting
added net [] = []
added net (p ∷ ps) = added_at net p ++ added (next_net net p) ps

unfoldable pub taken : Net → List Pick → List Posting
taken net [] = []
taken net (p ∷ ps) = taken_at net p ++ taken (next_net net p) ps

-- a done step of the six acted on a site and name, even if it moved no row
unfoldable pub acted_at : Net → Pick → Site → ℕ → Bool
acted_at net p s n =
    is_done (step net p)
    && acts (scene_of net p).node.kind
    && (same_site s (site (scene_of net p)) && eqb n (scene_of net p).node.name)

unfoldable pub acted : Net → List Pick → Site → ℕ → Bool
acted net [] s n = false
acted net (p ∷ ps) s n = acted_at net p s n || acted (next_net net p) ps s n

-- how often a row stands in the table of a site and name; 0 if there is no table
unfoldable pub standing : Net → Site → ℕ → Row → ℕ
standing net s n r = count (same_row r) (rows_of (table_at s n net.tables))
