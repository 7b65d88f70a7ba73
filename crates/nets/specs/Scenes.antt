-- What a pick meets: the thread with its top entry, the node, where L leads, the rows that the step speaks of, and the rows that a loop has still to visit.
use Rattle.std.specs.Prelude.{ℕ, Bool, cond, ◌&&◌, List, [], ◌∷◌, eqb, get_or, length, Option, None, Some}
use Rattle.values.specs.declared.Site.{Site}
use Rattle.values.specs.declared.Locality.{Locality}
use Rattle.values.specs.declared.Value.TheVariants.{Int, Text, Loc}
use Rattle.values.specs.Operands.{Got}
use Rattle.values.specs.declared.Operand.{Operand}
use Rattle.values.specs.Lists.{or_else, among, places}
use Rattle.std.specs.List.{find, list_any}
use Rattle.values.specs.Values.{same_site, same_locality}
use Rattle.values.specs.Operands.{Vars, eval}
use Rattle.rows.specs.Relations.{Row, Relation, no_relation}
use Rattle.rows.specs.Matching.{matches, selected}
use Rattle.rows.specs.Fit.{Draft, draft}
use Rattle.row_change.specs.Aggregates.{aggregated}
use Rattle.nets.specs.declared.Pick.{Pick}
use Rattle.nets.specs.declared.Alias.{Alias}
use Rattle.nets.specs.Nets.{Table, reads_relation, is_loop, Node, Entry, to_run, visiting, Thread, Net}
use Rattle.nets.specs.Tables.{table_at, content_of}
use Rattle.nets.specs.Sound.{no_thread, no_node, entry_node}

-- ── the scene of a pick ──

pub record Scene : Type 0 where
  pub net : Net
  -- the pick's thread place and row place
  pub at : ℕ
  pub row : ℕ
  pub thread : Thread
  pub entry : Entry
  pub node : Node

abbrev pub top : List Entry → Entry
top [] = to_run 255
top (x ∷ xs) = x

abbrev pub below : List Entry → List Entry
below [] = []
below (x ∷ xs) = xs

unfoldable pub scene_of : Net → Pick → Scene
scene_of net p =
    let t : Thread = get_or net.threads p.thread no_thread in
    record {
      net = net;
      at = p.thread;
      row = p.row;
      thread = t;
      entry = top t.stack;
      node = get_or net.nodes (entry_node (top t.stack)) no_node;
    }

-- the thread's variables; the node's T
abbrev pub vars : Scene → Vars
vars c = c.thread.bindings.vars

abbrev pub template : Scene → List Operand
template c = c.node.selector.template

-- ── where the step acts ──

abbrev pub alias_for : Site → Locality → Alias → Bool
alias_for s l a = same_site s a.site && same_locality l a.locality

abbrev pub meant : Option Alias → Option Site
meant None = None
meant (Some a) = Some a.means

-- the site that a locality means at a site: 0 is the site itself, others need an alias
abbrev pub site_meant : List Alias → Site → Locality → Option Site
site_meant ls s l = cond (eqb l.0 0) (Some s) (meant (find (alias_for s l) ls))

abbrev pub site_of_got : List Alias → Site → Got → Option Site
site_of_got ls s None = None
site_of_got ls s (Some (Int i)) = None
site_of_got ls s (Some (Text t)) = None
site_of_got ls s (Some (Loc l)) = site_meant ls s l

-- the site that L means at the thread's site, if any
unfoldable pub site_of_l : Scene → Option Site
site_of_l c = site_of_got c.net.aliases c.thread.site (eval (vars c) c.node.locality)

unfoldable pub site : Scene → Site
site c = or_else (record { 0 = 0 }) (site_of_l c)

unfoldable pub table : Scene → Option Table
table c = table_at (site c) c.node.name c.net.tables

-- the table variable read
unfoldable pub relation : Scene → Option Relation
relation c = get_or c.thread.bindings.relations c.node.read None

-- the source of rows: the table variable read, or the table
unfoldable pub source : Scene → Relation
source c = cond (reads_relation c.node.kind) (or_else no_relation (relation c)) (content_of (table c))

-- ── the parts that a step reads ──

-- what most rules read of a scene: the node, the content of its table, the rows that it reads, and the thread's variables. Where the step reads no table
-- variable, source and content are the same
pub record Parts : Type 0 where
  pub node : Node
  pub content : Relation
  pub source : Relation
  pub vars : Vars

abbrev pub parts : Scene → Parts
parts c = record { node = c.node; content = content_of (table c); source = source c; vars = vars c }

-- the rows that match T and satisfy the predicate
abbrev pub hit_rows : Parts → List Row
hit_rows p = selected p.vars p.node.selector p.source.rows

-- what t gives with no row
abbrev pub own_draft : Parts → Draft
own_draft p = draft p.vars p.node.tuple

-- the result of an aggregate
abbrev pub result : Parts → Got
result p = aggregated p.node.function p.node.column (hit_rows p)

-- ── loops ──

abbrev pub still_to_visit : Entry → ℕ → List ℕ
still_to_visit (to_run i) n = places 0 n
still_to_visit (visiting i v b) n = v

-- the places still to visit: all rows where the loop is first met
unfoldable pub visit : Scene → List ℕ
visit c = still_to_visit c.entry (length (source c).rows)

unfoldable pub row_at : Scene → ℕ → Row
row_at c i = get_or (source c).rows i []

unfoldable pub ready : Scene → ℕ → Bool
ready c i = matches (vars c) (template c) (row_at c i)

-- a row still to visit matches T
unfoldable pub any_ready : Scene → Bool
any_ready c = list_any (ready c) (visit c)

-- the pick's row place is a row still to visit that matches T
unfoldable pub pick_ready : Scene → Bool
pick_ready c = among c.row (visit c) && ready c c.row

-- the step opens a round
unfoldable pub opens : Scene → Bool
opens c = is_loop c.node.kind && any_ready c
