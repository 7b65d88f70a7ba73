-- The table of proved examples, (c) to (j): one list of tests over the definitions, and one proof, by computation.
use Rattle.std.specs.Prelude.{ℕ, Bool, false, not, ◌&&◌, List, [], ◌∷◌, T, eqb, pos, get_or, replicate, Option, None, Some}
use Rattle.values.specs.declared.Site.{Site}
use Rattle.values.specs.declared.Value.TheVariants.{Int, Text}
use Rattle.values.specs.Operands.{Got}
use Rattle.values.specs.declared.Operand.{Operand}
use Rattle.values.specs.declared.Operand.TheVariants.{Absent, ConstInt, ConstText, ConstLoc, Var, Plus, Formal}
use Rattle.values.specs.Lists.{agree, or_else}
use Rattle.std.specs.List.{list_all}
use Rattle.values.specs.Values.{same_row, text_order}
use Rattle.values.specs.Operands.{values_in, bind}
use Rattle.rows.specs.declared.Test.TheVariants.{Always, Unequal}
use Rattle.rows.specs.declared.Function.{Function}
use Rattle.rows.specs.declared.Function.TheVariants.{Unused, Sum, Least}
use Rattle.rows.specs.Relations.{Row, Columns, Relation, no_relation}
use Rattle.rows.specs.Matching.{matches, satisfies, hits}
use Rattle.rows.specs.Fit.{draft}
use Rattle.row_change.specs.Changes.{tuple_for, changes, selected_columns}
use Rattle.row_change.specs.Aggregates.{aggregated}
use Rattle.nets.specs.declared.Pick.{Pick}
use Rattle.nets.specs.Nets.{Table, Kind, acting, other, insert, insert_table, delete, update, select, aggregate, Node, to_run, Bindings, Net, Outcome, refused, done}
use Rattle.nets.specs.Tables.{table_at, distinct, change}
use Rattle.nets.specs.Sound.{no_thread, fields_ok_as, links_ok_as, sound}
use Rattle.nets.specs.Scenes.{scene_of, site_of_l, site, table, relation, source, any_ready, opens}
use Rattle.nets.specs.Steps.{reads_ok, check12, check13, check14, check15, check16, check17, check18, check19, check20, rows_by, tables_by, added_by, taken_by, bound_by, vars_by, bindings_by, threads_after, net_after, performed, first_refusal, checks, step}
use Rattle.nets.specs.Accounts.{next_net}

-- ── nets of one table, CARD at site 0, and one thread there ──

abbrev site0 : Site
site0 = record { 0 = 0 }

abbrev pub CARD : ℕ
CARD = 0x43415244

-- a node on the thread's own CARD, with T, t and T'; table variable 0 is read and bound
abbrev node : Kind → Function → List Operand → List Operand → Operand → ℕ → Node
node k f t u r next =
    record {
      kind = k;
      next = next;
      body = 0;
      name = CARD;
      bound = 0;
      read = 0;
      function = f;
      column = 0;
      columns = [];
      locality = ConstLoc (record { 0 = 0 });
      selector = record { template = t; test = Always; left = Absent; right = Absent };
      tuple = u;
      result = r;
    }

-- CARD's columns and rows, what variable 0 and table variable 0 hold, and a node, which stands twice, so that the thread goes on
abbrev net_of : Columns → List Row → Got → Option Relation → (ℕ → Node) → Net
net_of cs rs x r d =
    record {
      aliases = [];
      tables = record { site = site0; name = CARD; content = record { columns = cs; rows = rs } } ∷ [];
      nodes = d 1 ∷ d 255 ∷ [];
      threads = record { site = site0; bindings = record { vars = x ∷ replicate 15 None; relations = r ∷ None ∷ [] }; stack = to_run 0 ∷ [] } ∷ [];
    }

-- ── what one pick does to them ──

abbrev pick : Pick
pick = record { thread = 0; row = 0 }

abbrev pub is_refused : ℕ → Outcome → Bool
is_refused k (refused n vs) = eqb k n
is_refused k (done a t net) = false

abbrev pub is_done_with : ℕ → ℕ → Outcome → Bool
is_done_with a t (refused n vs) = false
is_done_with a t (done b u net) = eqb a b && eqb t u

-- the number refused with; rows added and taken
abbrev refuses : ℕ → Net → Bool
refuses n net = is_refused n (step net pick)

abbrev does : ℕ → ℕ → Net → Bool
does a t net = is_done_with a t (step net pick)

abbrev bindings : Net → Bindings
bindings net = (get_or (next_net net pick).threads 0 no_thread).bindings

abbrev stands : List Row → Option Table → Bool
stands rs None = false
stands rs (Some t) = agree same_row rs t.content.rows

-- CARD stands with these rows after it, in order; what variable 0 holds, and the rows of table variable 0
abbrev leaves : List Row → Net → Bool
leaves rs net = stands rs (table_at site0 CARD (next_net net pick).tables)

abbrev binds : Row → Net → Bool
binds r net = same_row r (values_in (get_or (bindings net).vars 0 None ∷ []))

abbrev holds : List Row → Net → Bool
holds rs net = agree same_row rs (or_else no_relation (get_or (bindings net).relations 0 None)).rows

-- ── the nets of the table ──

abbrev int : ℕ → Row
int n = Int (pos n) ∷ []

-- one column of Ints: t is x0 + 1; an aggregate of all rows is bound to x0
abbrev updating : List Row → Net
updating rs = net_of (1 ∷ []) rs None None (node (acting update) Unused (Formal 0 ∷ []) (Plus 0 (pos 1) ∷ []) Absent)

abbrev inserting : ℕ → List Row → Net
inserting n rs = net_of (1 ∷ []) rs (Some (Int (pos n))) None (node (acting insert) Unused [] (Plus 0 (pos 1) ∷ []) Absent)

abbrev aggregating : Function → List Row → Net
aggregating f rs = net_of (1 ∷ []) rs None None (node (other aggregate) f (Formal 1 ∷ []) [] (Formal 0))

abbrev TEAL : ℕ
TEAL = 0x5445414c

abbrev teal : ℕ
teal = 0x7465616c

abbrev deleting : ℕ → ℕ → Net
deleting t row = net_of (2 ∷ []) ((Text row ∷ []) ∷ []) None None (node (acting delete) Unused (ConstText t ∷ []) [] Absent)

abbrev selecting : List Row → Net
selecting rs = net_of (1 ∷ []) rs None None (node (other select) Unused (Formal 0 ∷ []) (Var 0 ∷ []) Absent)

abbrev doubling : List Row → Net
doubling rs = net_of (1 ∷ []) rs None (Some (record { columns = 1 ∷ []; rows = rs })) (node (acting insert_table) Unused [] [] Absent)

-- ── the table ──

abbrev pub examples : List Bool
examples =
    -- (c) update to x + 1 where x is 2147483647: done 0 0, the row unchanged
    does 0 0 (updating (int 2147483647 ∷ []))
    ∷ leaves (int 2147483647 ∷ []) (updating (int 2147483647 ∷ []))
    -- (d) inserting that sum: 16
    ∷ refuses 16 (inserting 2147483647 [])
    -- (e) sum of 2, 5, 1, 2, 2 is 12; of no rows 0; least of none 18
    ∷ does 0 0 (aggregating Sum (int 2 ∷ int 5 ∷ int 1 ∷ int 2 ∷ int 2 ∷ []))
    ∷ binds (int 12) (aggregating Sum (int 2 ∷ int 5 ∷ int 1 ∷ int 2 ∷ int 2 ∷ []))
    ∷ binds (int 0) (aggregating Sum [])
    ∷ refuses 18 (aggregating Least [])
    -- (f) insert into 15 rows: done 1 0; into 16: 20
    ∷ does 1 0 (inserting 1 (replicate 15 (int 1)))
    ∷ refuses 20 (inserting 1 (replicate 16 (int 1)))
    -- (g) T "teal" deletes "TEAL", which goes to the table variable
    ∷ does 0 1 (deleting teal TEAL)
    ∷ leaves [] (deleting teal TEAL)
    ∷ holds ((Text TEAL ∷ []) ∷ []) (deleting teal TEAL)
    -- (h) two equal rows selected give two
    ∷ holds (int 7 ∷ int 7 ∷ []) (selecting (int 7 ∷ int 7 ∷ []))
    -- (i) Int 1 ≠ Text "A   " is false
    ∷ not (satisfies [] Unequal (ConstInt (pos 1)) (ConstText 0x41202020))
    -- (j) two rows inserted into their own table: four, in order
    ∷ does 2 0 (doubling (int 1 ∷ int 2 ∷ []))
    ∷ leaves (int 1 ∷ int 2 ∷ int 1 ∷ int 2 ∷ []) (doubling (int 1 ∷ int 2 ∷ []))
    ∷ []

pub examples_hold : T (list_all (λ b. b) examples)
unfolding bind text_order matches hits draft tuple_for changes selected_columns aggregated distinct change fields_ok_as links_ok_as sound scene_of site_of_l site table relation source any_ready opens reads_ok check12 check13 check14 check15 check16 check17 check18 check19 check20 rows_by tables_by added_by taken_by bound_by vars_by bindings_by threads_after net_after performed first_refusal checks step next_net
examples_hold = tt
