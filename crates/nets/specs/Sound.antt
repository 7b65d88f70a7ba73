-- A sound net. Each line of `sound` is a clause of the paper's sentence.
use Rattle.std.specs.Prelude.{ℕ, suc, Bool, true, false, not, cond, ◌&&◌, ◌||◌, List, [], ◌∷◌, eqb, leb, ltb, get_or, length, Option, None, Some}
use Rattle.values.specs.declared.Operand.{Operand}
use Rattle.values.specs.declared.Operand.TheVariants.{Absent, ConstInt, ConstText, ConstLoc, Var, Plus, Formal}
use Rattle.values.specs.Operands.{Got}
use Rattle.values.specs.Lists.{among, agree}
use Rattle.std.specs.List.{list_all, list_any}
use Rattle.values.specs.Values.{same_site, site_ok, same_locality, locality_ok, in_range, in32, is_text, same_row}
use Rattle.values.specs.Operands.{formals}
use Rattle.rows.specs.declared.Test.{Test}
use Rattle.rows.specs.declared.Test.TheVariants.{Always, Equal, Unequal, Less, AtMost}
use Rattle.rows.specs.declared.Function.{Function}
use Rattle.rows.specs.declared.Function.TheVariants.{Unused, Count, Sum, Least, Largest}
use Rattle.rows.specs.Relations.{Row, Columns, Relation}
use Rattle.rows.specs.Fit.{relation_fits, same_columns}
use Rattle.nets.specs.declared.Alias.{Alias}
use Rattle.nets.specs.Nets.{Table, Kind, other, bad_kind, code, has_locality, is_create, has_template, has_test, has_tuple, is_select, reads_relation, binds_relation, is_aggregate, is_loop, is_sequential, Node, Entry, to_run, visiting, Bindings, Thread, Net}
use Rattle.nets.specs.Tables.{rows_fit, distinct}

-- ── what stands where nothing is ──

abbrev pub no_node : Node
no_node =
    record {
      kind = other bad_kind;
      next = 255;
      body = 0;
      name = 0;
      bound = 0;
      read = 0;
      function = Unused;
      column = 0;
      columns = [];
      locality = Absent;
      selector = record { template = []; test = Always; left = Absent; right = Absent };
      tuple = [];
      result = Absent;
    }

abbrev pub no_thread : Thread
no_thread = record { site = record { 0 = 0 }; bindings = record { vars = []; relations = [] }; stack = [] }

-- an entry's node
abbrev pub entry_node : Entry → ℕ
entry_node (to_run i) = i
entry_node (visiting i v b) = i

-- ── tables, rows, variables ──

abbrev pub columns_ok : Columns → Bool
columns_ok cs = leb 1 (length cs) && leb (length cs) 4 && list_all (λ c. leb 1 c && leb c 3) cs

abbrev pub rows_ok : List Row → Bool
rows_ok rs = leb (length rs) 16 && list_all (λ r. list_all in_range r) rs

abbrev pub table_ok : Table → Bool
table_ok t = site_ok t.site && is_text t.name && columns_ok t.content.columns && rows_ok t.content.rows

-- what an unbound table variable holds is no matter
abbrev pub relation_ok : Option Relation → Bool
relation_ok None = true
relation_ok (Some r) = columns_ok r.columns && rows_ok r.rows && relation_fits r

abbrev pub variable_ok : Got → Bool
variable_ok None = true
variable_ok (Some v) = in_range v

-- sixteen variables and two table variables
abbrev pub bindings_ok : Bindings → Bool
bindings_ok b =
    eqb (length b.vars) 16 && list_all variable_ok b.vars && eqb (length b.relations) 2 && list_all relation_ok b.relations

-- ── aliases ──

abbrev pub alias_ok : Alias → Bool
alias_ok a = site_ok a.site && (leb 1 a.locality.0 && locality_ok a.locality) && site_ok a.means

abbrev pub same_alias : Alias → Alias → Bool
same_alias a b = same_site a.site b.site && same_locality a.locality b.locality

abbrev pub aliases_differ : List Alias → Bool
aliases_differ [] = true
aliases_differ (a ∷ others) = not (list_any (same_alias a) others) && aliases_differ others

-- ── nodes: checks 4 and 9 ──

-- an operand with a tag of 1..hi, its fields in range
abbrev pub tagged : ℕ → Operand → Bool
tagged hi Absent = false
tagged hi (ConstInt i) = in32 i
tagged hi (ConstText t) = is_text t
tagged hi (ConstLoc l) = locality_ok l
tagged hi (Var i) = leb 4 hi && ltb i 16
tagged hi (Plus i k) = leb 5 hi && ltb i 16 && in32 k
tagged hi (Formal i) = leb 6 hi && ltb i 16

abbrev pub is_absent : Operand → Bool
is_absent Absent = true
is_absent (ConstInt i) = false
is_absent (ConstText t) = false
is_absent (ConstLoc l) = false
is_absent (Var i) = false
is_absent (Plus i k) = false
is_absent (Formal i) = false

-- L has tag 3 or 4
abbrev pub locality_operand_ok : Operand → Bool
locality_operand_ok Absent = false
locality_operand_ok (ConstInt i) = false
locality_operand_ok (ConstText t) = false
locality_operand_ok (ConstLoc l) = locality_ok l
locality_operand_ok (Var i) = ltb i 16
locality_operand_ok (Plus i k) = false
locality_operand_ok (Formal i) = false

-- 1..4 operands with tags 1..hi
abbrev pub operands_ok : ℕ → List Operand → Bool
operands_ok hi os = leb 1 (length os) && leb (length os) 4 && list_all (tagged hi) os

abbrev pub is_empty : {A : Type 0} → List A → Bool
is_empty l = eqb (length l) 0

abbrev pub differ : List ℕ → Bool
differ [] = true
differ (i ∷ l) = not (among i l) && differ l

-- T: tags 1..6, no formal twice
abbrev pub template_ok : List Operand → Bool
template_ok t = operands_ok 6 t && differ (formals t)

-- the operands of predicate 0 are absent, of the others they have tags 1..5
abbrev pub test_ok : Test → Operand → Operand → Bool
test_ok Always l r = is_absent l && is_absent r
test_ok Equal l r = tagged 5 l && tagged 5 r
test_ok Unequal l r = tagged 5 l && tagged 5 r
test_ok Less l r = tagged 5 l && tagged 5 r
test_ok AtMost l r = tagged 5 l && tagged 5 r

abbrev pub is_always : Test → Bool
is_always Always = true
is_always Equal = false
is_always Unequal = false
is_always Less = false
is_always AtMost = false

-- functions 1..4 with a column, 0 for count; or none
abbrev pub function_ok : Bool → Function → ℕ → Bool
function_ok u Unused i = not u && eqb i 0
function_ok u Count i = u && eqb i 0
function_ok u Sum i = u && ltb i 4
function_ok u Least i = u && ltb i 4
function_ok u Largest i = u && ltb i 4

-- a field is as its rule says where the kind uses it, and zero or absent where not: check 4, as a node of kind `k`
unfoldable pub fields_ok_as : Kind → Node → Bool
fields_ok_as k d =
    not (eqb (code k) 0)
    && (is_loop k || eqb d.body 0)
    && cond (has_locality k) (is_text d.name) (eqb d.name 0)
    && cond (binds_relation k) (ltb d.bound 2) (eqb d.bound 0)
    && cond (reads_relation k) (ltb d.read 2) (eqb d.read 0)
    && function_ok (is_aggregate k) d.function d.column
    && cond (is_create k) (columns_ok d.columns) (is_empty d.columns)
    && cond (has_locality k) (locality_operand_ok d.locality) (is_absent d.locality)
    && cond (has_template k) (template_ok d.selector.template) (is_empty d.selector.template)
    && cond (has_test k) (test_ok d.selector.test d.selector.left d.selector.right) (is_always d.selector.test && test_ok Always d.selector.left d.selector.right)
    && cond (has_tuple k) (operands_ok 5 d.tuple) (cond (is_select k) (operands_ok 4 d.tuple) (is_empty d.tuple))
    && cond (is_aggregate k) (tagged 6 d.result) (is_absent d.result)

-- check 9, with `n` nodes in all and this one's number `i`: next, unless 255, and a loop's body are above it and name nodes
unfoldable pub links_ok_as : Kind → ℕ → ℕ → Node → Bool
links_ok_as k n i d =
    (eqb d.next 255 || (ltb i d.next && ltb d.next n)) && (not (is_loop k) || (ltb i d.body && ltb d.body n))

abbrev pub node_ok_as : Kind → ℕ → ℕ → Node → Bool
node_ok_as k n i d = fields_ok_as k d && links_ok_as k n i d

-- the nodes from number `i` on
abbrev pub nodes_ok : ℕ → ℕ → List Node → Bool
nodes_ok n i [] = true
nodes_ok n i (d ∷ ds) = node_ok_as d.kind n i d && nodes_ok n (suc i) ds

-- ── threads ──

abbrev pub has_places : List ℕ → Option Relation → Bool
has_places v None = false
has_places v (Some r) = list_all (λ i. ltb i (length r.rows)) v

-- an entry to run names a node; a loop entry a loop node whose table variable is bound and has the places. What a sequential loop's entry keeps is under the limits and ranges of a thread's own bindings
abbrev pub entry_ok : List Node → List (Option Relation) → Entry → Bool
entry_ok ds rs (to_run i) = ltb i (length ds)
entry_ok ds rs (visiting i v b) =
    ltb i (length ds)
    && is_loop (get_or ds i no_node).kind
    && has_places v (get_or rs (get_or ds i no_node).read None)
    && (not (is_sequential (get_or ds i no_node).kind) || bindings_ok b)

-- both unbound; or both bound, with equal columns and equal rows in order
abbrev pub same_relation : Option Relation → Option Relation → Bool
same_relation None None = true
same_relation None (Some r) = false
same_relation (Some q) None = false
same_relation (Some q) (Some r) = same_columns q.columns r.columns && agree same_row q.rows r.rows

-- table variables `rs` and `qs` agree on the one that an entry holds; an entry to run holds none
abbrev pub agree_on : List Node → List (Option Relation) → List (Option Relation) → Entry → Bool
agree_on ds rs qs (to_run i) = true
agree_on ds rs qs (visiting i v b) = same_relation (get_or rs (get_or ds i no_node).read None) (get_or qs (get_or ds i no_node).read None)

-- the bindings that a sequential loop's entry keeps agree with the thread's own table variables `rs` on each that one of the entries `s` holds (as in check 17)
abbrev pub saved_agrees : List Node → List (Option Relation) → List Entry → Entry → Bool
saved_agrees ds rs s (to_run i) = true
saved_agrees ds rs s (visiting i v b) = not (is_sequential (get_or ds i no_node).kind) || list_all (agree_on ds rs b.relations) s

-- for each entry, on the table variables that it or a loop entry below it holds
abbrev pub all_saved_agree : List Node → List (Option Relation) → List Entry → Bool
all_saved_agree ds rs [] = true
all_saved_agree ds rs (x ∷ s) = saved_agrees ds rs (x ∷ s) x && all_saved_agree ds rs s

abbrev pub entries_ok : List Node → List (Option Relation) → List Entry → Bool
entries_ok ds rs s = list_all (entry_ok ds rs) s && all_saved_agree ds rs s

abbrev pub stack_ok : List Node → List (Option Relation) → List Entry → Bool
stack_ok ds rs s = leb 1 (length s) && leb (length s) 8 && entries_ok ds rs s

abbrev pub thread_ok : List Node → Thread → Bool
thread_ok ds t = site_ok t.site && bindings_ok t.bindings && stack_ok ds t.bindings.relations t.stack

-- ── the net ──

unfoldable pub sound : Net → Bool
sound net =
    leb (length net.tables) 8
    && leb (length net.nodes) 128
    && leb (length net.threads) 8
    && list_all table_ok net.tables
    && list_all rows_fit net.tables
    && distinct net.tables
    && list_all alias_ok net.aliases
    && aliases_differ net.aliases
    && nodes_ok (length net.nodes) 0 net.nodes
    && list_all (thread_ok net.nodes) net.threads
