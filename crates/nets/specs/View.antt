-- The net of the model that a net of the code stands for. Lists are as long as the counts say, even past an array's end, so that a count out of
-- its range is seen by the model's limits.
use Rattle.std.specs.Prelude.{ℕ, zero, suc, ◌+◌, ◌*◌, Bool, false, List, [], ◌∷◌, map, eqb, get_or, Option, None, Some, option_map}
use Rattle.values.specs.declared.Site.{Site}
use Rattle.values.specs.declared.Operand.TheVariants.{Absent}
use Rattle.values.specs.Operands.{Got}
use Rattle.values.specs.Lists.{firsts, keep, or_else, places}
use Rattle.std.specs.List.{find}
use Rattle.rows.specs.declared.Test.TheVariants.{Always}
use Rattle.rows.specs.declared.Function.TheVariants.{Unused}
use Rattle.rows.specs.declared.Operands.{Operands}
use Rattle.rows.specs.declared.Relation as Code
use Rattle.rows.specs.Relations.{Relation}
use Rattle.rows.specs.View.{columns_of, relation_of, operands_of, selector_of}
use Rattle.nets.specs.declared.Alias.{Alias}
use Rattle.nets.specs.declared.Table.{Table}
use Rattle.nets.specs.declared.Node.{Node}
use Rattle.nets.specs.declared.Entry.{Entry}
use Rattle.nets.specs.declared.Entry.TheVariants.{Run, Loop}
use Rattle.nets.specs.declared.Frame.{Frame}
use Rattle.nets.specs.declared.Saved.{Saved}
use Rattle.nets.specs.declared.Thread.{Thread}
use Rattle.nets.specs.declared.Net.{Net}
use Rattle.nets.specs.declared.Pick.{Pick}
use Rattle.nets.specs.Nets as M
use Rattle.nets.specs.Sound as S
use Rattle.nets.specs.Nets.{Kind, acting, other, insert, insert_table, delete, update, create, drop, select, select_relation, aggregate, sequential, parallel, bad_kind, code, to_run, visiting}

-- ── what the logic reads past an array's end ──

abbrev pub no_site : Site
no_site = record { 0 = 0 }

-- its locality is 0, which no alias may have
abbrev pub no_alias : Alias
no_alias = record { site = no_site; locality = record { 0 = 0 }; means = no_site }

abbrev pub no_content : Code.Relation
no_content = record { columns = 0; kinds = []; rows = []; count = 0 }

abbrev pub no_table : Table
no_table = record { site = no_site; name = 0; content = no_content }

abbrev pub no_operands : Operands
no_operands = record { fields = []; count = 0 }

abbrev pub no_node : Node
no_node =
    record {
      kind = 0;
      next = 0;
      body = 0;
      name = 0;
      bound = 0;
      read = 0;
      function = Unused;
      column = 0;
      columns = 0;
      kinds = [];
      locality = Absent;
      selector = record { template = no_operands; test = Always; left = Absent; right = Absent };
      tuple = no_operands;
      result = Absent;
    }

-- what a table variable holds; one that holds nothing is unbound
abbrev pub TableVariable : Type 0
TableVariable = Option Code.Relation

abbrev pub no_variable : TableVariable
no_variable = None

abbrev pub no_saved : Saved
no_saved = record { vars = []; other = no_variable }

abbrev pub no_frame : Frame
no_frame = record { entry = Run 0; visit = [] }

abbrev pub no_thread : Thread
no_thread = record { site = no_site; vars = []; relations = []; stack = []; depth = 0 }

abbrev pub no_pick : Pick
no_pick = record { thread = 0; row = 0 }

-- ── nodes ──

abbrev pub kinds : List Kind
kinds =
    acting insert
    ∷ acting insert_table
    ∷ acting delete
    ∷ other select
    ∷ other select_relation
    ∷ acting update
    ∷ other aggregate
    ∷ acting create
    ∷ acting drop
    ∷ other sequential
    ∷ other parallel
    ∷ []

-- every kind there is: the known ones, and `bad_kind` for any other byte. Only proofs use it
abbrev pub every_kind : List Kind
every_kind = other bad_kind ∷ kinds

-- the kind that a byte stands for
unfoldable pub kind_at : ℕ → Kind
kind_at b = or_else (other bad_kind) (find (λ k. eqb (code k) b) kinds)

abbrev pub node_of : Node → M.Node
node_of d =
    record {
      kind = kind_at d.kind;
      next = d.next;
      body = d.body;
      name = d.name;
      bound = d.bound;
      read = d.read;
      function = d.function;
      column = d.column;
      columns = columns_of d.columns d.kinds;
      locality = d.locality;
      selector = selector_of d.selector;
      tuple = operands_of d.tuple;
      result = d.result;
    }

-- ── tables ──

abbrev pub table_of : Table → M.Table
table_of t = record { site = t.site; name = t.name; content = relation_of t.content }

-- ── threads ──

-- the places whose flags are set, counted from `i`
abbrev pub marked : ℕ → List Bool → List ℕ
marked i [] = []
marked i (b ∷ l) = keep b i (marked (suc i) l)

-- with the bindings `b` that a loop's entry keeps. All flags count, also those past the rows
abbrev pub entry_with : M.Bindings → List Bool → Entry → M.Entry
entry_with b v (Run i) = to_run i
entry_with b v (Loop i) = visiting i (marked 0 v) b

abbrev pub entry_of : M.Bindings → Frame → M.Entry
entry_of b f = entry_with b f.visit f.entry

-- the first `n` frames, the last of them first: it is the top. `bs` gives what the entry at each place keeps
abbrev pub stack_of : (ℕ → M.Bindings) → ℕ → List Frame → List M.Entry
stack_of bs zero l = []
stack_of bs (suc n) l = entry_of (bs n) (get_or l n no_frame) ∷ stack_of bs n l

abbrev pub variable_of : TableVariable → Option Relation
variable_of v = option_map relation_of v

abbrev pub bindings_of : List Got → List TableVariable → M.Bindings
bindings_of vs rs = record { vars = vs; relations = map variable_of rs }

abbrev pub thread_of : (ℕ → M.Bindings) → Thread → M.Thread
thread_of bs t = record { site = t.site; bindings = bindings_of t.vars t.relations; stack = stack_of bs t.depth t.stack }

-- ── what the entries of loops keep ──

-- the bindings that are saved for a loop that reads table variable 0, or 1 (a node that reads another is not sound). That one is the thread's own: while the loop's entry stands, check 17 lets no step bind it anew, and agreement
-- lets none that comes back differ. The other one is stored
abbrev pub saved_of : ℕ → List TableVariable → Saved → M.Bindings
saved_of zero rs b = record { vars = b.vars; relations = variable_of (get_or rs 0 no_variable) ∷ variable_of b.other ∷ [] }
saved_of (suc i) rs b = record { vars = b.vars; relations = variable_of b.other ∷ variable_of (get_or rs 1 no_variable) ∷ [] }

abbrev pub node_in : Entry → ℕ
node_in (Run i) = i
node_in (Loop i) = i

-- the table variable that a frame's node reads
abbrev pub read_at : List M.Node → Frame → ℕ
read_at ds f = (get_or ds (node_in f.entry) S.no_node).read

-- what the entry at each place `j` of the stack of the thread at place `i` keeps
abbrev pub saved_at : List M.Node → List Saved → ℕ → Thread → ℕ → M.Bindings
saved_at ds l i t j = saved_of (read_at ds (get_or t.stack j no_frame)) t.relations (get_or l (i * 8 + j) no_saved)

-- ── the net ──

abbrev pub aliases_of : ℕ → List Alias → List Alias
aliases_of n l = firsts (λ (a : Alias). a) no_alias n l

abbrev pub tables_of : ℕ → List Table → List M.Table
tables_of n l = firsts table_of no_table n l

abbrev pub nodes_of : ℕ → List Node → List M.Node
nodes_of n l = firsts node_of no_node n l

-- the thread at a place, with what the entries of its loops keep
abbrev pub thread_at : List M.Node → List Saved → List Thread → ℕ → M.Thread
thread_at ds saved l i = thread_of (saved_at ds saved i (get_or l i no_thread)) (get_or l i no_thread)

abbrev pub threads_of : List M.Node → List Saved → ℕ → List Thread → List M.Thread
threads_of ds saved n l = map (thread_at ds saved l) (places 0 n)

unfoldable pub view : Net → M.Net
view net =
    record {
      aliases = aliases_of net.aliascount net.aliases;
      tables = tables_of net.tablecount net.tables;
      nodes = nodes_of net.nodecount net.nodes;
      threads = threads_of (nodes_of net.nodecount net.nodes) net.saved net.threadcount net.threads;
    }
