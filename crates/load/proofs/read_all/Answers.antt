-- `load::read_all` meets its contract: six groups and the end, each from where the last one came to.
use Prim.Native.Nat.{ℕ}
use mathlib.Core.Path.{◌≡◌, refl, ◌∙◌}
use mathlib.Core.List.{List, []}
use Rattle.std.specs.Prelude.{Err}
use Rattle.nets.specs.View.{aliases_of, tables_of, nodes_of, threads_of, view}
use Rattle.record_bytes.specs.Decoding.{records_in}
use Rattle.load_walk.specs.declared.Reach.{Reach}
use Rattle.files.specs.declared.Fault.{Fault}
use Rattle.files.specs.Engine.{first_picks}
use Rattle.files.specs.Loading.{Progress, nothing_read, stopped, read_all}
use Rattle.load_walk.specs.Walking.{put_aliases, put_tables, put_nodes, put_threads, put_picks, rest, read_from, Leads, Stops, Ends}
use Rattle.load.specs.Lengths.{Finishes}
use borrow.Author.Rules.{rules}
use Rattle.load.proofs.read_all.Goals as goal

-- reading the whole file comes to the same as reading on from `to`, after `l`
Came : List ℕ → Reach → Progress → Type 0
Came file to l = read_all 0 nothing_read (records_in file) ≡ read_from file to l

module _ (file : List ℕ) where
  start : Came file (record { place = 0; group = 0 }) nothing_read
  unfolding rest Came
  start = refl

  module _ {a : Reach} {p : Progress → Progress} (l : Progress) (h : Came file a (p l)) where
    on : {b : Reach} {q : Progress → Progress} → Leads file a b p q → Came file b (q l)
    unfolding Came
    on k = h ∙ k.leads l

    halted : {f : Fault} → Stops file a f p → read_all 0 nothing_read (records_in file) ≡ stopped f.number f.place
    unfolding Came
    halted k = h ∙ k.stops l

  over : (a : Reach) (l : Progress) → Came file a l → Ends file a → Finishes (read_all 0 nothing_read (records_in file)) l.net l.picks
  unfolding Came
  over a l h k = record { group = a.group; all = h ∙ k.ends l }

pub returns-in_err-aliases : goal.returns-in_err-aliases
returns-in_err-aliases c =
    let e : c.from_residual.result ≡ Err c.in_err-aliases.field-0.0 = search rules in
    rw e (halted c.args.file.now nothing_read (start c.args.file.now) c.in_err-aliases.ensures)

pub returns-in_err-labels : goal.returns-in_err-labels
returns-in_err-labels c =
    let e : c.from_residual-in_err-labels.result ≡ Err c.in_err-labels.field-0.0 = search rules in
    rw e (halted c.args.file.now (put_aliases (aliases_of c.in_ok-aliases.aliases.count c.in_ok-aliases.aliases.items) nothing_read) (on c.args.file.now nothing_read (start c.args.file.now) c.in_ok-aliases.ensures.0) c.in_err-labels.ensures)

pub returns-in_err-tables : goal.returns-in_err-tables
returns-in_err-tables c =
    let e : c.from_residual-in_err-tables.result ≡ Err c.in_err-tables.field-0.0 = search rules in
    rw e (halted c.args.file.now (put_aliases (aliases_of c.in_ok-aliases.aliases.count c.in_ok-aliases.aliases.items) nothing_read) (on c.args.file.now (put_aliases (aliases_of c.in_ok-aliases.aliases.count c.in_ok-aliases.aliases.items) nothing_read) (on c.args.file.now nothing_read (start c.args.file.now) c.in_ok-aliases.ensures.0) c.in_ok-labels.ensures.0.0) c.in_err-tables.ensures)

pub returns-in_err-nodes : goal.returns-in_err-nodes
returns-in_err-nodes c =
    let e : c.from_residual-in_err-nodes.result ≡ Err c.in_err-nodes.field-0.0 = search rules in
    rw e (halted c.args.file.now (put_tables (tables_of c.in_ok-tables.tables.count c.in_ok-tables.tables.items) (put_aliases (aliases_of c.in_ok-aliases.aliases.count c.in_ok-aliases.aliases.items) nothing_read)) (on c.args.file.now (put_aliases (aliases_of c.in_ok-aliases.aliases.count c.in_ok-aliases.aliases.items) nothing_read) (on c.args.file.now (put_aliases (aliases_of c.in_ok-aliases.aliases.count c.in_ok-aliases.aliases.items) nothing_read) (on c.args.file.now nothing_read (start c.args.file.now) c.in_ok-aliases.ensures.0) c.in_ok-labels.ensures.0.0) c.in_ok-tables.ensures.0.0) c.in_err-nodes.ensures)

pub returns-in_err-threads : goal.returns-in_err-threads
returns-in_err-threads c =
    let e : c.from_residual-in_err-threads.result ≡ Err c.in_err-threads.field-0.0 = search rules in
    rw e (halted c.args.file.now (put_nodes (nodes_of c.in_ok-nodes.nodes.count c.in_ok-nodes.nodes.items) (put_tables (tables_of c.in_ok-tables.tables.count c.in_ok-tables.tables.items) (put_aliases (aliases_of c.in_ok-aliases.aliases.count c.in_ok-aliases.aliases.items) nothing_read))) (on c.args.file.now (put_tables (tables_of c.in_ok-tables.tables.count c.in_ok-tables.tables.items) (put_aliases (aliases_of c.in_ok-aliases.aliases.count c.in_ok-aliases.aliases.items) nothing_read)) (on c.args.file.now (put_aliases (aliases_of c.in_ok-aliases.aliases.count c.in_ok-aliases.aliases.items) nothing_read) (on c.args.file.now (put_aliases (aliases_of c.in_ok-aliases.aliases.count c.in_ok-aliases.aliases.items) nothing_read) (on c.args.file.now nothing_read (start c.args.file.now) c.in_ok-aliases.ensures.0) c.in_ok-labels.ensures.0.0) c.in_ok-tables.ensures.0.0) c.in_ok-nodes.ensures.0) c.in_err-threads.ensures)

pub returns-in_err-picks : goal.returns-in_err-picks
returns-in_err-picks c =
    let e : c.from_residual-in_err-picks.result ≡ Err c.in_err-picks.field-0.0 = search rules in
    rw e (halted c.args.file.now (put_threads (threads_of [] [] c.in_ok-threads.threads.count c.in_ok-threads.threads.items) (put_nodes (nodes_of c.in_ok-nodes.nodes.count c.in_ok-nodes.nodes.items) (put_tables (tables_of c.in_ok-tables.tables.count c.in_ok-tables.tables.items) (put_aliases (aliases_of c.in_ok-aliases.aliases.count c.in_ok-aliases.aliases.items) nothing_read)))) (on c.args.file.now (put_nodes (nodes_of c.in_ok-nodes.nodes.count c.in_ok-nodes.nodes.items) (put_tables (tables_of c.in_ok-tables.tables.count c.in_ok-tables.tables.items) (put_aliases (aliases_of c.in_ok-aliases.aliases.count c.in_ok-aliases.aliases.items) nothing_read))) (on c.args.file.now (put_tables (tables_of c.in_ok-tables.tables.count c.in_ok-tables.tables.items) (put_aliases (aliases_of c.in_ok-aliases.aliases.count c.in_ok-aliases.aliases.items) nothing_read)) (on c.args.file.now (put_aliases (aliases_of c.in_ok-aliases.aliases.count c.in_ok-aliases.aliases.items) nothing_read) (on c.args.file.now (put_aliases (aliases_of c.in_ok-aliases.aliases.count c.in_ok-aliases.aliases.items) nothing_read) (on c.args.file.now nothing_read (start c.args.file.now) c.in_ok-aliases.ensures.0) c.in_ok-labels.ensures.0.0) c.in_ok-tables.ensures.0.0) c.in_ok-nodes.ensures.0) (c.in_ok-threads.ensures.0 [] [])) c.in_err-picks.ensures)

pub returns-in_err-reach_end : goal.returns-in_err-reach_end
returns-in_err-reach_end c =
    let e : c.from_residual-in_err-reach_end.result ≡ Err c.in_err-reach_end.field-0.0 = search rules in
    rw e (halted c.args.file.now (put_picks (first_picks c.in_ok-picks.picks.count c.in_ok-picks.picks.items) (put_threads (threads_of [] [] c.in_ok-threads.threads.count c.in_ok-threads.threads.items) (put_nodes (nodes_of c.in_ok-nodes.nodes.count c.in_ok-nodes.nodes.items) (put_tables (tables_of c.in_ok-tables.tables.count c.in_ok-tables.tables.items) (put_aliases (aliases_of c.in_ok-aliases.aliases.count c.in_ok-aliases.aliases.items) nothing_read))))) (on c.args.file.now (put_threads (threads_of [] [] c.in_ok-threads.threads.count c.in_ok-threads.threads.items) (put_nodes (nodes_of c.in_ok-nodes.nodes.count c.in_ok-nodes.nodes.items) (put_tables (tables_of c.in_ok-tables.tables.count c.in_ok-tables.tables.items) (put_aliases (aliases_of c.in_ok-aliases.aliases.count c.in_ok-aliases.aliases.items) nothing_read)))) (on c.args.file.now (put_nodes (nodes_of c.in_ok-nodes.nodes.count c.in_ok-nodes.nodes.items) (put_tables (tables_of c.in_ok-tables.tables.count c.in_ok-tables.tables.items) (put_aliases (aliases_of c.in_ok-aliases.aliases.count c.in_ok-aliases.aliases.items) nothing_read))) (on c.args.file.now (put_tables (tables_of c.in_ok-tables.tables.count c.in_ok-tables.tables.items) (put_aliases (aliases_of c.in_ok-aliases.aliases.count c.in_ok-aliases.aliases.items) nothing_read)) (on c.args.file.now (put_aliases (aliases_of c.in_ok-aliases.aliases.count c.in_ok-aliases.aliases.items) nothing_read) (on c.args.file.now (put_aliases (aliases_of c.in_ok-aliases.aliases.count c.in_ok-aliases.aliases.items) nothing_read) (on c.args.file.now nothing_read (start c.args.file.now) c.in_ok-aliases.ensures.0) c.in_ok-labels.ensures.0.0) c.in_ok-tables.ensures.0.0) c.in_ok-nodes.ensures.0) (c.in_ok-threads.ensures.0 [] [])) c.in_ok-picks.ensures.0) c.in_err-reach_end.ensures)

pub returns : goal.returns
unfolding view
returns c = λ saved. (over c.args.file.now _ (put_picks (first_picks c.in_ok-picks.picks.count c.in_ok-picks.picks.items) (put_threads (threads_of (nodes_of c.in_ok-nodes.nodes.count c.in_ok-nodes.nodes.items) saved c.in_ok-threads.threads.count c.in_ok-threads.threads.items) (put_nodes (nodes_of c.in_ok-nodes.nodes.count c.in_ok-nodes.nodes.items) (put_tables (tables_of c.in_ok-tables.tables.count c.in_ok-tables.tables.items) (put_aliases (aliases_of c.in_ok-aliases.aliases.count c.in_ok-aliases.aliases.items) nothing_read))))) (on c.args.file.now (put_threads (threads_of (nodes_of c.in_ok-nodes.nodes.count c.in_ok-nodes.nodes.items) saved c.in_ok-threads.threads.count c.in_ok-threads.threads.items) (put_nodes (nodes_of c.in_ok-nodes.nodes.count c.in_ok-nodes.nodes.items) (put_tables (tables_of c.in_ok-tables.tables.count c.in_ok-tables.tables.items) (put_aliases (aliases_of c.in_ok-aliases.aliases.count c.in_ok-aliases.aliases.items) nothing_read)))) (on c.args.file.now (put_nodes (nodes_of c.in_ok-nodes.nodes.count c.in_ok-nodes.nodes.items) (put_tables (tables_of c.in_ok-tables.tables.count c.in_ok-tables.tables.items) (put_aliases (aliases_of c.in_ok-aliases.aliases.count c.in_ok-aliases.aliases.items) nothing_read))) (on c.args.file.now (put_tables (tables_of c.in_ok-tables.tables.count c.in_ok-tables.tables.items) (put_aliases (aliases_of c.in_ok-aliases.aliases.count c.in_ok-aliases.aliases.items) nothing_read)) (on c.args.file.now (put_aliases (aliases_of c.in_ok-aliases.aliases.count c.in_ok-aliases.aliases.items) nothing_read) (on c.args.file.now (put_aliases (aliases_of c.in_ok-aliases.aliases.count c.in_ok-aliases.aliases.items) nothing_read) (on c.args.file.now nothing_read (start c.args.file.now) c.in_ok-aliases.ensures.0) c.in_ok-labels.ensures.0.0) c.in_ok-tables.ensures.0.0) c.in_ok-nodes.ensures.0) (c.in_ok-threads.ensures.0 (nodes_of c.in_ok-nodes.nodes.count c.in_ok-nodes.nodes.items) saved)) c.in_ok-picks.ensures.0) c.in_ok-reach_end.ensures)
