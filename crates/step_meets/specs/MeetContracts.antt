-- What the functions that decide on a step require and give back, part by part.
use Rattle.std.specs.Prelude.{ℕ, ◌+◌, ◌-◌, ◌≤◌, ◌<◌, ◌≡◌, Bool, false, cond, List, [], ◌∷◌, ◌++◌, map, T, ltb, get_or, set, length, drop, Option, None, Some, is_some, Result, Ok}
use Rattle.std.specs.List.{list_all}
use Rattle.rows.specs.declared.Relation as Code
use Rattle.rows.specs.Relations.{Relation}
use Rattle.rows.specs.View.{relation_of, Shaped}
use Rattle.row_change.specs.ChangeContracts.{Holds}
use Rattle.nets.specs.declared.Entry.TheVariants.{Run, Loop}
use Rattle.nets.specs.declared.Frame.{Frame}
use Rattle.nets.specs.declared.Refusal.{Refusal}
use Rattle.nets.specs.View.{TableVariable}
use Rattle.step_meets.specs.declared.Decided.{Decided}
use Rattle.step_meets.specs.Situations.{Situation, Rest, Change, over_of, moved, saved_after, answer_in, starts_thread, vars_started}
use Rattle.nets.specs.Nets as M
use Rattle.nets.specs.Nets.{is_loop, reads_relation, binds_relation, to_run, Outcome, refused}
use Rattle.nets.specs.Tables.{table_at, content_of, rows_of, columns_of}
use Rattle.nets.specs.Sound.{node_ok_as, bindings_ok}
use Rattle.nets.specs.Scenes.{Scene, Parts, site, site_of_l, table}
use Rattle.nets.specs.Steps.{is_bound, is_bound_table, reads_ok, held, rows_by, tables_by, bound_by, restored, settle, threads_after, performed, Check, first_refusal, checks}
use Rattle.nets.specs.View.{kind_at, node_of, node_in, entry_of, variable_of, bindings_of, thread_of}
use Rattle.nets.specs.Answers.{is_doing, answer_of, said_of}
use Rattle.step_reads.specs.ReadContracts.{flag_at}
use Rattle.step_effect.specs.EffectContracts.{is_step, puts_rows, parts_of, Doing}
use Rattle.step_thread.specs.ThreadContracts.{visit_of, is_run, Stacked, goes_on, forks_of}

-- ── the step from small parts ──

-- the checks after 10 and 11, and the outcome by these
abbrev pub later_checks : Scene → List Check
later_checks c = drop 2 (checks c)

abbrev pub outcome_at : Scene → Outcome
outcome_at c = first_refusal refused (later_checks c) (performed c)

-- the parts that a pick meets are those of a scene
pub record Meets (s : Situation) (c : Scene) : Type 0 where
  pub thread : c.thread ≡ thread_of s.saved s.thread
  pub entry : c.entry ≡ entry_of (s.saved (s.thread.depth - 1)) s.frame
  pub node : c.node ≡ node_of s.node
  pub located : site_of_l c ≡ s.located
  pub found : s.found ≡ is_some (table c)
  pub content : relation_of s.content ≡ content_of (table c)
  pub held : T (binds_relation c.node.kind) → s.held ≡ held c
  pub tables : s.tables ≡ length c.net.tables
  pub threads : s.threads ≡ length c.net.threads
  pub row : s.row ≡ c.row

-- the bindings of the thread
abbrev pub own_bindings : Situation → M.Bindings
own_bindings s = bindings_of s.thread.vars s.thread.relations

-- the table variable that the node reads
abbrev pub relation_read : Situation → Option Relation
relation_read s = get_or (own_bindings s).relations s.node.read None

-- what soundness says of them
pub record Fine (s : Situation) : Type 0 where
  pub number : ℕ
  pub count : ℕ
  pub node : T (node_ok_as (kind_at s.node.kind) count number (node_of s.node))
  pub bindings : T (bindings_ok (own_bindings s))
  pub stacked : Stacked s.thread
  pub content : Shaped s.content
  -- a loop entry's places are rows of the table variable read
  pub visits : T (is_loop (kind_at s.node.kind)) → (r : Relation) → relation_read s ≡ Some r → T (list_all (λ i. ltb i (length r.rows)) (visit_of s.frame r))

-- check 12 passed, said of the parts
pub record Known (s : Situation) : Type 0 where
  pub reads : T (reads_ok (is_bound (own_bindings s).vars) (is_bound_table (own_bindings s).relations) (node_of s.node))

-- the flags are those of a thread's table variables
pub record Flagged (w : Rest) (flags : List Bool) : Type 0 where
  pub bound : (i : ℕ) → flag_at flags i ≡ is_bound_table (map variable_of w.relations) i

-- the source of rows: what the table variable read holds, or the table's content
pub record SourceIs (s : Situation) (r : Code.Relation) : Type 0 where
  pub shaped : Shaped r
  pub read : T (reads_relation (kind_at s.node.kind)) → relation_read s ≡ Some (relation_of r)
  pub own : reads_relation (kind_at s.node.kind) ≡ false → relation_of r ≡ relation_of s.content

-- the source, before check 12 is known to pass
pub record Sourced (s : Situation) (r : Code.Relation) : Type 0 where
  pub shaped : Shaped r
  pub source : Known s → SourceIs s r

-- the thread afterwards, with the bindings that come back where an entry was removed
abbrev pub becomes : List M.Node → Change → M.Thread
becomes ds r = cond r.ends (restored ds (thread_of r.saved r.thread) (thread_of r.saved r.thread).stack) (thread_of r.saved r.thread)

pub record ChangeIs (c : Scene) (r : Change) : Type 0 where
  pub answer : said_of r.answer ≡ answer_of (outcome_at c)
  -- the rows of the table at the step's site and name afterwards, where the step changes them
  pub content : T (is_doing (said_of r.answer)) → T (puts_rows c.node.kind) → Holds r.content (columns_of (table c)) (rows_of (table_at (site c) c.node.name (tables_by c.node.kind c)))
  -- a fork has room, and the thread that forks goes on
  pub room : T r.forks → (length c.net.threads < 8) × (1 ≤ r.thread.depth)
  -- what becomes of the thread, and the new thread of a parallel round
  pub threads : T (is_doing (said_of r.answer)) → threads_after c ≡ settle c.at (goes_on (becomes c.net.nodes r)) c.net.threads ++ forks_of r.forks r.fork

-- ── what is decided ──

-- the parts that the step reads, with the source of rows `q`
abbrev pub parts_in : Situation → Code.Relation → Parts
parts_in s q = parts_of s.node s.content q s.thread.vars

-- what is made for a done step: the table's content, the table variables, and a frame for the body
pub record Made (s : Situation) (q : Code.Relation) (r : Decided) : Type 0 where
  pub content : Code.Relation
  pub put : T (puts_rows (kind_at s.node.kind)) → Holds content (relation_of s.content).columns (rows_by (kind_at s.node.kind) (parts_in s q) (relation_of s.content).rows)
  pub relations : List TableVariable
  pub bound :
      map variable_of relations
      ≡ cond (binds_relation (kind_at s.node.kind)) (set (map variable_of s.thread.relations) s.node.bound (Some (bound_by (kind_at s.node.kind) (parts_in s q)))) (map variable_of s.thread.relations)
  pub above : ℕ
  pub over : above ≡ over_of s.thread.depth
  pub body : Frame
  pub runs : body.entry ≡ Run s.node.body

-- the new thread of a parallel round
abbrev pub new_thread : Situation → Decided → List TableVariable → M.Thread
new_thread s r vs = record { site = s.thread.site; bindings = bindings_of (vars_started r) vs; stack = to_run s.node.body ∷ [] }

-- the change that it makes
abbrev pub changed : (s : Situation) (q : Code.Relation) (r : Decided) → Made s q r → Change
changed s q r m =
    record {
      answer = Ok r.done;
      content = m.content;
      thread = moved s.thread r m.above m.body m.relations;
      saved = saved_after s r;
      ends = ltb r.depth s.thread.depth;
      forks = starts_thread r;
      fork = new_thread s r m.relations;
    }

-- the height of the stack, and the frame on top of it
pub record Framed (s : Situation) (r : Decided) : Type 0 where
  -- at most a body goes above the top, at most the top is removed, and a fork removes no entry
  pub height : r.depth ≤ s.thread.depth + 1
  pub low : s.thread.depth ≤ r.depth + 1
  pub fork : T (starts_thread r) → s.thread.depth ≤ r.depth
  -- a loop's frame is that of the loop met, whose entry holds the bindings from its first round on
  pub loop : (i : ℕ) → s.thread.depth ≤ r.depth → r.frame.entry ≡ Loop i → (i ≡ node_in s.frame.entry) × T (is_loop (kind_at s.node.kind)) × (r.saves ≡ is_run s.frame.entry)

-- what is decided, beside the rule at a scene that the situation meets
pub record DecidedAt (s : Situation) (q : Code.Relation) (c : Scene) (r : Result Decided Refusal) : Type 0 where
  pub answer : said_of (answer_in r) ≡ answer_of (outcome_at c)
  pub change : (d : Decided) → r ≡ Ok d → (m : Made s q d) → ChangeIs c (changed s q d m)
  pub framed : (d : Decided) → r ≡ Ok d → Framed s d

pub record DecidedIs (s : Situation) (q : Code.Relation) (r : Result Decided Refusal) : Type 0 where
  pub at : (c : Scene) → Meets s c → DecidedAt s q c r
  -- a done step passed check 12; one that is no loop also 16, and 20 for some number of tables
  pub known : T (is_doing (said_of (answer_in r))) → Known s
  pub does : T (is_doing (said_of (answer_in r))) → T (is_step (kind_at s.node.kind)) → Doing s.node s.content q s.thread.vars
