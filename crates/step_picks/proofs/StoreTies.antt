-- What a step stores is the net after it, and what it answers is the rule's answer. Assumes nothing.
use Rattle.std.specs.Prelude.{Option, is_some, Err, Ok}
use Prim.Native.Nat.{ℕ, ◌<◌, ◌≤◌}
use mathlib.Core.Path.{◌≡◌, refl, ap, ap₂, sym, subst, ◌∙◌}
use mathlib.Core.Bool.{Bool}
use mathlib.Core.List.{List, ◌++◌}
use lib.Dec.{T, ltb, ltb→lt, lt→ltb}
use lib.ListN.{length}
use Rattle.values.specs.declared.Site.{Site}
use Rattle.values.specs.Operands.{Got}
use borrow.Author.Tests.{le-ltb}
use Rattle.values.proofs.Bools.{and_l, is_true}
use Rattle.values.proofs.ByPlace.{length_by}
use Rattle.values.proofs.Firsts.{length-firsts}
use Rattle.rows.specs.declared.Relation as Code
use Rattle.rows.specs.Relations.{Relation}
use Rattle.rows.specs.View.{relation_of}
use Rattle.nets.specs.declared.Pick.{Pick}
use Rattle.nets.specs.declared.Refusal.{Refusal}
use Rattle.nets.specs.declared.Refusal.TheVariants.{NoThread}
use Rattle.nets.specs.Answers.{Answer}
use Rattle.nets.specs.declared.Frame.{Frame}
use Rattle.step_meets.specs.Situations.{Change}
use Rattle.nets.specs.declared.Saved.{Saved}
use Rattle.nets.specs.declared.Table.{Table}
use Rattle.nets.specs.declared.Thread.{Thread}
use Rattle.nets.specs.declared.Net.{Net}
use Rattle.nets.specs.Nets as M
use Rattle.nets.specs.Nets.{Kind, acting, other, insert, insert_table, delete, update, create, drop, needs_table, is_create}
use Rattle.nets.specs.Tables.{table_at, rows_of, columns_of}
use Rattle.nets.specs.Sound.{sound}
use Rattle.nets.specs.Scenes.{Scene, scene_of, Parts, parts, site, table}
use Rattle.nets.specs.Steps.{check14, room_by, check20, settle, tables_by, threads_after, performed, checks, step}
use Rattle.nets.specs.Accounts.{net_left}
use Rattle.nets.specs.View.{no_table, kind_at, table_of, node_of, tables_of, nodes_of, thread_at, threads_of, view}
use Rattle.nets.specs.Answers.{Said, is_doing, answer_of, said_of, is_refused, StepIs}
use Rattle.step_effect.specs.EffectContracts.{puts_rows}
use Rattle.step_thread.specs.ThreadContracts.{goes_on, forks_of}
use Rattle.step_meets.specs.MeetContracts.{later_checks, outcome_at, becomes, ChangeIs}
use Rattle.step_effect.specs.TableContracts.{put_content, tables_with}
use Rattle.nets.proofs.KindClasses.{◌▸◌, of_class}
use Rattle.nets.proofs.StepLaws.{Passed, Pass, pass, given}
use Rattle.nets.proofs.AnswerLaws.{judge_said, said-passed, refuses_11}
use Rattle.nets.proofs.TablePlaces.{place_at, place-below}
use Rattle.step_picks.proofs.ListTies.{table_place, tables-put, drop-tables, net-after, done-left}
use Rattle.step_picks.proofs.SceneTies.{few-tables, few-threads, pick-there, step_is}
use Rattle.step_picks.proofs.ReadTies.{node_read, Read, node-read, site-read}

-- ── a refused step ──

-- no such thread
pub past-refused : (net : Net) (p : Pick) → T (sound (view net)) → net.threadcount ≤ p.thread → answer_of (step (view net) p) ≡ said_of (Err NoThread)
unfolding view
past-refused net p ok h =
    ap answer_of
    (refuses_11 (view net) p (is_true (sound (view net)) ok)
    (ap (ltb p.thread) (length_by (thread_at (nodes_of net.nodecount net.nodes) net.saved net.threads) 0 net.threadcount) ∙ le-ltb p.thread net.threadcount h))

-- refused by a later check
pub change-refused :
    (net : Net) (p : Pick) → T (sound (view net)) → p.thread < net.threadcount → {a : Answer} → said_of a ≡ answer_of (outcome_at (scene_of (view net) p)) → {why : Refusal} → a ≡ Err why →
    answer_of (step (view net) p) ≡ said_of (Err why)
change-refused net p ok there is says = ap answer_of (step_is net p ok there) ∙ sym is ∙ ap said_of says

-- ── a done step passed the checks ──

-- a create has room
room_create : (k : Kind) (p : Parts) (n : ℕ) → T (room_by k p n) → T (is_create k) → n < 8
room_create k p n h e = of_class (λ j. T (room_by j p n) → n < 8) is_create ((λ g. ltb→lt n 8 g) ▸ tt) k e h

-- ── its tables ──

-- the rows of the step's table give way
module _ (k : Kind) (c : Scene) (q : Relation) (e : q ≡ record { columns = columns_of (table c); rows = rows_of (table_at (site c) c.node.name (tables_by k c)) }) where
  put_as : T (puts_rows k) → T (is_some (table c)) → put_content (table_place c) q c.net.tables ≡ tables_by k c
  unfolding table
  put_as h t =
      ap (λ (r : Relation). put_content (table_place c) r c.net.tables) e
      ∙ sym (tables-put k c (table_of no_table) h t)

tables_as :
    (k : Kind) (c : Scene) (q : Relation) →
    (T (puts_rows k) → q ≡ record { columns = columns_of (table c); rows = rows_of (table_at (site c) c.node.name (tables_by k c)) }) → (T (needs_table k) → T (is_some (table c))) →
    tables_with k (table_place c) c.net.tables (site c) c.node q ≡ tables_by k c
unfolding tables_with tables_by
tables_as (acting insert) c q e h = put_as (acting insert) c q (e tt) tt (h tt)
tables_as (acting insert_table) c q e h = put_as (acting insert_table) c q (e tt) tt (h tt)
tables_as (acting delete) c q e h = put_as (acting delete) c q (e tt) tt (h tt)
tables_as (acting update) c q e h = put_as (acting update) c q (e tt) tt (h tt)
tables_as (acting create) c q e h = refl
tables_as (acting drop) c q e h = sym (drop-tables c)
tables_as (other o) c q e h = refl

-- ── a done step ──

-- the net with other tables and threads, with these numbers of them, and with other saved bindings
abbrev pub net_with : Net → List Table → ℕ → List Thread → ℕ → List Saved → Net
net_with net ts n hs m given =
    record { aliases = net.aliases; aliascount = net.aliascount; tables = ts; tablecount = n; nodes = net.nodes; nodecount = net.nodecount; threads = hs; threadcount = m; saved = given }

module _
    (net : Net) (p : Pick) (ok : T (sound (view net))) (there : p.thread < net.threadcount)
    {f : Frame} {k : ℕ} {h : Bool} {g : Got} {l : Option Site} {s : Site} {at : ℕ} {b : Bool} {q : Code.Relation} (r : Read net p f k h g l s at b q)
    {d : Change} (is : ChangeIs (scene_of (view net) p) d) where
  module _ {a t : ℕ} (says : d.answer ≡ Ok (record { added = a; taken = t })) where
    is-doing : T (is_doing (said_of d.answer))
    is-doing = subst (λ (x : Answer). T (is_doing (said_of x))) (sym says) tt

    done_at_lem : T (is_doing (answer_of (outcome_at (scene_of (view net) p))))
    done_at_lem = subst (λ (x : Said). T (is_doing x)) is.answer is-doing

    passed : Passed (later_checks (scene_of (view net) p))
    passed =
        said-passed (later_checks (scene_of (view net) p)) (answer_of (performed (scene_of (view net) p)))
        (subst (λ (x : Said). T (is_doing x)) (judge_said (later_checks (scene_of (view net) p)) (performed (scene_of (view net) p))) done_at_lem)

    table-needed : T (needs_table (scene_of (view net) p).node.kind) → T (is_some (table (scene_of (view net) p)))
    unfolding check14 checks
    table-needed n = given (needs_table (scene_of (view net) p).node.kind) (is_some (table (scene_of (view net) p))) n passed.1.1.0

    -- all checks
    pub all-passed : Pass (scene_of (view net) p)
    unfolding checks scene_of
    all-passed = pass (scene_of (view net) p) (ok, (lt→ltb p.thread (length (view net).threads) (pick-there net p ok there), passed))

    place_as : table_place (scene_of (view net) p) ≡ at
    unfolding scene_of view
    place_as =
        ap₂ (λ (z : Site) (m : M.Node). place_at z m.name (tables_of net.tablecount net.tables)) (site-read net p ok there r) (node-read net p ok there r)
        ∙ sym r.place

    -- the table that the step needs is there, and a new one has room
    pub tables-ready : (net.tablecount ≤ 8) × (T (needs_table (kind_at (node_read net k).kind)) → at < net.tablecount) × (T (is_create (kind_at (node_read net k).kind)) → net.tablecount < 8)
    unfolding table check20 checks scene_of view
    tables-ready = (few-tables net ok, below, room)
      where
        below : T (needs_table (kind_at (node_read net k).kind)) → at < net.tablecount
        below n =
            subst (λ (i : ℕ). i < net.tablecount) place_as
            (subst (λ (i : ℕ). table_place (scene_of (view net) p) < i) (length-firsts table_of no_table net.tablecount net.tables)
            (place-below (site (scene_of (view net) p)) (scene_of (view net) p).node.name (view net).tables (table-needed (subst (λ (m : M.Node). T (needs_table m.kind)) (sym (node-read net p ok there r)) n))))

        room : T (is_create (kind_at (node_read net k).kind)) → net.tablecount < 8
        room n =
            subst (λ (i : ℕ). i < 8) (length-firsts table_of no_table net.tablecount net.tables)
            (room_create (scene_of (view net) p).node.kind (parts (scene_of (view net) p)) (length (view net).tables) (and_l (room_by (scene_of (view net) p).node.kind (parts (scene_of (view net) p)) (length (view net).tables)) _ passed.1.1.1.1.1.1.1.1.0)
            (subst (λ (m : M.Node). T (is_create m.kind)) (sym (node-read net p ok there r)) n))

    -- a fork has room, and the thread that forks goes on
    pub threads-ready : (p.thread < net.threadcount) × (net.threadcount ≤ 8) × (T d.forks → (net.threadcount < 8) × (1 ≤ d.thread.depth))
    unfolding scene_of view
    threads-ready = (there, few-threads net ok, forks)
      where
        forks : T d.forks → (net.threadcount < 8) × (1 ≤ d.thread.depth)
        forks n = (subst (λ (i : ℕ). i < 8) (length_by (thread_at (nodes_of net.nodecount net.nodes) net.saved net.threads) 0 net.threadcount) (is.room n).0, (is.room n).1)

    module _
        (ts : List Table) (n : ℕ) (hs : List Thread) (m : ℕ) (given : List Saved)
        (tables : tables_of n ts ≡ tables_with (kind_at (node_read net k).kind) at (tables_of net.tablecount net.tables) s (node_of (node_read net k)) (relation_of d.content))
        (threads : threads_of (nodes_of net.nodecount net.nodes) given m hs
        ≡ settle p.thread (goes_on (becomes (nodes_of net.nodecount net.nodes) d)) (threads_of (nodes_of net.nodecount net.nodes) net.saved net.threadcount net.threads) ++ forks_of d.forks d.fork) where
      tables-stored : tables_of n ts ≡ tables_by (scene_of (view net) p).node.kind (scene_of (view net) p)
      unfolding scene_of view
      tables-stored =
          tables
          ∙ sym (ap₂ (λ (z : Site) (m : M.Node). tables_with m.kind at (tables_of net.tablecount net.tables) z m (relation_of d.content)) (site-read net p ok there r) (node-read net p ok there r))
          ∙ sym (ap (λ (i : ℕ). tables_with (scene_of (view net) p).node.kind i (view net).tables (site (scene_of (view net) p)) (scene_of (view net) p).node (relation_of d.content)) place_as)
          ∙ tables_as (scene_of (view net) p).node.kind (scene_of (view net) p) (relation_of d.content) (λ n. let c = is.content is-doing n in λ j. record { columns = c.columns j; rows = c.rows j }) table-needed

      threads-stored : threads_of (nodes_of net.nodecount net.nodes) given m hs ≡ threads_after (scene_of (view net) p)
      unfolding scene_of view
      threads-stored = threads ∙ sym (is.threads is-doing)

      pub done-is : StepIs net p (record { answer = d.answer; net = net_with net ts n hs m given })
      unfolding view scene_of
      done-is =
          record {
            answer = is.answer ∙ ap answer_of (sym (step_is net p ok there));
            after =
                (λ j. record { aliases = (view net).aliases; tables = tables-stored j; nodes = (view net).nodes; threads = threads-stored j })
                ∙ sym (net-after (scene_of (view net) p))
                ∙ sym (done-left (view net) (scene_of (view net) p) done_at_lem)
                ∙ ap (net_left (view net)) (sym (step_is net p ok there));
            kept = λ x. absurd (subst (λ (y : Answer). T (is_refused y)) says x);
          }
