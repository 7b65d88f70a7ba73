-- What a step reads of a sound net is what the scene of its pick has. Assumes nothing.
use Prim.Native.Nat.{ℕ, ◌-◌, ◌<◌, ◌≤◌}
use mathlib.Core.Path.{◌≡◌, refl, ap, ap₂, sym, subst, ◌∙◌}
use mathlib.Core.Bool.{Bool, true, false, cond}
use Rattle.std.specs.Prelude.{Option, None, Some, is_some}
use native.Mathlib.Omega.{arith}
use lib.Dec.{T, ltb, lt→ltb}
use borrow.Author.Tests.{ltb-true}
use lib.ListN.{length, get_or, get_or-map}
use Rattle.values.specs.declared.Site.{Site}
use Rattle.values.specs.Operands.{Got}
use Rattle.values.specs.Lists.{or_else}
use Rattle.std.specs.List.{list_all, list_any}
use Rattle.values.specs.Operands.{eval}
use Rattle.values.proofs.ListLaws.{all_weaken}
use Rattle.values.proofs.ByPlace.{length_by}
use Rattle.values.proofs.Firsts.{length-firsts, firsts_at}
use Rattle.rows.specs.declared.Relation as Code
use Rattle.rows.specs.Relations.{no_relation}
use Rattle.rows.specs.View.{relation_of}
use Rattle.nets.specs.declared.Pick.{Pick}
use Rattle.nets.specs.declared.Frame.{Frame}
use Rattle.nets.specs.declared.Thread.{Thread}
use Rattle.nets.specs.declared.Node.{Node}
use Rattle.step_meets.specs.Situations.{Situation, situation}
use Rattle.nets.specs.declared.Net.{Net}
use Rattle.nets.specs.Nets as M
use Rattle.nets.specs.Nets.{binds_relation}
use Rattle.nets.specs.Tables.{table_at, content_of}
use Rattle.nets.specs.Sound as S
use Rattle.nets.specs.Sound.{sound, entry_node, entry_ok}
use Rattle.nets.specs.Scenes.{scene_of, top, site_of_got, site_of_l, site, table}
use Rattle.nets.specs.Steps.{holds}
use Rattle.nets.specs.View.{no_site, no_table, no_frame, no_node, no_variable, variable_of, kind_at, node_of, table_of, node_in, entry_of, thread_of, aliases_of, tables_of, nodes_of, thread_at, view}
use Rattle.step_meets.specs.MeetContracts.{Meets, Fine, relation_read}
use Rattle.step_thread.specs.ThreadContracts.{Stacked}
use Rattle.nets.proofs.StackView.{stack_cons, entry-node_in}
use Rattle.nets.proofs.SureLaws.{entry-node}
use Rattle.nets.proofs.TablePlaces.{place_at}
use Rattle.step_picks.proofs.SceneTies.{thread_in, saved_in, thread_seen, few-nodes, few-threads, node-below, pick-there, scene_thread, thread-ok, thread-entries, situation-fine, table-found, table-read}

abbrev pub node_read : Net → ℕ → Node
node_read net k = get_or net.nodes k no_node

-- the entry of the top frame `f`
abbrev pub top_entry : Net → Pick → Frame → M.Entry
top_entry net p f = entry_of (saved_in net p.thread ((thread_in net p.thread).depth - 1)) f

-- the top frame `f`, its node's number `k`, whether a loop entry holds the table variable that the node binds, what L gives and where it leads, and
-- the place of the table there, whether it is one, and its content
pub record Read (net : Net) (p : Pick) (f : Frame) (k : ℕ) (h : Bool) (g : Got) (l : Option Site) (s : Site) (at : ℕ) (b : Bool) (q : Code.Relation) : Type 0 where
  pub frame : top_entry net p f ≡ top (thread_seen net p.thread).stack
  pub number : k ≡ node_in f.entry
  pub held : T (binds_relation (kind_at (node_read net k).kind)) → h ≡ list_any (holds (nodes_of net.nodecount net.nodes) (node_read net k).bound) (thread_seen net p.thread).stack
  pub got : g ≡ eval (thread_in net p.thread).vars (node_read net k).locality
  pub located : l ≡ site_of_got (aliases_of net.aliascount net.aliases) (thread_in net p.thread).site g
  pub site : s ≡ or_else no_site l
  pub place : at ≡ place_at s (node_read net k).name (tables_of net.tablecount net.tables)
  pub found : b ≡ ltb at net.tablecount
  pub content : relation_of q ≡ content_of (cond (ltb at net.tablecount) (Some (get_or (tables_of net.tablecount net.tables) at (table_of no_table))) None)

-- the situation made of it
abbrev pub situation_in : Net → Pick → Frame → ℕ → Bool → Option Site → Bool → Code.Relation → Situation
situation_in net p f k h l b q =
    situation (thread_in net p.thread) (saved_in net p.thread) f (node_read net k) q
    (record { located = l; found = b; held = h; tables = net.tablecount; threads = net.threadcount; row = p.row })

-- the content of the table at a place, or none
pub shown_content : (net : Net) (at slot : ℕ) (found : Bool) (q : Code.Relation) → slot ≡ cond (ltb at net.tablecount) at 0 → found ≡ ltb at net.tablecount →
    relation_of q ≡ cond found (relation_of (get_or net.tables slot no_table).content) no_relation →
    relation_of q ≡ content_of (cond (ltb at net.tablecount) (Some (get_or (tables_of net.tablecount net.tables) at (table_of no_table))) None)
shown_content net at slot found q e d c = c ∙ ap₂ (λ (b : Bool) (i : ℕ). cond b (relation_of (get_or net.tables i no_table).content) no_relation) d e ∙ go (ltb at net.tablecount) refl
  where
    go :
        (b : Bool) → ltb at net.tablecount ≡ b →
        cond b (relation_of (get_or net.tables (cond b at 0) no_table).content) no_relation ≡ content_of (cond b (Some (get_or (tables_of net.tablecount net.tables) at (table_of no_table))) None)
    go true h = sym (ap (λ (t : M.Table). t.content) (firsts_at table_of no_table net.tablecount net.tables at (table_of no_table) (ltb-true at net.tablecount h)))
    go false h = refl

module _ (net : Net) (p : Pick) (ok : T (sound (view net))) (there : p.thread < net.threadcount) where
  pub thread-below : p.thread < 8
  thread-below = omega (arith, few-threads net ok)

  -- the entries of the stack name nodes
  pub entries-there : T (list_all (λ x. ltb (entry_node x) net.nodecount) (thread_seen net p.thread).stack)
  unfolding view
  entries-there =
      all_weaken (entry_ok (view net).nodes (thread_seen net p.thread).bindings.relations) (λ x. ltb (entry_node x) net.nodecount) (thread_seen net p.thread).stack
      (λ x h.
      lt→ltb (entry_node x) net.nodecount
      (subst (λ (n : ℕ). entry_node x < n) (length-firsts node_of no_node net.nodecount net.nodes) (entry-node (view net).nodes (thread_seen net p.thread).bindings.relations x h)))
      (thread-entries (view net).nodes (thread_seen net p.thread) (thread-ok net p ok there))

  -- ── the node ──

  module _ {x : M.Entry} (top-is : x ≡ top (thread_seen net p.thread).stack) where
    scene_entry : (scene_of (view net) p).entry ≡ x
    unfolding scene_of
    scene_entry = ap (λ (t : M.Thread). top t.stack) (scene_thread net p ok there) ∙ sym top-is

    module _ {k : ℕ} (number : k ≡ entry_node x) where
      scene_number : entry_node (scene_of (view net) p).entry ≡ k
      scene_number = ap entry_node scene_entry ∙ sym number

      node-there : k < net.nodecount
      unfolding view
      node-there =
          subst (λ (n : ℕ). k < n) (length-firsts node_of no_node net.nodecount net.nodes)
          (subst (λ (i : ℕ). i < length (view net).nodes) scene_number (node-below (view net) p ok (pick-there net p ok there)))

      pub number-below : k < 128
      number-below = omega (arith, node-there, few-nodes net ok)

      pub own-there : get_or (nodes_of net.nodecount net.nodes) k S.no_node ≡ node_of (node_read net k)
      own-there = firsts_at node_of no_node net.nodecount net.nodes k S.no_node node-there

      scene_node : (scene_of (view net) p).node ≡ node_of (node_read net k)
      unfolding scene_of view
      scene_node =
          ap (λ (i : ℕ). get_or (view net).nodes i S.no_node) scene_number
          ∙ firsts_at node_of no_node net.nodecount net.nodes k S.no_node node-there

  -- ── all that is read ──

  module _ {f : Frame} {k : ℕ} {h : Bool} {g : Got} {l : Option Site} {s : Site} {at : ℕ} {b : Bool} {q : Code.Relation} (r : Read net p f k h g l s at b q) where
    pub node-read : (scene_of (view net) p).node ≡ node_of (node_read net k)
    node-read = scene_node r.frame (r.number ∙ sym (entry-node_in (saved_in net p.thread ((thread_in net p.thread).depth - 1)) f))

    located-read : site_of_l (scene_of (view net) p) ≡ l
    unfolding site_of_l scene_of view
    located-read =
        ap₂ (λ (t : M.Thread) (d : M.Node). site_of_got (aliases_of net.aliascount net.aliases) t.site (eval t.bindings.vars d.locality)) (scene_thread net p ok there) node-read
        ∙ ap (site_of_got (aliases_of net.aliascount net.aliases) (thread_in net p.thread).site) (sym r.got)
        ∙ sym r.located

    pub site-read : site (scene_of (view net) p) ≡ s
    unfolding site
    site-read = ap (or_else no_site) located-read ∙ sym r.site

    found-read : table (scene_of (view net) p) ≡ table_at s (node_read net k).name (tables_of net.tablecount net.tables)
    unfolding table scene_of view
    found-read = ap₂ (λ (z : Site) (d : M.Node). table_at z d.name (tables_of net.tablecount net.tables)) site-read node-read

    held-read : T (binds_relation (scene_of (view net) p).node.kind) → h ≡ list_any (holds (scene_of (view net) p).net.nodes (scene_of (view net) p).node.bound) (scene_of (view net) p).thread.stack
    unfolding scene_of view
    held-read t =
        r.held (subst (λ (d : M.Node). T (binds_relation d.kind)) node-read t)
        ∙ sym (ap₂ (λ (u : M.Thread) (d : M.Node). list_any (holds (nodes_of net.nodecount net.nodes) d.bound) u.stack) (scene_thread net p ok there) node-read)

    pub read_meets : Meets (situation_in net p f k h l b q) (scene_of (view net) p)
    unfolding scene_of view
    read_meets =
        record {
          thread = scene_thread net p ok there;
          entry = scene_entry r.frame;
          node = node-read;
          located = located-read;
          found = r.found ∙ ap (λ (i : ℕ). ltb i net.tablecount) r.place ∙ sym (ap is_some found-read ∙ table-found s (node_read net k).name net.tablecount net.tables);
          content =
              r.content
              ∙ ap (λ (i : ℕ). content_of (cond (ltb i net.tablecount) (Some (get_or (tables_of net.tablecount net.tables) i (table_of no_table))) None)) r.place
              ∙ ap content_of (table-read s (node_read net k).name net.tablecount net.tables ∙ sym found-read);
          held = held-read;
          tables = sym (length-firsts table_of no_table net.tablecount net.tables);
          threads = sym (length_by (thread_at (nodes_of net.nodecount net.nodes) net.saved net.threads) 0 net.threadcount);
          row = refl;
        }

    pub read-fine : Fine (situation_in net p f k h l b q)
    read-fine = situation-fine net p ok there (situation_in net p f k h l b q) read_meets

-- ── places that are read ──

-- the frame that is read is the top
pub frame-top : (bs : ℕ → M.Bindings) (t : Thread) → 1 ≤ t.depth → entry_of (bs (t.depth - 1)) (get_or t.stack (t.depth - 1) no_frame) ≡ top (thread_of bs t).stack
frame-top bs t h = sym (ap top (stack_cons bs t.depth t.stack h))

-- the table variable that is read
pub variable-read : (s : Situation) → variable_of (get_or s.thread.relations s.node.read no_variable) ≡ relation_read s
variable-read s = sym (get_or-map variable_of s.thread.relations s.node.read no_variable)

-- a place within the array
pub slot_below : (net : Net) (at slot : ℕ) → net.tablecount ≤ 8 → slot ≡ cond (ltb at net.tablecount) at 0 → slot < 8
slot_below net at slot few e = subst (λ (i : ℕ). i < 8) (sym e) (go (ltb at net.tablecount) refl)
  where
    go : (b : Bool) → ltb at net.tablecount ≡ b → cond b at 0 < 8
    go true h = omega (arith, ltb-true at net.tablecount h)
    go false h = omega arith

-- the place above the top
pub over_below : (t : Thread) (top above : ℕ) → Stacked t → top ≡ t.depth - 1 → above ≡ cond (ltb t.depth 8) t.depth top → above < 8
over_below t top above k e h = subst (λ (i : ℕ). i < 8) (sym h) (go (ltb t.depth 8) refl)
  where
    go : (b : Bool) → ltb t.depth 8 ≡ b → cond b t.depth top < 8
    go true x = ltb-true t.depth 8 x
    go false x = omega (arith, k.some, k.few)
