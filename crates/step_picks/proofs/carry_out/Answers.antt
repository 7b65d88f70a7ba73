-- `step_picks::carry_out` meets its contract. Of each pick: what it reads is what the scene of the pick has (`read`), `decide` says what the pick comes to
-- there, its answer goes to its place in the buffer, and what is stored is the net after the step. Assumes nothing.
use Prim.Native.Nat.{ℕ, ◌+◌, ◌-◌, ◌*◌, ◌/◌, ◌%◌, ◌<◌, ◌≤◌, ◌^◌}
use mathlib.Core.Path.{◌≡◌, refl, sym, ap, ap₂, subst, ◌∙◌}
use mathlib.Core.Bool.{Bool, true, false, not, cond, ◌&&◌}
use mathlib.Core.List.{List, [], ◌∷◌, ◌++◌, map}
use Rattle.std.specs.Prelude.{Option, None, Some, Ok, is_some, unwrap_or}
use Rattle.values.specs.Operands.{Got}
use native.Mathlib.Omega.{arith}
use borrow.Author.Rules.{rules}
use borrow.Author.Tests.{ne_eqb, lt-ltb, ltb-true}
use lib.Dec.{T, leb, leb→le, ltb, ltb→lt, lt→ltb, eqb→eq}
use lib.ListN.{length, get_or, set, length-set, length-map}
use lib.Seq.{take_all, get_or-set_other}
use Rattle.value_bytes.specs.Bytes.{put_at}
use Rattle.values.specs.declared.Site.{Site}
use Rattle.std.specs.List.{list_any}
use Rattle.values.proofs.Arrays.{long}
use Rattle.rows.specs.declared.Relation.{Relation}
use Rattle.rows.specs.View.{relation_of}
use Rattle.nets.specs.declared.Pick.{Pick}
use Rattle.nets.specs.declared.Net.{Net}
use Rattle.nets.specs.Answers.{Answer}
use Rattle.nets.specs.View.{TableVariable}
use Rattle.nets.specs.declared.Saved.{Saved}
use Rattle.nets.specs.declared.Table.{Table}
use Rattle.nets.specs.declared.Thread.{Thread}
use Rattle.nets.specs.declared.Entry.{Entry}
use Rattle.nets.specs.declared.Entry.TheVariants.{Run, Loop}
use Rattle.nets.specs.declared.Frame.{Frame}
use Rattle.nets.specs.declared.Node.{Node}
use Rattle.nets.specs.Nets as M
use Rattle.nets.specs.Nets.{binds_relation, needs_table, is_create, is_sequential, to_run}
use Rattle.nets.specs.Sound as S
use Rattle.nets.specs.Sound.{sound, bindings_ok, entry_node}
use Rattle.nets.specs.Scenes.{scene_of, top}
use Rattle.nets.specs.Steps.{holds, rows_by, bound_by, restored, settle}
use Rattle.nets.specs.Accounts.{answers}
use Rattle.nets.specs.Answers.{is_doing, said_of}
use Rattle.nets.specs.View.{no_alias, table_of, no_content, no_variable, no_saved, no_frame, no_table, no_thread, no_node, no_pick, kind_at, nodes_of, stack_of, variable_of, node_of, node_in, bindings_of, thread_of, saved_of, read_at, saved_at, tables_of, threads_of, view}
use Rattle.step_bytes.specs.PickBytes.{picks_in}
use Rattle.step_bytes.proofs.PickLaws.{picks-length}
use Rattle.step_bytes.specs.AnswerBytes.{answer_bytes}
use Rattle.step_bytes.proofs.AnswerLaws.{put-none, put-more, put-length, put-over}
use Rattle.step_meets.specs.Situations.{Situation, Rest, Change, over_of, moved, saved_after, answer_in, starts_thread, vars_started}
use Rattle.step_meets.specs.declared.Decided.{Decided}
use Rattle.row_change.specs.ChangeContracts.{Holds}
use Rattle.step_effect.specs.EffectContracts.{puts_rows, StepReady}
use Rattle.step_thread.specs.ThreadContracts.{is_run, Stacked, goes_on, forks_of}
use Rattle.step_meets.specs.MeetContracts.{Fine, Sourced, Meets, own_bindings, DecidedIs, parts_in, becomes, Made, changed, ChangeIs, Framed}
use Rattle.step_meets.proofs.LoopChangeLaws.{loop-relations}
use Rattle.step_meets.proofs.SituationLaws.{fine-read, fine-bound, sourced, judge_ready, step-ready}
use Rattle.value_totals.specs.declared.Total.{Total}
use Rattle.step_effect.specs.TableContracts.{tables_with}
use Rattle.nets.proofs.StackView.{entry-node_in}
use Rattle.nets.proofs.StepLaws.{Pass}
use Rattle.step_left.specs.Carried.{Reached, reached_by, CarriedIs}
use Rattle.step_left.proofs.CarriedLaws.{OnePick, carried_none, carried_again, carried_room, said_here, pick-refused, pick-done}
use Rattle.values.proofs.Bools.{and_l, and_r, is_true, T_of}
use Rattle.nets.specs.Answers.{StepIs}
use Rattle.nets.specs.Tables.{is_at}
use Rattle.nets.specs.Scenes.{site_of_got}
use Rattle.nets.specs.declared.Alias.{Alias}
use Rattle.values.proofs.Firsts.{take_firsts}
use Rattle.nets.proofs.TablePlaces.{place_at, position-place, place-some, place-or_first}
use Rattle.values.proofs.Firsts.{firsts_at}
use Rattle.values.proofs.RemoveLaws.{Closing, closing_copied}
use Rattle.step_picks.proofs.HeldLaws.{run_skips, loop-counts, loop-there}
use Rattle.step_picks.proofs.SceneTies.{thread_in, saved_in, thread_seen, few-tables, few-nodes, few-threads, few-aliases, thread-stacked, stack-all}
use Rattle.step_picks.proofs.ReadTies.{node_read, top_entry, Read, situation_in, shown_content, thread-below, entries-there, number-below, read_meets, read-fine, frame-top, variable-read, slot_below, over_below, own-there}
use Rattle.step_picks.proofs.PlainTies.{puts_step, binds-step, table-gives_way, tables_stay, table_created, table-dropped, as_moved, bound-set, bound-none}
use Rattle.step_picks.proofs.StoreTies.{past-refused, change-refused, all-passed, tables-ready, threads-ready, net_with, done-is}
use Rattle.step_picks.proofs.ThreadTies.{Kept, kept-saved, kept_same, thread-stays, thread-forks, Shifting, shifting_starts, shifting_skips, shifting_moves, thread_gone}
use Rattle.step_picks.proofs.SavedTies.{SeesSame, top-holds, thread-stored, none-back, other-back, thread-back}
use Rattle.step_picks.proofs.AgreeTies as AgreeTies
use Rattle.step_picks.proofs.AgreeTies.{sees_bound, agrees-below}
use Rattle.step_picks.proofs.carry_out.Lts.View as View
use Rattle.step_picks.proofs.Behind.{Sized, Behind, with_saved}
use Rattle.step_picks.proofs.carry_out.Goals as goal
use Rattle.step_picks.proofs.carry_out.Goals.{After-add_count-taken, After-binds_relation-binds, After-bound_tables-bound_flags, After-close_up-then-decided-eq0, After-decide-decision, After-find_table-place, After-forked, After-loop-i, After-node_of-outer_number, After-pick_at-pick, After-unwrap_or-slot, After-run_frame, After-shown-content, After-site_of-located, After-site_or_any-site, After-source_of-source, At-loop-i, Else-decided-eq0, Else-threadcount-thread_place, In-Ok, In-loop-hole, In-loop-level, Joined-binds, Joined-binds-2, Joined-decided, Joined-decided-depth, Joined-kind, Then-decided, Then-decided-depth, Then-decided-eq0, Then-ends_round, Then-puts_rows, Then-threadcount-thread_place, then-binds+else-loop-level-test, else-binds, then-binds-2, else-binds-2, in-23, in-24, in_default-kind+then-puts_rows, in_default-kind+else-puts_rows, then-decided, else-decided, then-decided-depth+then-ends_round, then-decided-depth+else-ends_round, else-decided-depth, then-hole-net, else-hole-net}

-- ── invariants ──

-- ── where a pick begins ──

abbrev At : Type 0
At = At-loop-i

abbrev net_at : At → Net
net_at l = l.loop-i.net

-- the net, the picks and the buffer that came in, and whether there is room for all answers
abbrev from_of : At → Net
from_of l = l.args.from

abbrev bytes_at : At → List ℕ
bytes_at l = l.args.picks.now

abbrev picks_at : At → List Pick
picks_at l = picks_in (bytes_at l)

abbrev lent_at : At → List ℕ
lent_at l = l.args.out.now

abbrev room_at : At → Bool
room_at l = l.has_room-room.result

-- what the picks before left
abbrev reached_at : At → Reached
reached_at l = record { net = l.loop-i.net; answer = l.loop-i.answer; added = l.loop-i.added; taken = l.loop-i.taken }

-- as many picks as the loop counts
count-is : (l : At) → length (bytes_at l) / 2 ≡ length (picks_at l)
count-is l = let h = picks-length (bytes_at l) in omega (arith, h.0, h.1)

pub loop-i-init : goal.loop-i-init
loop-i-init c =
    record {
      carried = carried_none _ _ _ c.zero-added.ensures c.zero-taken.ensures;
      put = put-none _ _ _;
      upto = omega arith;
      size = refl;
      sized =
          record {
            aliases = search (long, rules);
            tables = search (long, rules);
            threads = search (long, rules);
            saved = search (long, rules);
            same_aliases = refl;
            same_alias_count = refl;
            same_nodes = refl;
            same_node_count = refl;
          };
    }

pub pick_at-pick-requires : goal.pick_at-pick-requires
pick_at-pick-requires c = let h = c.loop-i-test.true in omega (arith, h)

-- ── the pick ──

abbrev Picked : Type 0
Picked = After-pick_at-pick

abbrev at_of : Picked → At
at_of e = (View.at-After-pick_at-pick _ _ _ _ _ _ _ _ _ _ e).At-loop-i

abbrev pick_of : Picked → Pick
pick_of e = e.pick_at-pick.result

-- how many picks the loop goes through, as its test says
abbrev bound : {i n : ℕ} → i < n → ℕ
bound {n = n} h = n

abbrev count_of : Picked → ℕ
count_of e = bound e.loop-i-test.true

left_over : (e : Picked) → (at_of e).loop-i.i < length (picks_at (at_of e))
left_over e = let h = e.loop-i-test.true in omega (arith, h, count-is (at_of e))

-- where a pick is left the net is sound
ok : (e : Picked) → T (sound (view (net_at (at_of e))))
ok e = let l = at_of e in let h = e.loop-i-test.true in l.loop-i.invariant.carried.sound (l.requires (omega (arith, h)))

-- the answer has its place
within : (e : Picked) → T (room_at (at_of e)) → (at_of e).loop-i.i * 24 + 24 ≤ length (at_of e).loop-i.out
within e h =
    let l = at_of e in
    let k = e.loop-i-test.true in
    let room : count_of e * 24 ≤ length (lent_at l) = leb→le _ _ (subst T l.has_room-room.ensures h) in
    omega (arith, k, room, l.loop-i.invariant.size)

-- one pick more
more :
    (e : Picked) {n : Net} {x : Answer} {u v : Total} {out : List ℕ} → OnePick (reached_at (at_of e)) (pick_of e) (record { net = n; answer = x; added = u; taken = v }) →
    out ≡ cond (room_at (at_of e)) (put_at ((at_of e).loop-i.i * 24) (answer_bytes (said_of x)) (at_of e).loop-i.out) (at_of e).loop-i.out → Sized (from_of (at_of e)) n →
    Behind (bytes_at (at_of e)) (lent_at (at_of e)) (count_of e) (room_at (at_of e)) (from_of (at_of e)) out (record { net = n; answer = x; added = u; taken = v }) ((at_of e).loop-i.i + 1)
more e {n} {x} {u} {v} {out} t o z =
    let l = at_of e in
    let h = e.loop-i-test.true in
    let at = subst (λ (p : Pick). OnePick (reached_at l) p (record { net = n; answer = x; added = u; taken = v })) e.pick_at-pick.ensures t in
    record {
      carried = carried_again (from_of l) (picks_at l) l.loop-i.i no_pick (reached_at l) _ (left_over e) l.loop-i.invariant.carried at;
      put =
          put-more (room_at l) l.loop-i.i (answers (view (from_of l)) (picks_at l)) (lent_at l) l.loop-i.out out (said_of x) l.loop-i.invariant.put
          (said_here (from_of l) (picks_at l) l.loop-i.i no_pick (reached_at l) x (left_over e) l.loop-i.invariant.carried at.step.answer) o;
      upto = omega (arith, h);
      size = put-length (room_at l) l.loop-i.i (said_of x) l.loop-i.out out (within e) o ∙ l.loop-i.invariant.size;
      sized = z;
    }

-- ── no such thread ──

pub put_answer_at-requires : goal.put_answer_at-requires
put_answer_at-requires c = within (goal.at.put_answer_at-requires c).After-pick_at-pick

pub loop-i-preserved-then-threadcount-thread_place : goal.loop-i-preserved-then-threadcount-thread_place
loop-i-preserved-then-threadcount-thread_place c =
    let t = (goal.at.loop-i-preserved-then-threadcount-thread_place c).Then-threadcount-thread_place in
    let e = (View.at-Then-threadcount-thread_place _ _ _ _ _ _ _ _ _ _ t).After-pick_at-pick in
    let l = at_of e in
    more e (pick-refused (reached_at l) (pick_of e) _ refl (past-refused (net_at l) (pick_of e) (ok e) t.if-threadcount-thread_place.true)) c.put_answer_at.ensures l.loop-i.invariant.sized

-- ── the thread and its node ──

abbrev There : Type 0
There = Else-threadcount-thread_place

abbrev picked_of : There → Picked
picked_of e = (goal.at.bounds-net-thread_place e).After-pick_at-pick

abbrev net_of : There → Net
net_of e = net_at (at_of (picked_of e))

abbrev pick_at : There → Pick
pick_at e = pick_of (picked_of e)

okay : (e : There) → T (sound (view (net_of e)))
okay e = ok (picked_of e)

there : (e : There) → (pick_at e).thread < (net_of e).threadcount
there e = e.if-threadcount-thread_place.false

pub bounds-net-thread_place : goal.bounds-net-thread_place
bounds-net-thread_place c = thread-below (net_of c) (pick_at c) (okay c) (there c)

stacked-at : (e : There) → Stacked (thread_in (net_of e) (pick_at e).thread)
stacked-at e = thread-stacked (net_of e) (pick_at e) (okay e) (there e)

pub overflow_sub-top : goal.overflow_sub-top
overflow_sub-top c = (stacked-at (goal.at.overflow_sub-top c).Else-threadcount-thread_place).some

pub offset_bounds-thread-top : goal.offset_bounds-thread-top
offset_bounds-thread-top c = record { fits = let k = stacked-at (goal.at.offset_bounds-thread-top c).Else-threadcount-thread_place in omega (arith, k.some, k.few) }

pub bounds-thread-top : goal.bounds-thread-top
bounds-thread-top c = let k = stacked-at (goal.at.bounds-thread-top c).Else-threadcount-thread_place in omega (arith, k.some, k.few)

abbrev frame_at : There → Frame
frame_at e = let t = thread_in (net_of e) (pick_at e).thread in get_or t.stack (t.depth - 1) no_frame

top-is : (e : There) → top_entry (net_of e) (pick_at e) (frame_at e) ≡ top (thread_seen (net_of e) (pick_at e).thread).stack
top-is e = frame-top (saved_in (net_of e) (pick_at e).thread) (thread_in (net_of e) (pick_at e).thread) (stacked-at e).some

-- its node, as the entry names it
number_is : (e : There) {k : ℕ} → k ≡ node_in (frame_at e).entry → k ≡ entry_node (top_entry (net_of e) (pick_at e) (frame_at e))
number_is e h = h ∙ sym (entry-node_in (saved_in (net_of e) (pick_at e).thread ((thread_in (net_of e) (pick_at e).thread).depth - 1)) (frame_at e))

pub bounds-net-node_number : goal.bounds-net-node_number
bounds-net-node_number c = let e = (goal.at.bounds-net-node_number c).Else-threadcount-thread_place in number-below (net_of e) (pick_at e) (okay e) (there e) (top-is e) (number_is e c.node_of-node_number.ensures)

-- ── whether a loop entry holds the table variable to be bound ──

abbrev Binds : Type 0
Binds = After-binds_relation-binds

abbrev there_of : Binds → There
there_of b = (View.at-After-binds_relation-binds _ _ _ _ _ _ _ _ _ _ b).Else-threadcount-thread_place

abbrev number_at : Binds → ℕ
number_at b = b.node_of-node_number.result

pub loop-level-init : goal.loop-level-init
loop-level-init c = (omega arith, refl)

-- a frame in use
frame-few : (c : In-loop-level) → c.loop-level.level < 8
frame-few c = let h = c.loop-level-test.true in let k = stacked-at (there_of (goal.at.offset_bounds-thread-level c).After-binds_relation-binds) in omega (arith, h, k.few)

pub offset_bounds-thread-level : goal.offset_bounds-thread-level
offset_bounds-thread-level c = record { fits = let h = frame-few c in omega (arith, h) }

pub bounds-thread-level : goal.bounds-thread-level
bounds-thread-level c = frame-few c

pub loop-level-preserved-in-Run : goal.loop-level-preserved-in-Run
loop-level-preserved-in-Run c =
    let i = (goal.at.loop-level-preserved-in-Run c).In-loop-level in
    let h = i.loop-level-test.true in
    let b = (goal.at.offset_bounds-thread-level i).After-binds_relation-binds in
    let n = net_of (there_of b) in
    (omega (arith, h), run_skips (saved_in n (pick_at (there_of b)).thread) n.nodecount (node_read n (number_at b)).bound n.nodes (thread_in n (pick_at (there_of b)).thread).stack i.loop-level.level i.loop-level.invariant.1 c.in-Run.is)

-- the node of a loop entry is there
node-there : (i : In-loop-level) {k : ℕ} → let e = there_of (goal.at.offset_bounds-thread-level i).After-binds_relation-binds in
    (get_or (thread_in (net_of e) (pick_at e).thread).stack i.loop-level.level no_frame).entry ≡ Loop k → k < (net_of e).nodecount
node-there i is =
    let e = there_of (goal.at.offset_bounds-thread-level i).After-binds_relation-binds in
    loop-there (saved_in (net_of e) (pick_at e).thread) (thread_in (net_of e) (pick_at e).thread).stack (entries-there (net_of e) (pick_at e) (okay e) (there e)) i.loop-level-test.true is

pub bounds-net-n : goal.bounds-net-n
bounds-net-n c =
    let i = (goal.at.bounds-net-n c).In-loop-level in
    let e = there_of (goal.at.bounds-net-n c).After-binds_relation-binds in
    omega (arith, node-there i c.in-Loop.is, few-nodes (net_of e) (okay e))

pub loop-level-preserved : goal.loop-level-preserved
loop-level-preserved c =
    let i = (goal.at.loop-level-preserved c).In-loop-level in
    let h = i.loop-level-test.true in
    let b = (goal.at.offset_bounds-thread-level i).After-binds_relation-binds in
    let n = net_of (there_of b) in
    (omega (arith, h), loop-counts (saved_in n (pick_at (there_of b)).thread) n.nodecount (node_read n (number_at b)).bound n.nodes (thread_in n (pick_at (there_of b)).thread).stack i.loop-level.level i.loop-level.invariant.1 c.in-Loop.is (node-there i c.in-Loop.is))

abbrev Held : Type 0
Held = Joined-binds

abbrev binds_of : Held → Binds
binds_of j = (View.at-Joined-binds _ _ _ _ _ _ _ _ _ _ j).After-binds_relation-binds

-- judged where the node binds one
held_at :
    (j : Held) →
    T (binds_relation (kind_at (node_read (net_of (there_of (binds_of j))) (number_at (binds_of j))).kind)) →
    j.if-binds.held
    ≡ list_any (holds (nodes_of (net_of (there_of (binds_of j))).nodecount (net_of (there_of (binds_of j))).nodes) (node_read (net_of (there_of (binds_of j))) (number_at (binds_of j))).bound)
    (thread_seen (net_of (there_of (binds_of j))) (pick_at (there_of (binds_of j))).thread).stack
held_at j h =
    let e = there_of (binds_of j) in
    let n = net_of e in
    let t = thread_in n (pick_at e).thread in
    elim j.if-binds.branch [
      | then-binds+else-loop-level-test w ↦
          let same : w.loop-level.level ≡ t.depth = omega (arith, w.loop-level.invariant.0, w.loop-level-test.false) in
          w.held-is
          ∙ subst (λ (q : ℕ). w.loop-level.held ≡ list_any (holds (nodes_of n.nodecount n.nodes) (node_read n (number_at (binds_of j))).bound) (stack_of (saved_in n (pick_at e).thread) q t.stack)) same w.loop-level.invariant.1
      | else-binds w ↦ absurd (subst T (sym j.binds_relation-binds.ensures ∙ w.if-binds.false) h)
    ]

-- ── where L leads, and the table there ──

pub shared_ref_as_front-aliases : goal.shared_ref_as_front-aliases
shared_ref_as_front-aliases c =
    let e = there_of (goal.at.shared_ref_as_front-aliases c).After-binds_relation-binds in
    let long = (at_of (picked_of e)).loop-i.invariant.sized.aliases in
    let few = few-aliases (net_of e) (okay e) long in
    omega (arith, few, long)

pub shared_ref_as_front-find_table : goal.shared_ref_as_front-find_table
shared_ref_as_front-find_table c =
    let e = there_of (goal.at.shared_ref_as_front-find_table c).After-binds_relation-binds in
    let eight = (at_of (picked_of e)).loop-i.invariant.sized.tables in
    let few = few-tables (net_of e) (okay e) in
    omega (arith, few, eight)

-- the places of what is read before the slot of the step's table
abbrev slot_there : After-unwrap_or-slot → There
slot_there c = there_of (goal.at.offset_bounds-net-slot c).After-binds_relation-binds

abbrev found_in : After-unwrap_or-slot → After-find_table-place
found_in c = (goal.at.offset_bounds-net-slot c).After-find_table-place

abbrev site_in : After-unwrap_or-slot → After-site_or_any-site
site_in c = (View.at-After-find_table-place _ _ _ _ _ _ _ _ _ _ (found_in c)).After-site_or_any-site

-- the place of the step's table; past the tables where there is none
abbrev at_in : After-unwrap_or-slot → ℕ
at_in c =
    let n = net_of (slot_there c) in
    place_at (site_in c).site_or_any-site.result (node_read n (number_at (goal.at.offset_bounds-net-slot c).After-binds_relation-binds)).name (tables_of n.tablecount n.tables)

found-at : (c : After-unwrap_or-slot) → (found_in c).find_table-place.result ≡ cond (ltb (at_in c) (net_of (slot_there c)).tablecount) (Some (at_in c)) None
found-at c =
    let e = slot_there c in
    let few = few-tables (net_of e) (okay e) in
    let eight = (at_of (picked_of e)).loop-i.invariant.sized.tables in
    (found_in c).find_table-place.ensures ∙ position-place (is_at (site_in c).site_or_any-site.result _) table_of no_table (net_of e).tablecount (net_of e).tables (omega (arith, few, eight))

-- the slot is that place, or the first one of the array
slot-at : (c : After-unwrap_or-slot) → c.unwrap_or-slot.result ≡ cond (ltb (at_in c) (net_of (slot_there c)).tablecount) (at_in c) 0
slot-at c = c.unwrap_or-slot.ensures ∙ place-or_first (at_in c) (net_of (slot_there c)).tablecount (found_in c).find_table-place.result (found-at c)

slot-few : (c : After-unwrap_or-slot) → c.unwrap_or-slot.result < 8
slot-few c = let e = slot_there c in slot_below (net_of e) _ _ (few-tables (net_of e) (okay e)) (slot-at c)

pub offset_bounds-net-slot : goal.offset_bounds-net-slot
offset_bounds-net-slot c = record { fits = let h = slot-few c in omega (arith, h) }

pub bounds-net-slot : goal.bounds-net-slot
bounds-net-slot c = slot-few c

-- ── all that is read ──

abbrev Shown : Type 0
Shown = After-shown-content

abbrev held_of : Shown → Held
held_of s = (View.at-After-shown-content _ _ _ _ _ _ _ _ _ _ s).Joined-binds

abbrev slot_of : Shown → After-unwrap_or-slot
slot_of s = (View.at-After-shown-content _ _ _ _ _ _ _ _ _ _ s).After-unwrap_or-slot

abbrev place_of : Shown → After-find_table-place
place_of s = (goal.at.offset_bounds-net-slot (slot_of s)).After-find_table-place

abbrev site_of : Shown → After-site_or_any-site
site_of s = (View.at-After-find_table-place _ _ _ _ _ _ _ _ _ _ (place_of s)).After-site_or_any-site

abbrev located_of : Shown → After-site_of-located
located_of s = (View.at-After-site_or_any-site _ _ _ _ _ _ _ _ _ _ (site_of s)).After-site_of-located

abbrev there_in : Shown → There
there_in s = there_of (binds_of (held_of s))

abbrev placed : Shown → ℕ
placed s = at_in (slot_of s)

found_at : (s : Shown) → s.is_some-found.result ≡ ltb (placed s) (net_of (there_in s)).tablecount
found_at s = s.is_some-found.ensures ∙ place-some (placed s) (net_of (there_in s)).tablecount (place_of s).find_table-place.result (found-at (slot_of s))

read :
    (s : Shown) →
    Read (net_of (there_in s)) (pick_at (there_in s)) (frame_at (there_in s)) (number_at (binds_of (held_of s))) (held_of s).if-binds.held (located_of s).eval_in.result
    (located_of s).site_of-located.result (site_of s).site_or_any-site.result (placed s) s.is_some-found.result s.shown-content.result
read s =
    record {
      frame = top-is (there_in s);
      number = (held_of s).node_of-node_number.ensures;
      held = held_at (held_of s);
      got = (located_of s).eval_in.ensures;
      located =
          let e = there_in s in
          let long = (at_of (picked_of e)).loop-i.invariant.sized.aliases in
          let few = few-aliases (net_of e) (okay e) long in
          (located_of s).site_of-located.ensures
          ∙ ap (λ (l : List Alias). site_of_got l (thread_in (net_of e) (pick_at e).thread).site (located_of s).eval_in.result) (take_firsts no_alias (net_of e).aliascount (net_of e).aliases (omega (arith, few, long)));
      site = (site_of s).site_or_any-site.ensures;
      place = refl;
      found = found_at s;
      content = shown_content (net_of (there_in s)) _ _ _ s.shown-content.result (slot-at (slot_of s)) (found_at s) s.shown-content.ensures;
    }

abbrev situation_at : Shown → Situation
situation_at s =
    situation_in (net_of (there_in s)) (pick_at (there_in s)) (frame_at (there_in s)) (number_at (binds_of (held_of s))) (held_of s).if-binds.held (located_of s).site_of-located.result s.is_some-found.result s.shown-content.result

meets : (s : Shown) → Meets (situation_at s) (scene_of (view (net_of (there_in s))) (pick_at (there_in s)))
meets s = read_meets (net_of (there_in s)) (pick_at (there_in s)) (okay (there_in s)) (there (there_in s)) (read s)

fine : (s : Shown) → Fine (situation_at s)
fine s = read-fine (net_of (there_in s)) (pick_at (there_in s)) (okay (there_in s)) (there (there_in s)) (read s)

pub bounds-thread-read : goal.bounds-thread-read
bounds-thread-read c = fine-read (situation_at (goal.at.bounds-thread-read c).After-shown-content) (fine (goal.at.bounds-thread-read c).After-shown-content)

-- ── what the pick comes to ──

source : (c : After-source_of-source) → Sourced (situation_at (goal.at.judged-rows_judged-requires c).After-shown-content) c.source_of-source.result
source c =
    let s = (goal.at.judged-rows_judged-requires c).After-shown-content in
    subst (Sourced (situation_at s)) (sym c.source_of-source.ensures) (sourced (situation_at s) (fine s) _ (variable-read (situation_at s)))

pub judged-rows_judged-requires : goal.judged-rows_judged-requires
judged-rows_judged-requires c = let s = (goal.at.judged-rows_judged-requires c).After-shown-content in judge_ready (situation_at s) (fine s) c.source_of-source.result (source c).shaped

-- what the thread has beside the parts that `decide` is handed
abbrev Flags : Type 0
Flags = After-bound_tables-bound_flags

abbrev rest_at : Flags → Rest
rest_at c =
    let t = (situation_at (goal.at.decide-decision-requires c).After-shown-content).thread in
    record { site = t.site; relations = t.relations; stack = t.stack; saved = (situation_at (goal.at.decide-decision-requires c).After-shown-content).saved; long = c.bound_tables-bound_flags.ensures.1 }

pub decide-decision-requires : goal.decide-decision-requires
decide-decision-requires c = (c.judged-rows_judged.ensures, record { rest = rest_at c; facts = (fine (goal.at.decide-decision-requires c).After-shown-content, record { bound = c.bound_tables-bound_flags.ensures.0 }, source (goal.at.decide-decision-requires c).After-source_of-source) })

abbrev Decides : Type 0
Decides = After-decide-decision

abbrev shown_of : Decides → Shown
shown_of c = (View.at-After-decide-decision _ _ _ _ _ _ _ _ _ _ c).After-shown-content

abbrev source_of : Decides → Relation
source_of c = c.source_of-source.result

decided : (c : Decides) → DecidedIs (situation_at (shown_of c)) (source_of c) c.decide-decision.result
decided c =
    c.decide-decision.ensures (rest_at (View.at-After-decide-decision _ _ _ _ _ _ _ _ _ _ c).After-bound_tables-bound_flags) (fine (shown_of c)) (record { bound = c.bound_tables-bound_flags.ensures.0 }) (source (View.at-After-decide-decision _ _ _ _ _ _ _ _ _ _ c).After-source_of-source)

abbrev picked_in : Decides → Picked
picked_in c = picked_of (there_in (shown_of c))

pub put_answer_at-requires-in-loop-i : goal.put_answer_at-requires-in-loop-i
put_answer_at-requires-in-loop-i c = within (picked_in (goal.at.put_answer_at-requires-in-loop-i c).After-decide-decision)

-- ── refused ──

pub loop-i-preserved-in_default : goal.loop-i-preserved-in_default
loop-i-preserved-in_default c =
    let o = (goal.at.loop-i-preserved-in_default c).After-decide-decision in
    let e = there_in (shown_of o) in
    let l = at_of (picked_of e) in
    more (picked_of e)
    (pick-refused (reached_at l) (pick_at e) c.answer_of-answer.result (c.answer_of-answer.ensures ∙ ap answer_in c.in_default.is)
    (change-refused (net_of e) (pick_at e) (okay e) (there e) ((decided o).at _ (meets (shown_of o))).answer (ap answer_in c.in_default.is)))
    c.put_answer_at-in-loop-i.ensures l.loop-i.invariant.sized

-- ── a done step ──

abbrev Told : Type 0
Told = In-Ok

abbrev decides_in : Told → Decides
decides_in c = (goal.at.add_count-added-requires c).After-decide-decision

abbrev shown_in : Told → Shown
shown_in c = shown_of (decides_in c)

says-done : (c : Told) → c.answer_of-answer.result ≡ Ok c.in-Ok.decided.done
says-done c = c.answer_of-answer.ensures ∙ ap answer_in c.in-Ok.is

does : (c : Told) → T (is_doing (said_of (answer_in (decides_in c).decide-decision.result)))
does c = subst (λ (x : Answer). T (is_doing (said_of x))) (sym (ap answer_in c.in-Ok.is)) tt

-- a slice is so short that the sums have room
short : (l : At) → length (bytes_at l) < 2 ^ 64
short l = search rules

room : (c : Told) → ((at_of (picked_in (decides_in c))).loop-i.added.high < 2 ^ 63) × ((at_of (picked_in (decides_in c))).loop-i.taken.high < 2 ^ 63)
room c =
    let e = picked_in (decides_in c) in
    let l = at_of e in
    carried_room (from_of l) (picks_at l) l.loop-i.i (reached_at l) l.loop-i.invariant.carried (left_over e) (omega (arith, short l, count-is l))

pub add_count-added-requires : goal.add_count-added-requires
add_count-added-requires c = (room c).0

pub add_count-taken-requires : goal.add_count-taken-requires
add_count-taken-requires c = (room (goal.at.add_count-taken-requires c).In-Ok).1

-- what the functions that make tables and relations ask
ready : (c : Told) → StepReady (situation_at (shown_in c)).node (situation_at (shown_in c)).content (source_of (decides_in c)) (situation_at (shown_in c)).thread.vars
ready c =
    let o = decides_in c in
    let s = shown_of o in
    let k = (decided o).known (does c) in
    step-ready (situation_at s) (source_of o) ((source (View.at-After-decide-decision _ _ _ _ _ _ _ _ _ _ o).After-source_of-source).source k) (fine s) k

-- ── the thread after it ──

abbrev Runs : Type 0
Runs = After-run_frame

abbrev told_of : Runs → Told
told_of c = (goal.at.offset_bounds-thread-above c).In-Ok

stacked : (c : Told) → Stacked (situation_at (shown_in c)).thread
stacked c = (fine (shown_in c)).stacked

above-below : (c : Runs) → c.over-above.result < 8
above-below c = over_below _ _ _ (stacked (told_of c)) refl c.over-above.ensures

pub offset_bounds-thread-above : goal.offset_bounds-thread-above
offset_bounds-thread-above c = record { fits = let h = above-below c in omega (arith, h) }

pub bounds-thread-above : goal.bounds-thread-above
bounds-thread-above c = above-below c

pub offset_bounds-thread-top-in-loop-i : goal.offset_bounds-thread-top-in-loop-i
offset_bounds-thread-top-in-loop-i c = record { fits = let k = stacked (told_of c) in omega (arith, k.some, k.few) }

pub bounds-thread-top-in-loop-i : goal.bounds-thread-top-in-loop-i
bounds-thread-top-in-loop-i c = let k = stacked (told_of c) in omega (arith, k.some, k.few)

pub bound_after-content_bound-requires : goal.bound_after-content_bound-requires
bound_after-content_bound-requires c =
    let k = told_of (goal.at.bound_after-content_bound-requires c).After-run_frame in
    let o = decides_in k in
    let binds : T (binds_relation (kind_at (situation_at (shown_of o)).node.kind)) = T_of _ (sym (held_of (shown_of o)).binds_relation-binds.ensures ∙ c.if-binds-2.true) in
    let step = binds-step (kind_at (situation_at (shown_of o)).node.kind) binds in
    (ready k, step, o.judged-rows_judged.ensures, binds, (decided o).does (does k) step)

pub bounds-thread-bound : goal.bounds-thread-bound
bounds-thread-bound c = let s = shown_in (told_of (goal.at.bounds-thread-bound c).After-run_frame) in fine-bound (situation_at s) (fine s)

-- ── what is stored in the thread ──

abbrev Moved : Type 0
Moved = Joined-binds-2

abbrev told_by : Moved → Told
told_by j = told_of (View.at-Joined-binds-2 _ _ _ _ _ _ _ _ _ _ j).After-run_frame

abbrev decides_by : Moved → Decides
decides_by j = decides_in (told_by j)

-- what becomes of the thread
abbrev after_by : Moved → Decided
after_by j = (told_by j).in-Ok.decided

abbrev shown_by : Moved → Shown
shown_by j = shown_of (decides_by j)

abbrev situation_by : Moved → Situation
situation_by j = situation_at (shown_by j)

abbrev there_by : Moved → There
there_by j = there_in (shown_by j)

abbrev net_by : Moved → Net
net_by j = net_of (there_by j)

abbrev pick_by : Moved → Pick
pick_by j = pick_at (there_by j)

-- where the sums have been added
abbrev summed : Moved → After-add_count-taken
summed j = (View.at-Joined-binds-2 _ _ _ _ _ _ _ _ _ _ j).After-add_count-taken

abbrev moved_in : Moved → List TableVariable → Thread
moved_in j vs = moved (situation_by j).thread (after_by j) j.over-above.result j.run_frame.result vs

moved-is : (j : Moved) → j.if-binds-2.thread ≡ moved_in j j.if-binds-2.thread.relations
moved-is j =
    elim j.if-binds-2.branch [
      | then-binds-2 w ↦ as_moved (situation_by j).thread (after_by j) j.over-above.result j.run_frame.result w.thread-is refl
      | else-binds-2 w ↦ as_moved (situation_by j).thread (after_by j) j.over-above.result j.run_frame.result w.thread-is refl
    ]

abbrev BoundIs : Moved → Type 0
BoundIs j =
    map variable_of j.if-binds-2.thread.relations
    ≡ cond (binds_relation (kind_at (situation_by j).node.kind))
    (set (map variable_of (situation_by j).thread.relations) (situation_by j).node.bound (Some (bound_by (kind_at (situation_by j).node.kind) (parts_in (situation_by j) (source_of (decides_by j))))))
    (map variable_of (situation_by j).thread.relations)

bound-is : (j : Moved) → BoundIs j
bound-is j =
    let b = (held_of (shown_by j)).binds_relation-binds.ensures in
    elim j.if-binds-2.branch [
      | then-binds-2 w ↦
          ap (λ (t : Thread). map variable_of t.relations) w.thread-is
          ∙ bound-set (situation_by j).thread.relations _ w.bound_after-content_bound.result _ w.bound_after-content_bound.ensures (sym b ∙ w.if-binds-2.true)
      | else-binds-2 w ↦ ap (λ (t : Thread). map variable_of t.relations) w.thread-is ∙ bound-none (situation_by j).thread.relations _ (sym b ∙ w.if-binds-2.false)
    ]

-- what a kind that puts rows leaves of its table
abbrev Puts : Moved → Relation → Type 0
Puts j q = T (puts_rows (kind_at (situation_by j).node.kind)) → Holds q (relation_of (situation_by j).content).columns (rows_by (kind_at (situation_by j).node.kind) (parts_in (situation_by j) (source_of (decides_by j))) (relation_of (situation_by j).content).rows)

-- all that is made, with this content
abbrev made : (j : Moved) (q : Relation) → Puts j q → Made (situation_by j) (source_of (decides_by j)) (after_by j)
made j q put =
    record {
      content = q;
      put = put;
      relations = j.if-binds-2.thread.relations;
      bound = bound-is j;
      above = j.over-above.result;
      over = j.over-above.ensures;
      body = j.run_frame.result;
      runs = j.run_frame.ensures;
    }

-- the change that it is
change :
    (j : Moved) (m : Made (situation_by j) (source_of (decides_by j)) (after_by j)) →
    ChangeIs (scene_of (view (net_by j)) (pick_by j)) (changed (situation_by j) (source_of (decides_by j)) (after_by j) m)
change j m = ((decided (decides_by j)).at _ (meets (shown_by j))).change (after_by j) (told_by j).in-Ok.is m

tables-fit :
    (j : Moved) (q : Relation) → Puts j q →
    ((net_by j).tablecount ≤ 8) × (T (needs_table (kind_at (situation_by j).node.kind)) → (placed (shown_by j)) < (net_by j).tablecount) × (T (is_create (kind_at (situation_by j).node.kind)) → (net_by j).tablecount < 8)
tables-fit j q put = tables-ready (net_by j) (pick_by j) (okay (there_by j)) (there (there_by j)) (read (shown_by j)) (change j (made j q put)) refl

-- no rows are put
no-puts : (j : Moved) (q : Relation) → puts_rows (kind_at (situation_by j).node.kind) ≡ false → Puts j q
no-puts j q e h = absurd (subst T e h)

-- ── the tables: a new one goes last ──

new-fits : (j : Moved) → (situation_by j).node.kind ≡ 23 → (net_by j).tablecount < 8
unfolding kind_at
new-fits j k = (tables-fit j no_content (no-puts j no_content (ap (λ (b : ℕ). puts_rows (kind_at b)) k))).2 (subst (λ (b : ℕ). T (is_create (kind_at b))) (sym k) tt)

pub offset_bounds-net-tablecount : goal.offset_bounds-net-tablecount
offset_bounds-net-tablecount c = record { fits = let h = new-fits (goal.at.offset_bounds-net-tablecount c).Joined-binds-2 c.in-23.is in omega (arith, h) }

pub bounds-net-tablecount : goal.bounds-net-tablecount
bounds-net-tablecount c = new-fits (goal.at.bounds-net-tablecount c).Joined-binds-2 c.in-23.is

pub overflow_add-net : goal.overflow_add-net
overflow_add-net c = record { fits = let h = new-fits (goal.at.overflow_add-net c).Joined-binds-2 c.in-23.is in omega (arith, h) }

-- ── a removed one closes up ──

dropped-there : (j : Moved) → (situation_by j).node.kind ≡ 24 → (placed (shown_by j)) < (net_by j).tablecount
unfolding kind_at
dropped-there j k = (tables-fit j no_content (no-puts j no_content (ap (λ (b : ℕ). puts_rows (kind_at b)) k))).1 (subst (λ (b : ℕ). T (needs_table (kind_at b))) (sym k) tt)

-- the slot is then its place
dropped-slot : (j : Moved) → (situation_by j).node.kind ≡ 24 → (slot_of (shown_by j)).unwrap_or-slot.result ≡ placed (shown_by j)
dropped-slot j k = let s = slot_of (shown_by j) in slot-at s ∙ ap (λ (b : Bool). cond b (at_in s) 0) (is_true _ (lt→ltb (at_in s) (net_by j).tablecount (dropped-there j k)))

pub close_up-requires : goal.close_up-requires
close_up-requires c =
    let j = (goal.at.close_up-requires c).Joined-binds-2 in
    let h = dropped-there j c.in-24.is in
    let e = dropped-slot j c.in-24.is in
    let few = few-tables (net_by j) (okay (there_by j)) in
    let eight = (at_of (picked_of (there_by j))).loop-i.invariant.sized.tables in
    (omega (arith, h, e), omega (arith, few, eight))

pub overflow_sub-net : goal.overflow_sub-net
overflow_sub-net c = let h = dropped-there (goal.at.overflow_sub-net c).Joined-binds-2 c.in-24.is in omega (arith, h)

-- ── the table found gives way ──

-- the kind puts rows
given-puts : (c : Then-puts_rows) → T (puts_rows (kind_at (situation_by (View.at-Then-puts_rows _ _ _ _ _ _ _ _ _ _ c).Joined-binds-2).node.kind))
given-puts c = T_of _ (sym c.puts_rows.ensures ∙ c.if-puts_rows.true)

pub content_after-content_put-requires : goal.content_after-content_put-requires
content_after-content_put-requires c =
    let p = given-puts (goal.at.content_after-content_put-requires c).Then-puts_rows in
    let j = (goal.at.content_after-content_put-requires c).Joined-binds-2 in
    let k = told_by j in
    let step = puts_step (kind_at (situation_by j).node.kind) p in
    (ready k, step, (decides_by j).judged-rows_judged.ensures, p, (decided (decides_by j)).does (does k) step)

pub offset_bounds-net-slot-then-puts_rows : goal.offset_bounds-net-slot-then-puts_rows
offset_bounds-net-slot-then-puts_rows c = record { fits = let h = slot-few (slot_of (shown_by (goal.at.offset_bounds-net-slot-then-puts_rows c).Joined-binds-2)) in omega (arith, h) }

pub bounds-net-slot-then-puts_rows : goal.bounds-net-slot-then-puts_rows
bounds-net-slot-then-puts_rows c = slot-few (slot_of (shown_by (goal.at.bounds-net-slot-then-puts_rows c).Joined-binds-2))

-- ── the tables after it ──

abbrev Tabled : Type 0
Tabled = Joined-kind

abbrev moved_of : Tabled → Moved
moved_of c = (View.at-Joined-kind _ _ _ _ _ _ _ _ _ _ c).Joined-binds-2

-- the net has the tables that the step leaves, and else is as it was
record Stored (n m : Net) (ts : List M.Table) : Type 0 where
  tables : tables_of m.tablecount m.tables ≡ ts
  eight : length m.tables ≡ 8
  rest : m ≡ net_with n m.tables m.tablecount n.threads n.threadcount n.saved

abbrev tables_left : Moved → Relation → List M.Table
tables_left j q =
    tables_with (kind_at (situation_by j).node.kind) (placed (shown_by j)) (tables_of (net_by j).tablecount (net_by j).tables) (site_of (shown_by j)).site_or_any-site.result (node_of (situation_by j).node) (relation_of q)

-- with the content that the step puts, if it puts any
record Left (j : Moved) (m : Net) : Type 0 where
  content : Relation
  put : Puts j content
  stored : Stored (net_by j) m (tables_left j content)

-- a byte of a kind that puts none
none-at : {b m : ℕ} → b ≡ m → puts_rows (kind_at m) ≡ false → puts_rows (kind_at b) ≡ false
none-at e h = ap (λ (b : ℕ). puts_rows (kind_at b)) e ∙ h

left : (c : Tabled) → Left (moved_of c) c.match-kind.net
unfolding kind_at
left c =
    let j = (moved_of c) in
    let n = net_by j in
    let eight = (at_of (picked_of (there_by j))).loop-i.invariant.sized.tables in
    let few = few-tables n (okay (there_by j)) in
    elim c.match-kind.branch [
      | in-23 w ↦
          record {
            content = no_content;
            put = no-puts j no_content (none-at w.in-23.is refl);
            stored =
                subst (λ (m : Net). Stored n m (tables_left j no_content)) (sym w.net-is)
                (record {
                  tables = table_created n.tablecount n.tables _ _ _ _ _ w.created.result eight w.in-23.is (new-fits j w.in-23.is) w.created.ensures;
                  eight = length-set n.tables n.tablecount w.created.result ∙ eight;
                  rest = refl;
                });
          }
      | in-24 w ↦
          let slot = (slot_of (shown_by j)).unwrap_or-slot.result in
          let low : slot < n.tablecount = let h = dropped-there j w.in-24.is in let e = dropped-slot j w.in-24.is in omega (arith, h, e) in
          let closing = closing_copied no_table n.tables slot n.tablecount low (omega (arith, few, eight)) in
          record {
            content = no_content;
            put = no-puts j no_content (none-at w.in-24.is refl);
            stored =
                subst (λ (m : Net). Stored n m (tables_left j no_content)) (sym w.net-is)
                (record {
                  tables =
                      ap (tables_of (n.tablecount - 1)) w.close_up.ensures.after
                      ∙ table-dropped n.tablecount n.tables _ _ _ _ _ w.in-24.is low closing (omega arith)
                      ∙ ap (λ (i : ℕ). tables_with (kind_at (situation_by j).node.kind) i (tables_of n.tablecount n.tables) (site_of (shown_by j)).site_or_any-site.result (node_of (situation_by j).node) (relation_of no_content)) (dropped-slot j w.in-24.is);
                  eight = ap length w.close_up.ensures.after ∙ closing.size ∙ eight;
                  rest = refl;
                });
          }
      | in_default-kind+then-puts_rows w ↦
          let slot = (slot_of (shown_by j)).unwrap_or-slot in
          let old = get_or n.tables slot.result no_table in
          let q = w.content_after-content_put.result in
          let p = T_of (puts_rows (kind_at (situation_by j).node.kind)) (sym w.puts_rows.ensures ∙ w.if-puts_rows.true) in
          record {
            content = q;
            put = λ h. w.content_after-content_put.ensures;
            stored =
                subst (λ (m : Net). Stored n m (tables_left j q)) (sym w.net-is)
                (record {
                  tables =
                      table-gives_way n.tablecount n.tables _ slot.result (situation_by j).node.kind (record { site = old.site; name = old.name; content = q }) _ _ eight few (slot-at (slot_of (shown_by j))) refl refl
                      (tables-fit j q (λ h. w.content_after-content_put.ensures)).1 p;
                  eight = length-set n.tables slot.result (record { site = old.site; name = old.name; content = q }) ∙ eight;
                  rest = refl;
                });
          }
      | in_default-kind+else-puts_rows w ↦
          let none = sym w.puts_rows.ensures ∙ w.if-puts_rows.false in
          let x = w.in_default-kind.in_default-kind-own.rest in
          record {
            content = no_content;
            put = no-puts j no_content none;
            stored =
                subst (λ (m : Net). Stored n m (tables_left j no_content)) (sym w.net-is)
                (record {
                  tables =
                      tables_stay (situation_by j).node.kind (placed (shown_by j)) (tables_of n.tablecount n.tables) (site_of (shown_by j)).site_or_any-site.result (node_of (situation_by j).node)
                      (relation_of no_content) none (ne_eqb _ 23 x.0.1) (ne_eqb _ 24 x.1);
                  eight = eight;
                  rest = refl;
                });
          }
    ]

-- ── one pick more, with these tables and threads ──

sized-with : {m n : Net} {ts : List Table} {a b : ℕ} {hs : List Thread} {given : List Saved} → Sized m n → length ts ≡ 8 → length hs ≡ 8 → length given ≡ 64 → Sized m (net_with n ts a hs b given)
sized-with z p q o =
    record { aliases = z.aliases; tables = p; threads = q; saved = o; same_aliases = z.same_aliases; same_alias_count = z.same_alias_count; same_nodes = z.same_nodes; same_node_count = z.same_node_count }

-- the net and the answer told by other names
told-as :
    {picks lent : List ℕ} {count : ℕ} {room : Bool} {from : Net} {out : List ℕ} {n m : Net} {a b : Answer} {u v : Total} {i : ℕ} → n ≡ m → a ≡ b →
    Behind picks lent count room from out (record { net = n; answer = a; added = u; taken = v }) i → Behind picks lent count room from out (record { net = m; answer = b; added = u; taken = v }) i
told-as {picks} {lent} {count} {room} {from} {out} {u = u} {v = v} {i = i} e f h =
    subst (λ (r : Reached). Behind picks lent count room from out r i) (λ j. record { net = e j; answer = f j; added = u; taken = v }) h

-- the change that the step makes
abbrev change_of : Tabled → Change
change_of c = changed (situation_by (moved_of c)) (source_of (decides_by (moved_of c))) (after_by (moved_of c)) (made (moved_of c) (left c).content (left c).put)

change-is : (c : Tabled) → ChangeIs (scene_of (view (net_by (moved_of c))) (pick_by (moved_of c))) (change_of c)
change-is c = change (moved_of c) (made (moved_of c) (left c).content (left c).put)

abbrev nodes_by : Tabled → List M.Node
nodes_by c = nodes_of (net_by (moved_of c)).nodecount (net_by (moved_of c)).nodes

again :
    (c : Tabled) (hs : List Thread) (k : ℕ) (given : List Saved) → length hs ≡ 8 → length given ≡ 64 →
    threads_of (nodes_by c) given k hs
    ≡ settle (pick_by (moved_of c)).thread (goes_on (becomes (nodes_by c) (change_of c))) (threads_of (nodes_by c) (net_by (moved_of c)).saved (net_by (moved_of c)).threadcount (net_by (moved_of c)).threads)
    ++ forks_of (starts_thread (after_by (moved_of c))) (change_of c).fork →
    {n : Net} → n ≡ net_with (net_by (moved_of c)) c.match-kind.net.tables c.match-kind.net.tablecount hs k given →
    Behind (bytes_at (at_of (picked_of (there_by (moved_of c))))) (lent_at (at_of (picked_of (there_by (moved_of c))))) (count_of (picked_of (there_by (moved_of c)))) (room_at (at_of (picked_of (there_by (moved_of c)))))
    (from_of (at_of (picked_of (there_by (moved_of c))))) (moved_of c).put_answer_at-in-loop-i.new.out
    (record {
      net = n;
      answer = (told_by (moved_of c)).answer_of-answer.result;
      added = (summed (moved_of c)).add_count-added.result;
      taken = (summed (moved_of c)).add_count-taken.result;
    })
    ((at_of (picked_of (there_by (moved_of c)))).loop-i.i + 1)
again c hs k given eight sixty threads e =
    let j = (moved_of c) in
    let t = told_by j in
    let h = there_by j in
    let l = at_of (picked_of h) in
    let s = (left c).stored in
    let step = done-is (net_by j) (pick_by j) (okay h) (there h) (read (shown_by j)) (change-is c) refl c.match-kind.net.tables c.match-kind.net.tablecount hs k given s.tables threads in
    told-as (sym e) refl
    (more (picked_of h)
    (pick-done (reached_at l) (pick_by j) t.answer_of-answer.result _ (summed j).add_count-added.result (summed j).add_count-taken.result (says-done t) (subst (λ (x : Answer). StepIs (net_by j) (pick_by j) (record { answer = x; net = net_with (net_by j) c.match-kind.net.tables c.match-kind.net.tablecount hs k given })) (sym (says-done t)) step) (summed j).add_count-added.ensures (summed j).add_count-taken.ensures)
    j.put_answer_at-in-loop-i.ensures (sized-with l.loop-i.invariant.sized s.eight eight sixty))

threads-fit : (c : Tabled) → T (starts_thread (after_by (moved_of c))) → ((net_by (moved_of c)).threadcount < 8) × (1 ≤ (after_by (moved_of c)).depth)
threads-fit c =
    let j = (moved_of c) in
    (threads-ready (net_by j) (pick_by j) (okay (there_by j)) (there (there_by j)) (read (shown_by j)) (change-is c) refl).2

passed : (c : Tabled) → Pass (scene_of (view (net_by (moved_of c))) (pick_by (moved_of c)))
passed c = let j = (moved_of c) in all-passed (net_by j) (pick_by j) (okay (there_by j)) (there (there_by j)) (read (shown_by j)) (change-is c) refl

-- the threads, and what is saved, are still those that the step found
threads-same : (c : Tabled) → c.match-kind.net.threads ≡ (net_by (moved_of c)).threads
threads-same c = ap (λ (n : Net). n.threads) (left c).stored.rest

saved-same : (c : Tabled) → c.match-kind.net.saved ≡ (net_by (moved_of c)).saved
saved-same c = ap (λ (n : Net). n.saved) (left c).stored.rest

threads-long : (c : Tabled) → length c.match-kind.net.threads ≡ 8
threads-long c = ap length (threads-same c) ∙ (at_of (picked_of (there_by (moved_of c)))).loop-i.invariant.sized.threads

picked-there : (c : Tabled) → (pick_by (moved_of c)).thread < (net_by (moved_of c)).threadcount
picked-there c = there (there_by (moved_of c))

few-running : (c : Tabled) → (net_by (moved_of c)).threadcount ≤ 8
few-running c = few-threads (net_by (moved_of c)) (okay (there_by (moved_of c)))

thread-low : (c : Tabled) → (pick_by (moved_of c)).thread < 8
thread-low c = let h = picked-there c in omega (arith, h, few-running c)

-- ── what the entry of a loop holds from its first round on ──

abbrev Saves : Type 0
Saves = Then-decided

read_low : (c : Tabled) → (situation_by (moved_of c)).node.read < 2
read_low c = fine-read (situation_by (moved_of c)) (fine (shown_by (moved_of c)))

pub overflow_sub-other : goal.overflow_sub-other
overflow_sub-other c = let h = read_low (goal.at.overflow_sub-other c).Joined-kind in omega (arith, h)

pub offset_bounds-thread-read-then-decided : goal.offset_bounds-thread-read-then-decided
offset_bounds-thread-read-then-decided c = record { fits = let h = read_low (goal.at.offset_bounds-thread-read-then-decided c).Joined-kind in omega (arith, h) }

pub bounds-thread-read-then-decided : goal.bounds-thread-read-then-decided
bounds-thread-read-then-decided c = let h = read_low (goal.at.bounds-thread-read-then-decided c).Joined-kind in omega (arith, h)

-- the place of the top entry
top-low : (c : Tabled) → (pick_by (moved_of c)).thread * 8 + ((situation_by (moved_of c)).thread.depth - 1) < 64
top-low c = let k = stacked (told_by (moved_of c)) in let h = thread-low c in omega (arith, h, k.some, k.few)

pub overflow_mul-thread_place : goal.overflow_mul-thread_place
overflow_mul-thread_place c = record { fits = let h = thread-low (goal.at.overflow_mul-thread_place c).Joined-kind in omega (arith, h) }

pub overflow_add-thread_place : goal.overflow_add-thread_place
overflow_add-thread_place c = record { fits = let h = top-low (goal.at.overflow_add-thread_place c).Joined-kind in omega (arith, h) }

pub offset_bounds-net-thread_place-then-decided : goal.offset_bounds-net-thread_place-then-decided
offset_bounds-net-thread_place-then-decided c = record { fits = let h = top-low (goal.at.offset_bounds-net-thread_place-then-decided c).Joined-kind in omega (arith, h) }

pub bounds-net-thread_place-then-decided : goal.bounds-net-thread_place-then-decided
bounds-net-thread_place-then-decided c = top-low (goal.at.bounds-net-thread_place-then-decided c).Joined-kind

abbrev Keeps : Type 0
Keeps = Joined-decided

abbrev tabled_at : Keeps → Tabled
tabled_at c = (View.at-Joined-decided _ _ _ _ _ _ _ _ _ _ c).Joined-kind

abbrev moved_at : Keeps → Moved
moved_at c = (View.at-Joined-decided _ _ _ _ _ _ _ _ _ _ c).Joined-binds-2

-- what is saved for it
abbrev saved_for : Tabled → Saved
saved_for c = record { vars = (situation_by (moved_of c)).thread.vars; other = get_or c.if-binds-2.thread.relations (1 - (situation_by (moved_of c)).node.read) no_variable }

record Holds5 (c : Keeps) : Type 0 where
  kept : Kept (net_by (moved_at c)).saved c.if-decided.net.saved (pick_by (moved_at c)).thread ((situation_by (moved_at c)).thread.depth - 1) (after_by (moved_at c)).saves (saved_for (tabled_at c))
  rest : c.if-decided.net ≡ with_saved c.match-kind.net c.if-decided.net.saved

sixty-four : (c : Tabled) → length (net_by (moved_of c)).saved ≡ 64
sixty-four c = (at_of (picked_of (there_by (moved_of c)))).loop-i.invariant.sized.saved

holds-5 : (c : Keeps) → Holds5 c
holds-5 c =
    let t = (tabled_at c) in
    let j = (moved_of t) in
    let at = (pick_by j).thread in
    let top = (situation_by j).thread.depth - 1 in
    let k = stacked (told_by j) in
    let high = top-low t in
    elim c.if-decided.branch [
      | then-decided w ↦
          let e : c.if-decided.net.saved ≡ set (net_by j).saved (at * 8 + top) (saved_for t) = ap (λ (n : Net). n.saved) w.net-is ∙ ap (λ (l : List Saved). set l (at * 8 + top) (saved_for t)) (saved-same t) in
          record {
            kept =
                subst (λ (l : List Saved). Kept (net_by j).saved l at top (after_by j).saves (saved_for t)) (sym e)
                (kept-saved (net_by j).saved at top (saved_for t) w.if-decided.true (omega (arith, k.some, k.few)) (omega (arith, high, sixty-four t)));
            rest = w.net-is ∙ sym (ap (λ (l : List Saved). with_saved t.match-kind.net l) (ap (λ (n : Net). n.saved) w.net-is));
          }
      | else-decided w ↦
          let e : c.if-decided.net.saved ≡ (net_by j).saved = ap (λ (n : Net). n.saved) w.net-is ∙ saved-same t in
          record {
            kept = subst (λ (l : List Saved). Kept (net_by j).saved l at top (after_by j).saves (saved_for t)) (sym e) (kept_same (net_by j).saved at top (saved_for t) w.if-decided.false);
            rest = w.net-is ∙ sym (ap (λ (l : List Saved). with_saved t.match-kind.net l) (ap (λ (n : Net). n.saved) w.net-is));
          }
    ]

-- ── where a round ends, bindings come back ──

abbrev Ends : Type 0
Ends = Then-decided-depth

abbrev keeps_of : Ends → Keeps
keeps_of c = (goal.at.overflow_sub-under c).Joined-decided

abbrev depth_by : Keeps → ℕ
depth_by c = (situation_by (moved_at c)).thread.depth

two-tests : (a b : Bool) → (a && b) ≡ true → (a ≡ true) × (b ≡ true)
two-tests true true e = (refl, refl)
two-tests true false e = absurd (subst T (sym e) tt)
two-tests false b e = absurd (subst T (sym e) tt)

-- the stack is one lower, and an entry stands below the top
abbrev Lower : Keeps → Type 0
Lower k = ((after_by (moved_at k)).depth < depth_by k) × (1 < depth_by k)

ended : (k : Keeps) → (ltb (after_by (moved_at k)).depth (depth_by k) && ltb 1 (depth_by k)) ≡ true → Lower k
ended k e = let h = two-tests _ _ e in (ltb-true _ _ h.0, ltb-true _ _ h.1)

lower : (c : Ends) → Lower (keeps_of c)
lower c = ended (keeps_of c) c.if-decided-depth.true

pub overflow_sub-under : goal.overflow_sub-under
overflow_sub-under c = let h = (lower c).1 in omega (arith, h)

-- the frame below the top
under_low : (k : Keeps) → depth_by k - 2 < 8
under_low k = let s = stacked (told_by (moved_at k)) in omega (arith, s.few)

pub offset_bounds-thread-under : goal.offset_bounds-thread-under
offset_bounds-thread-under c = record { fits = let h = under_low (keeps_of c) in omega (arith, h) }

pub bounds-thread-under : goal.bounds-thread-under
bounds-thread-under c = under_low (keeps_of c)

above-past : (depth above : ℕ) → above ≡ over_of depth → depth - 1 ≤ above
above-past depth above e = subst (λ (i : ℕ). depth - 1 ≤ i) (sym e) (go (ltb depth 8))
  where
    go : (b : Bool) → depth - 1 ≤ cond b depth (depth - 1)
    go true = omega arith
    go false = omega arith

-- a frame below the top stays
low-frame : (l : List Frame) (above depth : ℕ) (f g : Frame) → depth - 1 ≤ above → 1 < depth → get_or (set (set l above f) (depth - 1) g) (depth - 2) no_frame ≡ get_or l (depth - 2) no_frame
low-frame l above depth f g h k =
    get_or-set_other (set l above f) (depth - 1) (depth - 2) g no_frame (λ e. omega arith) ∙ get_or-set_other l above (depth - 2) f no_frame (λ e. omega arith)

frames-long : (j : Moved) → length (situation_by j).thread.stack ≡ 8
frames-long j = (decides_by j).bound_tables-bound_flags.ensures.1

-- the frame below the top is the one that stood there
abbrev outer_by : Keeps → Frame
outer_by c = get_or (situation_by (moved_at c)).thread.stack (depth_by c - 2) no_frame

framed : (c : Tabled) → Framed (situation_by (moved_of c)) (after_by (moved_of c))
framed c = ((decided (decides_by (moved_of c))).at _ (meets (shown_by (moved_of c)))).framed (after_by (moved_of c)) (told_by (moved_of c)).in-Ok.is

-- the frame that the code reads there
abbrev frame_under : Keeps → Frame
frame_under k = get_or k.if-binds-2.thread.stack (depth_by k - 2) no_frame

outer-is : (k : Keeps) → Lower k → frame_under k ≡ outer_by k
outer-is k g =
    let j = moved_at k in
    let h = above-past (situation_by j).thread.depth j.over-above.result j.over-above.ensures in
    ap (λ (t : Thread). get_or t.stack (depth_by k - 2) no_frame) (moved-is j)
    ∙ low-frame (situation_by j).thread.stack j.over-above.result (situation_by j).thread.depth j.run_frame.result (after_by j).frame h g.1

-- its node is there
outer-there : (k : Keeps) → Lower k → node_in (outer_by k).entry < (net_by (moved_at k)).nodecount
outer-there k g =
    let j = moved_at k in
    let n = net_by j in
    let p = pick_by j in
    let h = g.1 in
    ltb→lt _ _
    (subst (λ (i : ℕ). T (ltb i n.nodecount)) (entry-node_in (saved_in n p.thread (depth_by k - 2)) (outer_by k))
    (stack-all (saved_in n p.thread) (λ x. ltb (entry_node x) n.nodecount) (depth_by k) (situation_by j).thread.stack (entries-there n p (okay (there_by j)) (there (there_by j))) (depth_by k - 2) (omega (arith, h))))

outer-number : (k : Keeps) → Lower k → {m : ℕ} → m ≡ node_in (frame_under k).entry → m ≡ node_in (outer_by k).entry
outer-number k g e = e ∙ ap (λ (f : Frame). node_in f.entry) (outer-is k g)

outer-low : (k : Keeps) → Lower k → {m : ℕ} → m ≡ node_in (frame_under k).entry → m < 128
outer-low k g e =
    let j = moved_at k in
    omega (arith, outer-number k g e, outer-there k g, few-nodes (net_by j) (okay (there_by j)))

abbrev Outer : Type 0
Outer = After-node_of-outer_number

abbrev ends_of : Outer → Ends
ends_of c = (goal.at.offset_bounds-net-outer_number c).Then-decided-depth

number-low : (c : Outer) → c.node_of-outer_number.result < 128
number-low c = outer-low (keeps_of (ends_of c)) (lower (ends_of c)) c.node_of-outer_number.ensures

pub offset_bounds-net-outer_number : goal.offset_bounds-net-outer_number
offset_bounds-net-outer_number c = record { fits = let h = number-low c in omega (arith, h) }

pub bounds-net-outer_number : goal.bounds-net-outer_number
bounds-net-outer_number c = number-low c

-- the nodes are still those that the step found
nodes-same : (c : Keeps) → c.if-decided.net.nodes ≡ (net_by (moved_at c)).nodes
nodes-same c = ap (λ (n : Net). n.nodes) (holds-5 c).rest ∙ ap (λ (n : Net). n.nodes) (left (tabled_at c)).stored.rest

-- the node as the rules have it
node_seen : (k : Keeps) → Lower k → get_or (nodes_by (tabled_at k)) (node_in (outer_by k).entry) S.no_node ≡ node_of (get_or (net_by (moved_at k)).nodes (node_in (outer_by k).entry) no_node)
node_seen k g = let n = net_by (moved_at k) in firsts_at node_of no_node n.nodecount n.nodes _ S.no_node (outer-there k g)

-- the node that the code reads
node-read : (k : Keeps) → Lower k → {m : ℕ} → m ≡ node_in (frame_under k).entry → node_of (get_or k.if-decided.net.nodes m no_node) ≡ get_or (nodes_by (tabled_at k)) (node_in (outer_by k).entry) S.no_node
node-read k g e = ap₂ (λ (l : List Node) (i : ℕ). node_of (get_or l i no_node)) (nodes-same k) (outer-number k g e) ∙ sym (node_seen k g)

-- whether it ends a round, as the rules say it
abbrev RoundEnds : Keeps → Bool
RoundEnds k = not (is_run (outer_by k).entry) && is_sequential (get_or (nodes_by (tabled_at k)) (node_in (outer_by k).entry) S.no_node).kind

round-ends :
    (k : Keeps) → Lower k → {m : ℕ} → m ≡ node_in (frame_under k).entry → {b : Bool} → b ≡ (not (is_run (frame_under k).entry) && is_sequential (node_of (get_or k.if-decided.net.nodes m no_node)).kind) → b ≡ RoundEnds k
round-ends k g e said = said ∙ ap₂ (λ (f : Frame) (d : M.Node). not (is_run f.entry) && is_sequential d.kind) (outer-is k g) (node-read k g e)

abbrev Round : Type 0
Round = Then-ends_round

abbrev round_of : Round → Outer
round_of c = (goal.at.overflow_mul-held_there c).After-node_of-outer_number

-- it is a sequential loop's
record Looping (k : Keeps) : Type 0 where
  number : ℕ
  loop : (outer_by k).entry ≡ Loop number
  sequential : is_sequential (get_or (nodes_by (tabled_at k)) number S.no_node).kind ≡ true

looping : (k : Keeps) → RoundEnds k ≡ true → Looping k
looping k e = go (outer_by k).entry refl
  where
    go : (x : Entry) → (outer_by k).entry ≡ x → Looping k
    go (Run i) x = absurd (subst T (sym (sym (ap (λ (y : Entry). not (is_run y) && is_sequential (get_or (nodes_by (tabled_at k)) (node_in y) S.no_node).kind) x) ∙ e)) tt)
    go (Loop i) x = record { number = i; loop = x; sequential = sym (ap (λ (y : Entry). not (is_run y) && is_sequential (get_or (nodes_by (tabled_at k)) (node_in y) S.no_node).kind) x) ∙ e }

-- the place of the entry below the top
under-place : (k : Keeps) → (pick_by (moved_at k)).thread * 8 + (depth_by k - 2) < 64
under-place k = let h = thread-low (tabled_at k) in let u = under_low k in omega (arith, h, u)

abbrev keeps_by : Round → Keeps
keeps_by c = keeps_of (ends_of (round_of c))

pub overflow_mul-held_there : goal.overflow_mul-held_there
overflow_mul-held_there c = record { fits = let h = thread-low (tabled_at (keeps_by c)) in omega (arith, h) }

pub overflow_add-held_there : goal.overflow_add-held_there
overflow_add-held_there c = record { fits = let h = under-place (keeps_by c) in omega (arith, h) }

pub offset_bounds-net-thread_place-then-ends_round : goal.offset_bounds-net-thread_place-then-ends_round
offset_bounds-net-thread_place-then-ends_round c = record { fits = let h = under-place (keeps_by c) in omega (arith, h) }

pub bounds-net-thread_place-then-ends_round : goal.bounds-net-thread_place-then-ends_round
bounds-net-thread_place-then-ends_round c = under-place (keeps_by c)

pub offset_bounds-net-outer_number-then-ends_round : goal.offset_bounds-net-outer_number-then-ends_round
offset_bounds-net-outer_number-then-ends_round c = record { fits = let h = number-low (goal.at.offset_bounds-net-outer_number-then-ends_round c).After-node_of-outer_number in omega (arith, h) }

pub bounds-net-outer_number-then-ends_round : goal.bounds-net-outer_number-then-ends_round
bounds-net-outer_number-then-ends_round c = number-low (goal.at.bounds-net-outer_number-then-ends_round c).After-node_of-outer_number

-- the table variable that the loop reads
outer-read : (k : Keeps) → Lower k → RoundEnds k ≡ true → read_at (nodes_by (tabled_at k)) (outer_by k) < 2
outer-read k g r =
    let j = moved_at k in
    let l = looping k r in
    let h = g.1 in
    AgreeTies.read_low (net_by j) (pick_by j) (okay (there_by j)) (there (there_by j)) (passed (tabled_at k)) (depth_by k - 2) (omega (arith, h)) l.number l.loop

read_is : (k : Keeps) → Lower k → {m : ℕ} → m ≡ node_in (frame_under k).entry → (get_or k.if-decided.net.nodes m no_node).read ≡ read_at (nodes_by (tabled_at k)) (outer_by k)
read_is k g e = ap (λ (d : M.Node). d.read) (node-read k g e)

-- its number, as the code reads it
variable-low : (c : Round) → (get_or c.if-decided.net.nodes c.node_of-outer_number.result no_node).read < 2
variable-low c =
    let k = keeps_by c in
    let g = lower (ends_of (round_of c)) in
    let e = c.node_of-outer_number.ensures in
    omega (arith, outer-read k g (sym (round-ends k g e c.ends_round.ensures) ∙ c.if-ends_round.true), read_is k g e)

pub overflow_sub-other_number : goal.overflow_sub-other_number
overflow_sub-other_number c = let h = variable-low (goal.at.overflow_sub-other_number c).Then-ends_round in omega (arith, h)

pub offset_bounds-thread-other_number : goal.offset_bounds-thread-other_number
offset_bounds-thread-other_number c = record { fits = let h = variable-low (goal.at.offset_bounds-thread-other_number c).Then-ends_round in omega (arith, h) }

pub bounds-thread-other_number : goal.bounds-thread-other_number
bounds-thread-other_number c = let h = variable-low (goal.at.bounds-thread-other_number c).Then-ends_round in omega (arith, h)

-- ── the thread, with what its entries hold ──

abbrev Backs : Type 0
Backs = Joined-decided-depth

abbrev keeps_in : Backs → Keeps
keeps_in c = (View.at-Joined-decided-depth _ _ _ _ _ _ _ _ _ _ c).Joined-decided

abbrev tabled_by : Backs → Tabled
tabled_by c = (tabled_at (keeps_in c))

two-before : (b : M.Bindings) → T (bindings_ok b) → length b.relations ≡ 2
two-before b h = eqb→eq (length b.relations) 2 (search (and_l, and_r))

two-after : {A : Type 0} (b : Bool) (l : List A) (i : ℕ) (x : A) → length l ≡ 2 → length (cond b (set l i x) l) ≡ 2
two-after true l i x e = length-set l i x ∙ e
two-after false l i x e = e

relations-two : (c : Tabled) → length c.if-binds-2.thread.relations ≡ 2
relations-two c =
    let j = (moved_of c) in
    sym (length-map j.if-binds-2.thread.relations variable_of) ∙ ap length (bound-is j) ∙ two-after (binds_relation (kind_at (situation_by j).node.kind)) (map variable_of (situation_by j).thread.relations) _ _ (two-before (own_bindings (situation_by j)) (fine (shown_by j)).bindings)

sees : (c : Tabled) (k : ℕ) → k < (situation_by (moved_of c)).thread.depth - 1 → SeesSame (nodes_by c) (get_or (situation_by (moved_of c)).thread.stack k no_frame) c.if-binds-2.thread.relations (situation_by (moved_of c)).thread.relations
sees c =
    let j = (moved_of c) in
    let m = meets (shown_by j) in
    sees_bound (net_by j) (pick_by j) (okay (there_by j)) (there (there_by j)) (passed c) j.if-binds-2.thread.relations _ _ _ (ap (λ (d : M.Node). d.kind) m.node) (ap (λ (d : M.Node). d.bound) m.node) (bound-is j)

-- the entry of the top frame holds what the rules say
top_right : (c : Keeps) (i : ℕ) → (situation_by (moved_at c)).thread.depth ≤ (after_by (moved_at c)).depth → (after_by (moved_at c)).frame.entry ≡ Loop i →
    saved_of (read_at (nodes_by (tabled_at c)) (after_by (moved_at c)).frame) c.if-binds-2.thread.relations (get_or c.if-decided.net.saved ((pick_by (moved_at c)).thread * 8 + (depth_by c - 1)) no_saved)
    ≡ saved_after (situation_by (moved_at c)) (after_by (moved_at c)) (depth_by c - 1)
top_right c =
    let t = (tabled_at c) in
    let j = (moved_of t) in
    let n = net_by j in
    top-holds (nodes_by t) n.saved c.if-decided.net.saved (pick_by j).thread (situation_by j) (λ k. refl) (after_by j) (framed t)
    (ap (λ (d : M.Node). d.read) (own-node j)) refl (read_low t) j.if-binds-2.thread.relations (relations-two t)
    (λ l. loop-relations (situation_by j) (source_of (decides_by j)) (after_by j) (made j (left t).content (left t).put) l) (holds-5 c).kept
  where
    -- the node of the thread's top entry
    own-node : (j : Moved) → get_or (nodes_of (net_by j).nodecount (net_by j).nodes) (node_in (situation_by j).frame.entry) S.no_node ≡ node_of (situation_by j).node
    own-node j =
        let h = (held_of (shown_by j)).node_of-node_number.ensures in
        subst (λ (i : ℕ). get_or (nodes_of (net_by j).nodecount (net_by j).nodes) i S.no_node ≡ node_of (situation_by j).node) h (own-there (net_by j) (pick_by j) (okay (there_by j)) (there (there_by j)) (top-is (there_by j)) (number_is (there_by j) h))

-- the thread after the step is the rule's
record Backed (c : Backs) : Type 0 where
  seen : thread_of (saved_at (nodes_by (tabled_by c)) (keeps_in c).if-decided.net.saved (pick_by (moved_of (tabled_by c))).thread c.if-decided-depth.thread) c.if-decided-depth.thread ≡ becomes (nodes_by (tabled_by c)) (change_of (tabled_by c))
  deep : c.if-decided-depth.thread.depth ≡ (after_by (moved_of (tabled_by c))).depth
  same : T (starts_thread (after_by (moved_of (tabled_by c)))) → c.if-decided-depth.thread ≡ (tabled_by c).if-binds-2.thread

backed : (c : Backs) → Backed c
backed c =
    let k = keeps_in c in
    let t = (tabled_at k) in
    let j = (moved_of t) in
    let s = situation_by j in
    let r = (after_by j) in
    let ds = nodes_by t in
    let old = (net_by j).saved in
    let new = k.if-decided.net.saved in
    let at = (pick_by j).thread in
    let vs = j.if-binds-2.thread.relations in
    let over = j.over-above in
    let body = j.run_frame in
    let ok = stacked (told_by j) in
    let eight = frames-long j in
    let u = moved_in j vs in
    let stored = thread-stored ds old at s (λ i. refl) r (framed t) ok eight over.result over.ensures body.result body.ensures vs (sees t) new (holds-5 k).kept.low (top_right k) in
    elim c.if-decided-depth.branch [
      | then-decided-depth+then-ends_round w ↦
          let g = ended k w.if-decided-depth.true in
          let n = w.node_of-outer_number.ensures in
          let l = looping k (sym (round-ends k g n w.ends_round.ensures) ∙ w.if-ends_round.true) in
          let ends : r.depth ≡ s.thread.depth - 1 = omega (arith, g.0, (framed t).low) in
          let held = get_or old (at * 8 + (s.thread.depth - 2)) no_saved in
          let number = read_at ds (outer_by k) in
          let h : get_or new (at * 8 + (s.thread.depth - 2)) no_saved ≡ held = (holds-5 k).kept.low (s.thread.depth - 2) (omega (arith, g.1)) in
          let is : c.if-decided-depth.thread ≡ record { site = s.thread.site; vars = held.vars; relations = set vs (1 - number) held.other; stack = u.stack; depth = r.depth } =
          w.thread-is
          ∙ ap₂ (λ (y : Saved) (i : ℕ). record { site = j.if-binds-2.thread.site; vars = y.vars; relations = set vs (1 - i) y.other; stack = j.if-binds-2.thread.stack; depth = j.if-binds-2.thread.depth }) h (read_is k g n)
          ∙ ap (λ (y : Thread). record { site = y.site; vars = held.vars; relations = set vs (1 - number) held.other; stack = y.stack; depth = y.depth }) (moved-is j) in
          record {
            seen =
                ap (λ (y : Thread). thread_of (saved_at ds new at y) y) is
                ∙ thread-back ds old at s (λ i. refl) r (framed t) ok eight over.result over.ensures body.result body.ensures vs (sees t) new (holds-5 k).kept.low (top_right k)
                g.1 ends (relations-two t) l.loop l.sequential (agrees-below (net_by j) (pick_by j) (okay (there_by j)) (there (there_by j)) (passed t) g.1 l.loop l.sequential)
                ∙ sym (ap (λ (b : Bool). cond b (restored ds (thread_of (saved_after s r) u) (thread_of (saved_after s r) u).stack) (thread_of (saved_after s r) u)) (lt-ltb r.depth s.thread.depth g.0));
            deep = ap (λ (y : Thread). y.depth) is;
            same = λ f. let q = (framed t).fork f in absurd (omega (arith, q, g.0));
          }
      | then-decided-depth+else-ends_round w ↦
          let g = ended k w.if-decided-depth.true in
          let ends : r.depth ≡ s.thread.depth - 1 = omega (arith, g.0, (framed t).low) in
          record {
            seen =
                ap (λ (z : Thread). thread_of (saved_at ds new at z) z) (w.thread-is ∙ moved-is j) ∙ stored
                ∙ sym (other-back ds old at s (λ i. refl) r (framed t) ok eight over.result over.ensures body.result body.ensures vs (sees t) new (holds-5 k).kept.low (top_right k)
                g.1 ends (sym (round-ends k g w.node_of-outer_number.ensures w.ends_round.ensures) ∙ w.if-ends_round.false))
                ∙ sym (ap (λ (b : Bool). cond b (restored ds (thread_of (saved_after s r) u) (thread_of (saved_after s r) u).stack) (thread_of (saved_after s r) u)) (lt-ltb r.depth s.thread.depth g.0));
            deep = ap (λ (z : Thread). z.depth) (w.thread-is ∙ moved-is j);
            same = λ f. w.thread-is;
          }
      | else-decided-depth w ↦
          record {
            seen =
                ap (λ (z : Thread). thread_of (saved_at ds new at z) z) (w.thread-is ∙ moved-is j) ∙ stored
                ∙ sym (none-back ds old at s (λ i. refl) r (framed t) ok eight over.result over.ensures body.result body.ensures vs (sees t) new (holds-5 k).kept.low (top_right k) w.if-decided-depth.false);
            deep = ap (λ (z : Thread). z.depth) (w.thread-is ∙ moved-is j);
            same = λ f. w.thread-is;
          }
    ]

-- every thread's stack is within its array
stacks-low : (c : Tabled) (i : ℕ) → i < (net_by (moved_of c)).threadcount → (get_or (net_by (moved_of c)).threads i no_thread).depth ≤ 8
stacks-low c i h = (thread-stacked (net_by (moved_of c)) (record { thread = i; row = 0 }) (okay (there_by (moved_of c))) h).few

-- the threads are still those that the step found
running-same : (c : Keeps) → c.if-decided.net.threads ≡ (net_by (moved_at c)).threads
running-same c = ap (λ (n : Net). n.threads) (holds-5 c).rest ∙ threads-same (tabled_at c)

running-long : (c : Keeps) → length c.if-decided.net.threads ≡ 8
running-long c = ap length (running-same c) ∙ (at_of (picked_of (there_by (moved_at c)))).loop-i.invariant.sized.threads

saved-long : (c : Keeps) → length c.if-decided.net.saved ≡ 64
saved-long c = (holds-5 c).kept.size ∙ sixty-four (tabled_at c)

-- ── the thread is gone ──

abbrev Carried : Type 0
Carried = Then-decided-eq0

abbrev backs_of : Carried → Backs
backs_of c = (goal.at.overflow_sub-last c).Joined-decided-depth

abbrev tabled_of : Carried → Tabled
tabled_of c = tabled_by (backs_of c)

pub overflow_sub-last : goal.overflow_sub-last
overflow_sub-last c = let h = picked-there (tabled_of c) in omega (arith, h)

pub close_up-requires-then-decided-eq0 : goal.close_up-requires-then-decided-eq0
close_up-requires-then-decided-eq0 c =
    let d = (goal.at.close_up-requires-then-decided-eq0 c).Then-decided-eq0 in
    let h = picked-there (tabled_of d) in
    let few = few-running (tabled_of d) in
    let eight = running-long (keeps_in (backs_of d)) in
    (omega (arith, h), omega (arith, few, eight))

-- ── what is saved closes up with the threads ──

abbrev Closed : Type 0
Closed = After-close_up-then-decided-eq0

abbrev carried_of : Closed → Carried
carried_of c = (goal.at.overflow_mul-end c).Then-decided-eq0

last-low : (c : Closed) → (net_by (moved_of (tabled_of (carried_of c)))).threadcount - 1 < 8
last-low c = let h = few-running (tabled_of (carried_of c)) in omega (arith, h)

pub overflow_mul-end : goal.overflow_mul-end
overflow_mul-end c = record { fits = let h = last-low c in omega (arith, h) }

pub overflow_mul-first : goal.overflow_mul-first
overflow_mul-first c = record { fits = let h = thread-low (tabled_of (carried_of c)) in omega (arith, h) }

abbrev gone_at : Closed → ℕ
gone_at c = (pick_by (moved_of (tabled_of (carried_of c)))).thread

-- the net with the threads closed up
abbrev closed_net : Closed → Net
closed_net c =
    let n = (keeps_in (backs_of (carried_of c))).if-decided.net in
    record { aliases = n.aliases; aliascount = n.aliascount; tables = n.tables; tablecount = n.tablecount; nodes = n.nodes; nodecount = n.nodecount; threads = c.close_up-then-decided-eq0.new.items; threadcount = (net_by (moved_of (tabled_of (carried_of c)))).threadcount - 1; saved = n.saved }

closing : (c : Closed) → Closing no_thread (keeps_in (backs_of (carried_of c))).if-decided.net.threads (gone_at c) ((net_by (moved_of (tabled_of (carried_of c)))).threadcount - 1) (closed_net c).threads
closing c =
    let k = keeps_in (backs_of (carried_of c)) in
    let n = net_by (moved_of (tabled_of (carried_of c))) in
    let few = few-running (tabled_of (carried_of c)) in
    subst (Closing no_thread k.if-decided.net.threads (gone_at c) (n.threadcount - 1)) (sym c.close_up-then-decided-eq0.ensures.after)
    (closing_copied no_thread k.if-decided.net.threads (gone_at c) n.threadcount (picked-there (tabled_of (carried_of c))) (omega (arith, few, running-long k)))

-- what is saved, before any of it moves
closed-long : (c : Closed) → length (closed_net c).saved ≡ 64
closed-long c = saved-long (keeps_in (backs_of (carried_of c)))

pub loop-hole-init : goal.loop-hole-init
loop-hole-init c =
    let h = picked-there (tabled_of (carried_of c)) in
    (shifting_starts (closed_net c).threads (closed_net c).saved _, refl, omega (arith, h))

abbrev Hole : Type 0
Hole = In-loop-hole

abbrev closed_of : Hole → Closed
closed_of c = (View.at-In-loop-hole _ _ _ _ _ _ _ _ _ _ c).After-close_up-then-decided-eq0

low-place : (c : Closed) (hole : ℕ) → hole < ((net_by (moved_of (tabled_of (carried_of c)))).threadcount - 1) * 8 → hole + 8 < 64
low-place c hole h = let k = last-low c in omega (arith, h, k)

hole-low : (c : Hole) → c.loop-hole.hole + 8 < 64
hole-low c = low-place (closed_of c) c.loop-hole.hole c.loop-hole-test.true

pub offset_bounds-net-owner : goal.offset_bounds-net-owner
offset_bounds-net-owner c = record { fits = let h = low-place (goal.at.offset_bounds-net-owner c).After-close_up-then-decided-eq0 c.loop-hole.hole c.loop-hole-test.true in omega (arith, h) }

pub bounds-net-owner : goal.bounds-net-owner
bounds-net-owner c = let h = low-place (goal.at.bounds-net-owner c).After-close_up-then-decided-eq0 c.loop-hole.hole c.loop-hole-test.true in omega (arith, h)

pub overflow_add-kept : goal.overflow_add-kept
overflow_add-kept c = record { fits = let h = hole-low (goal.at.overflow_add-kept c).In-loop-hole in omega (arith, h) }

pub offset_bounds-net-hole : goal.offset_bounds-net-hole
offset_bounds-net-hole c = record { fits = let h = hole-low (goal.at.offset_bounds-net-hole c).In-loop-hole in omega (arith, h) }

pub bounds-net-hole : goal.bounds-net-hole
bounds-net-hole c = hole-low (goal.at.bounds-net-hole c).In-loop-hole

pub offset_bounds-net-hole-then-hole-net : goal.offset_bounds-net-hole-then-hole-net
offset_bounds-net-hole-then-hole-net c = record { fits = let h = hole-low (goal.at.offset_bounds-net-hole-then-hole-net c).In-loop-hole in omega (arith, h) }

pub bounds-net-hole-then-hole-net : goal.bounds-net-hole-then-hole-net
bounds-net-hole-then-hole-net c = let h = hole-low (goal.at.bounds-net-hole-then-hole-net c).In-loop-hole in omega (arith, h)

-- what the loop keeps, up to this place and with this net
abbrev Moving : Closed → Net → ℕ → Type 0
Moving c n hole =
    Shifting (closed_net c).threads (closed_net c).saved (gone_at c) hole n.saved × (n ≡ with_saved (closed_net c) n.saved) × (hole ≤ ((net_by (moved_of (tabled_of (carried_of c)))).threadcount - 1) * 8)

pub loop-hole-preserved : goal.loop-hole-preserved
loop-hole-preserved c =
    let i = (goal.at.loop-hole-preserved c).In-loop-hole in
    let l = i.loop-hole in
    let d = closed_of i in
    let h = i.loop-hole-test.true in
    let low = hole-low i in
    let hole = l.hole in
    elim c.if-hole-net.branch [
      | then-hole-net w ↦
          let e = ap (λ (n : Net). n.saved) w.net-is in (
            subst (λ (z : List Saved). Shifting (closed_net d).threads (closed_net d).saved (gone_at d) (hole + 1) z) (sym e) (shifting_moves (closed_net d).threads (closed_net d).saved (gone_at d) l.invariant.0 (omega (arith, low, closed-long d))),
            w.net-is ∙ ap (λ (n : Net). with_saved n (set l.net.saved hole (get_or l.net.saved (hole + 8) no_saved))) l.invariant.1 ∙ sym (ap (with_saved (closed_net d)) e),
            omega (arith, h),
          )
      | else-hole-net w ↦
          let e = ap (λ (n : Net). n.saved) w.net-is in
          let t : l.net.threads ≡ (closed_net d).threads = ap (λ (n : Net). n.threads) l.invariant.1 in (
            subst (λ (z : List Saved). Shifting (closed_net d).threads (closed_net d).saved (gone_at d) (hole + 1) z) (sym e)
                (shifting_skips (closed_net d).threads (closed_net d).saved (gone_at d) l.invariant.0 (hole / 8) (hole % 8) (omega arith) (omega arith) (subst (λ (z : List Thread). (get_or z (hole / 8) no_thread).depth ≤ hole % 8) t w.if-hole-net.false)),
            w.net-is ∙ l.invariant.1 ∙ sym (ap (with_saved (closed_net d)) e),
            omega (arith, h),
          )
    ]

pub loop-i-preserved-then-decided-eq0 : goal.loop-i-preserved-then-decided-eq0
loop-i-preserved-then-decided-eq0 c =
    let f = c.loop-hole in
    let d = (goal.at.loop-i-preserved-then-decided-eq0 c).After-close_up-then-decided-eq0 in
    let g = carried_of d in
    let b = backs_of g in
    let q = keeps_in b in
    let t = (tabled_at q) in
    let j = (moved_of t) in
    let n = net_by j in
    let k = n.threadcount in
    let hs = (closed_net d).threads in
    again t hs (k - 1) f.net.saved ((closing d).size ∙ running-long q) (f.invariant.0.size ∙ closed-long d)
    (thread_gone (nodes_by t) k n.threads hs n.saved q.if-decided.net.saved f.net.saved (pick_by j).thread (k - 1) f.hole (picked-there t) (stacks-low t)
    (subst (λ (us : List Thread). Closing no_thread us (pick_by j).thread (k - 1) hs) (running-same q) (closing d)) (omega arith) (holds-5 q).kept.beside
    f.invariant.0 c.loop-hole-test.false
    (change_of t) g.if-decided-eq0.true (starts_thread (after_by j)) (λ h. (threads-fit t h).1))
    (f.invariant.1
    ∙ ap (λ (m : Net). net_with m m.tables m.tablecount hs (k - 1) f.net.saved) (holds-5 q).rest
    ∙ ap (λ (m : Net). net_with m t.match-kind.net.tables t.match-kind.net.tablecount hs (k - 1) f.net.saved) (left t).stored.rest)

-- ── it goes on ──

abbrev Stays : Type 0
Stays = Else-decided-eq0

abbrev backs_in : Stays → Backs
backs_in c = (goal.at.offset_bounds-net-thread_place-in-loop-i c).Joined-decided-depth

abbrev tabled_in : Stays → Tabled
tabled_in c = tabled_by (backs_in c)

pub offset_bounds-net-thread_place-in-loop-i : goal.offset_bounds-net-thread_place-in-loop-i
offset_bounds-net-thread_place-in-loop-i c = record { fits = let h = thread-low (tabled_in c) in omega (arith, h) }

pub bounds-net-thread_place-in-loop-i : goal.bounds-net-thread_place-in-loop-i
bounds-net-thread_place-in-loop-i c = thread-low (tabled_in c)

deep : (c : Stays) → 1 ≤ (after_by (moved_of (tabled_in c))).depth
deep c = let h : (after_by (moved_of (tabled_in c))).depth ≡ 0 → ⊥ = c.if-decided-eq0.false in omega arith

deep-thread : (c : Stays) → 1 ≤ (backs_in c).if-decided-depth.thread.depth
deep-thread c = subst (λ (n : ℕ). 1 ≤ n) (sym (backed (backs_in c)).deep) (deep c)

-- the net with the thread stored, from the net that the step found
put-net : (b : Backs) (hs : List Thread → List Thread) (k : ℕ) → let q = keeps_in b in let t = (tabled_at q) in
    net_with q.if-decided.net q.if-decided.net.tables q.if-decided.net.tablecount (hs q.if-decided.net.threads) k q.if-decided.net.saved
    ≡ net_with (net_by (moved_of t)) t.match-kind.net.tables t.match-kind.net.tablecount (hs (net_by (moved_of t)).threads) k q.if-decided.net.saved
put-net b hs k =
    let q = keeps_in b in
    let t = (tabled_at q) in
    ap (λ (n : Net). net_with n n.tables n.tablecount (hs n.threads) k q.if-decided.net.saved) (holds-5 q).rest
    ∙ ap (λ (n : Net). net_with n t.match-kind.net.tables t.match-kind.net.tablecount (hs n.threads) k q.if-decided.net.saved) (left t).stored.rest

none-started : {A : Type 0} (o : Option A) → ((a : A) → o ≡ Some a → ⊥) → is_some o ≡ false
none-started None h = refl
none-started (Some a) h = absurd (h a refl)

pub loop-i-preserved : goal.loop-i-preserved
loop-i-preserved c =
    let b = backs_in (goal.at.loop-i-preserved c).Else-decided-eq0 in
    let q = keeps_in b in
    let t = (tabled_at q) in
    let j = (moved_of t) in
    let n = net_by j in
    let k = n.threadcount in
    let u = b.if-decided-depth.thread in
    let eight = (at_of (picked_of (there_by j))).loop-i.invariant.sized.threads in
    let count : q.if-decided.net.threadcount ≡ k = ap (λ (m : Net). m.threadcount) (holds-5 q).rest ∙ ap (λ (m : Net). m.threadcount) (left t).stored.rest in
    again t (set n.threads (pick_by j).thread u) k q.if-decided.net.saved (length-set n.threads (pick_by j).thread u ∙ eight) (saved-long q)
    (thread-stays (nodes_by t) k n.threads n.saved q.if-decided.net.saved (pick_by j).thread (picked-there t) eight (few-running t) (stacks-low t) (holds-5 q).kept.beside u _ (backed b).seen (deep-thread (goal.at.loop-i-preserved c).Else-decided-eq0)
    (change_of t).fork (none-started _ c.in_default-inner.not-Some))
    (put-net b (λ hs. set hs (pick_by j).thread u) q.if-decided.net.threadcount
    ∙ ap (λ (m : ℕ). net_with n t.match-kind.net.tables t.match-kind.net.tablecount (set n.threads (pick_by j).thread u) m q.if-decided.net.saved) count)

-- ── and a fork goes last ──

abbrev Forks : Type 0
Forks = After-forked

abbrev stays_of : Forks → Stays
stays_of c = (goal.at.offset_bounds-net-threadcount c).Else-decided-eq0

forking : (c : Forks) → T (starts_thread (after_by (moved_of (tabled_in (stays_of c)))))
forking c = T_of _ (ap is_some c.in-Some.is)

fork-few : (c : Forks) → (net_by (moved_of (tabled_in (stays_of c)))).threadcount < 8
fork-few c = (threads-fit (tabled_in (stays_of c)) (forking c)).0

pub offset_bounds-net-threadcount : goal.offset_bounds-net-threadcount
offset_bounds-net-threadcount c = record { fits = let h = fork-few c in omega (arith, h) }

pub bounds-net-threadcount : goal.bounds-net-threadcount
bounds-net-threadcount c = let h = fork-few c in omega (arith, h)

pub overflow_add-net-in-Some : goal.overflow_add-net-in-Some
overflow_add-net-in-Some c = record { fits = let h = fork-few c in omega (arith, h) }

pub loop-i-preserved-in-Some : goal.loop-i-preserved-in-Some
loop-i-preserved-in-Some c =
    let b = backs_in (stays_of c) in
    let q = keeps_in b in
    let t = (tabled_at q) in
    let j = (moved_of t) in
    let n = net_by j in
    let k = n.threadcount in
    let u = b.if-decided-depth.thread in
    let f = c.forked.result in
    let eight = (at_of (picked_of (there_by j))).loop-i.invariant.sized.threads in
    again t (set (set n.threads (pick_by j).thread u) k f) (k + 1) q.if-decided.net.saved (length-set (set n.threads (pick_by j).thread u) k f ∙ length-set n.threads (pick_by j).thread u ∙ eight) (saved-long q)
    (thread-forks (nodes_by t) k n.threads n.saved q.if-decided.net.saved (pick_by j).thread (picked-there t) eight (few-running t) (stacks-low t) (holds-5 q).kept.beside u _ (backed b).seen (deep-thread (stays_of c))
    f (change_of t).fork
    (λ bs.
    c.forked.ensures.0 bs
    ∙ ap (λ (vs : List Got). record { site = u.site; bindings = bindings_of vs u.relations; stack = to_run (situation_by j).node.body ∷ [] }) (sym (ap (λ (o : Option (List Got)). unwrap_or o (after_by j).vars) c.in-Some.is))
    ∙ ap (λ (v : Thread). record { site = v.site; bindings = bindings_of (vars_started (after_by j)) v.relations; stack = to_run (situation_by j).node.body ∷ [] }) ((backed b).same (forking c))
    ∙ ap (λ (x : Site). record { site = x; bindings = bindings_of (vars_started (after_by j)) j.if-binds-2.thread.relations; stack = to_run (situation_by j).node.body ∷ [] }) (ap (λ (v : Thread). v.site) (moved-is j)))
    (ap is_some c.in-Some.is) (fork-few c))
    (put-net b (λ hs. set (set hs (pick_by j).thread u) k f) (k + 1))

-- ── after the last pick ──

-- what stood is what is handed on
handed-on :
    {m n : Net} {a : Answer} {u v : Total} → Sized m n →
    record { net = n; answer = a; added = u; taken = v }
    ≡ reached_by m (record { tables = n.tables; tablecount = n.tablecount; threads = n.threads; threadcount = n.threadcount; saved = n.saved; answer = a; added = u; taken = v })
handed-on {n = n} {a = a} {u = u} {v = v} z j =
    record {
      net =
          record {
            aliases = z.same_aliases j;
            aliascount = z.same_alias_count j;
            tables = n.tables;
            tablecount = n.tablecount;
            nodes = z.same_nodes j;
            nodecount = z.same_node_count j;
            threads = n.threads;
            threadcount = n.threadcount;
            saved = n.saved;
          };
      answer = a;
      added = u;
      taken = v;
    }

-- all picks are behind
all-behind : (c : After-loop-i) → c.loop-i.i ≡ length (picks_at (View.at-After-loop-i _ _ _ _ _ _ _ _ _ _ c).At-loop-i)
all-behind c = let l = (View.at-After-loop-i _ _ _ _ _ _ _ _ _ _ c).At-loop-i in let h = c.loop-i-test.false in omega (arith, h, l.loop-i.invariant.upto, count-is l)

pub returns : goal.returns
returns c =
    let l = (goal.at.returns c).At-loop-i in
    let all = all-behind (goal.at.returns c).After-loop-i in
    let room : room_at l ≡ leb (length (picks_at l) * 24) (length (lent_at l)) = l.has_room-room.ensures ∙ ap (λ (n : ℕ). leb (n * 24) (length (lent_at l))) (count-is l) in (
      subst (λ (r : Reached). CarriedIs (from_of l) (picks_at l) r) (handed-on l.loop-i.invariant.sized)
          (subst (λ (ps : List Pick). CarriedIs (from_of l) ps (reached_at l)) (take_all l.loop-i.i (picks_at l) (omega (arith, all))) l.loop-i.invariant.carried),
      put-over (view (from_of l)) (picks_at l) (room_at l) l.loop-i.i (lent_at l) _ all room l.loop-i.invariant.put,
    )
