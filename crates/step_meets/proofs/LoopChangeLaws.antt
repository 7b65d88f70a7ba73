-- The change that the code decides on at a loop is the step's: over, a round in the thread, or a round in a new one. Assumes nothing.
use Prim.Native.Nat.{ℕ, ◌-◌, ◌≤◌}
use mathlib.Core.Path.{◌≡◌, refl, ap, ap₂, sym, subst, ◌∙◌}
use mathlib.Core.Bool.{Bool, true, false, not, cond, ◌&&◌}
use mathlib.Core.List.{List, [], ◌∷◌, ◌++◌, map, append-nil}
use Rattle.std.specs.Prelude.{None, Some, Err, Ok}
use lib.Dec.{T, T_not, eqb, ltb}
use lib.ListN.{length, get_or}
use borrow.Author.Tests.{ltb-true}
use Rattle.values.specs.declared.Operand.{Operand}
use Rattle.values.specs.Lists.{among, filter}
use Rattle.std.specs.List.{list_any}
use Rattle.values.specs.Operands.{Vars}
use Rattle.rows.specs.declared.Relation as Code
use Rattle.rows.specs.Relations.{Relation}
use Rattle.rows.specs.Matching.{row_vars}
use Rattle.rows.specs.View.{relation_of, operands_of}
use Rattle.nets.specs.declared.Refusal.{Refusal}
use Rattle.nets.specs.declared.Frame.{Frame}
use Rattle.step_thread.specs.declared.Opened.{Opened}
use Rattle.step_meets.specs.declared.Decided.{Decided}
use Rattle.step_meets.specs.Situations.{Situation, Change, saved_after}
use Rattle.nets.specs.Nets as M
use Rattle.nets.specs.Nets.{Kind, is_loop, is_parallel, binds_relation, to_run, visiting}
use Rattle.nets.specs.Sound.{entry_node}
use Rattle.nets.specs.Scenes.{Scene, below, still_to_visit, row_at}
use Rattle.nets.specs.Steps.{room_for_round, check12, first_met, loop_entry, round_bindings, with_bindings, with_stack, with_vars, go_on, settle}
use Rattle.nets.specs.Answers.{answer_of, said_of}
use Rattle.nets.specs.View.{kind_at, marked, node_in, entry_of, variable_of, bindings_of, thread_of}
use Rattle.step_effect.specs.EffectContracts.{puts_rows}
use Rattle.step_thread.specs.ThreadContracts.{RoundAnswer, round_said, round_by, ready_at, visit_of, RoundIs, is_run, goes_on}
use Rattle.step_meets.specs.MeetContracts.{outcome_at, Meets, own_bindings, relation_read, becomes, Made, new_thread, ChangeIs}
use Rattle.nets.proofs.KindClasses.{class_in, in_class}
use Rattle.nets.proofs.StackView.{entry-node_in}
use Rattle.step_thread.proofs.ThreadLaws.{visit-any}
use Rattle.step_meets.proofs.DecideLaws.{changed_to}
use Rattle.step_meets.proofs.MovedLaws.{saved-top}
use Rattle.step_meets.proofs.MeetTies.{met-kind, met-vars, met-template, met-relation, met_round, met-room}
use Rattle.step_meets.proofs.RoundTies.{said_round, round_here, round_with, round_answer, over-threads, sequential_threads, parallel_threads, loop-visit, loop-row}

-- a loop changes no rows
puts_none : (k : Kind) → T (is_loop k) → T (puts_rows k) → ⊥
puts_none k l = T_not (puts_rows k) (class_in is_loop (λ j. not (puts_rows j)) tt k l)

-- and binds no table variable
binds-none : (k : Kind) → T (is_loop k) → binds_relation k ≡ false
binds-none k l = in_class is_loop k l binds_relation false tt

pub loop-relations : (s : Situation) (q : Code.Relation) (r : Decided) (x : Made s q r) → T (is_loop (kind_at s.node.kind)) → map variable_of x.relations ≡ map variable_of s.thread.relations
loop-relations s q r x l = x.bound ∙ rw (binds-none (kind_at s.node.kind) l)

-- a thread with such bindings goes on as it is
pub same-bindings :
    (s : Situation) (q : Code.Relation) (r : Decided) (x : Made s q r) → T (is_loop (kind_at s.node.kind)) → r.vars ≡ s.thread.vars →
    (ds : List M.Node) → go_on ds s.node.next (with_bindings (thread_of s.saved s.thread) (bindings_of r.vars x.relations)) (below (thread_of s.saved s.thread).stack) ≡ go_on ds s.node.next (thread_of s.saved s.thread) (below (thread_of s.saved s.thread).stack)
same-bindings s q r x l v ds =
    λ i.
    go_on ds s.node.next
    (record { site = s.thread.site; bindings = record { vars = v i; relations = loop-relations s q r x l i }; stack = (thread_of s.saved s.thread).stack })
    (below (thread_of s.saved s.thread).stack)

-- a round in a thread: its variables, and the entries that its top gives way to
abbrev pub round_in : M.Thread → Vars → M.Entry → M.Entry → M.Thread
round_in t vs x y = with_stack (with_bindings t (with_vars t.bindings vs)) (x ∷ y ∷ below t.stack)

-- a round has room
has_room_lem : (a b q r : Bool) → round_by a b q r ≡ Ok true → r ≡ true
has_room_lem false b q r e = cc
has_room_lem true false q r e = cc
has_room_lem true true false r e = cc
has_room_lem true true true false e = cc
has_room_lem true true true true e = refl

pub round_room_lem : {e : Vars} {t : List Operand} {r : Relation} {f : Frame} {row : ℕ} {room : Bool} {o : RoundAnswer} {p : Opened} → RoundIs e t r f row room o → o ≡ Ok (Some p) → room ≡ true
round_room_lem {e} {t} {r} {f} {row} {room} got h =
    has_room_lem (eqb (length t) (length r.columns)) (list_any (ready_at e t r) (visit_of f r)) (among row (visit_of f r) && ready_at e t r row) room (sym got.answer ∙ ap round_said h)

-- ── room, by the code's tests ──

pub room-met :
    (s : Situation) (c : Scene) → Meets s c → {p room : Bool} → p ≡ is_parallel (kind_at s.node.kind) → room ≡ cond p (ltb s.threads 8) (ltb s.thread.depth 8) →
    room ≡ room_for_round c
room-met s c m e f = f ∙ ap (λ (b : Bool). cond b (ltb s.threads 8) (ltb s.thread.depth 8)) e ∙ sym (met-room s c m)

-- ── the answer of a round ──

-- a round of the code at a scene's loop, where check 12 passed; the table variable read is `source`
pub record RoundAt (s : Situation) (c : Scene) (o : RoundAnswer) : Type 0 where
  pub meets : Meets s c
  pub loop : T (is_loop (kind_at s.node.kind))
  pub twelve : check12 c ≡ true
  pub source : Code.Relation
  pub held : relation_read s ≡ Some (relation_of source)
  pub room : Bool
  pub space : room ≡ room_for_round c
  pub got : RoundIs s.thread.vars (operands_of s.node.selector.template) (relation_of source) s.frame s.row room o

module _ (s : Situation) (c : Scene) (o : RoundAnswer) (r : RoundAt s c o) where
  abbrev m : Meets s c
  m = r.meets

  abbrev q : Relation
  q = relation_of r.source

  loops : T (is_loop c.node.kind)
  loops = subst (λ (k : Kind). T (is_loop k)) (sym (met-kind s c m)) r.loop

  round_is : {t : RoundAnswer} → o ≡ t → round_here c ≡ round_said t
  round_is e =
      met_round s c m r.loop q r.held
      ∙ ap (round_with s.thread.vars (operands_of s.node.selector.template) q (visit_of s.frame q) s.row) (sym r.space)
      ∙ sym r.got.answer ∙ ap round_said e

  pub round_says : {t : RoundAnswer} → o ≡ t → said_round (round_said t) ≡ answer_of (outcome_at c)
  round_says e = sym (round_answer c loops r.twelve ∙ ap said_round (round_is e))

  pub round_stops : (why : Refusal) → o ≡ Err why → said_of (Err why) ≡ answer_of (outcome_at c)
  round_stops why e = round_says e

  kind-is : is_parallel c.node.kind ≡ is_parallel (kind_at s.node.kind)
  kind-is = ap is_parallel (met-kind s c m)

  puts_no-rows : T (puts_rows c.node.kind) → ⊥
  puts_no-rows = puts_none c.node.kind loops

  -- ── what becomes of the threads ──

  module _ (n : Code.Relation) (d : Decided) (x : Made s n d) where
    abbrev change : Bool → Change
    change forks = changed_to s n d x (Ok (record { added = 0; taken = 0 })) forks

    pub round_over :
        o ≡ Ok None →
        goes_on (becomes c.net.nodes (change false)) ≡ go_on c.net.nodes s.node.next (thread_of s.saved s.thread) (below (thread_of s.saved s.thread).stack) →
        ChangeIs c (change false)
    round_over e goes_on_lem =
        record {
          answer = round_says e;
          content = λ h k. absurd (puts_no-rows k);
          room = λ h. absurd h;
          threads = λ h.
              over-threads c loops (round_is e)
              ∙ ap₂ (λ (y : M.Node) (t : M.Thread). settle c.at (go_on c.net.nodes y.next t (below t.stack)) c.net.threads) m.node m.thread
              ∙ ap (λ (us : List M.Thread). settle c.at us c.net.threads) (sym goes_on_lem)
              ∙ sym (append-nil (settle c.at (goes_on (becomes c.net.nodes (change false))) c.net.threads));
        }

    -- ── a round ──

    module _ (p : Opened) (e : o ≡ Ok (Some p)) (first : d.saves ≡ is_run s.frame.entry) where
      -- what the loop's entry holds from now on
      abbrev entry : M.Entry
      entry = visiting (node_in s.frame.entry) (marked 0 p.visit) (saved_after s d (s.thread.depth - 1))

      abbrev bound : M.Bindings
      bound = with_vars (own_bindings s) p.vars

      entry-is : loop_entry c ≡ entry
      entry-is =
          ap₂ (λ (y : M.Entry) (v : List ℕ). visiting (entry_node y) v (first_met c.thread y)) m.entry
          (ap₂ (λ (i : ℕ) (v : List ℕ). filter (λ j. not (eqb j i)) v) (sym m.row)
          (loop-visit c loops q (met-relation s c m ∙ r.held) ∙ ap (λ (y : M.Entry). still_to_visit y (length q.rows)) m.entry ∙ visit-any (s.saved (s.thread.depth - 1)) s.frame (length q.rows))
          ∙ sym ((r.got.opened p e).visit))
          ∙ ap₂ (λ (i : ℕ) (b : M.Bindings). visiting i (marked 0 p.visit) b) (entry-node_in (s.saved (s.thread.depth - 1)) s.frame)
          (ap (λ (t : M.Thread). first_met t (entry_of (s.saved (s.thread.depth - 1)) s.frame)) m.thread ∙ saved-top s d first)

      bindings_are : round_bindings c ≡ bound
      bindings_are =
          ap₂ with_vars (ap (λ (t : M.Thread). t.bindings) m.thread)
          (ap₂ (λ (v : Vars) (t : List Operand). row_vars v t (row_at c c.row)) (met-vars s c m) (met-template s c m)
          ∙ ap (row_vars s.thread.vars (operands_of s.node.selector.template))
          (loop-row c loops q (met-relation s c m ∙ r.held) c.row ∙ ap (λ (i : ℕ). get_or q.rows i []) (sym m.row))
          ∙ sym ((r.got.opened p e).vars))

      -- in the thread: the formals are bound and the body goes on the stack
      pub round_runs :
          is_parallel (kind_at s.node.kind) ≡ false →
          becomes c.net.nodes (change false) ≡ round_in (thread_of s.saved s.thread) p.vars (to_run s.node.body) entry →
          ChangeIs c (change false)
      round_runs h g =
          record {
            answer = round_says e;
            content = λ y k. absurd (puts_no-rows k);
            room = λ y. absurd y;
            threads = λ y.
                sequential_threads c loops (round_is e) (kind-is ∙ h)
                ∙ ap (λ (t : M.Thread). settle c.at (t ∷ []) c.net.threads)
                (ap₂ (λ (z : M.Entry) (b : M.Bindings). with_stack (with_bindings c.thread b) (to_run c.node.body ∷ z ∷ below c.thread.stack)) entry-is bindings_are
                ∙ ap₂ (λ (t : M.Thread) (k : M.Node). with_stack (with_bindings t bound) (to_run k.body ∷ entry ∷ below t.stack)) m.thread m.node)
                ∙ ap (λ (us : List M.Thread). settle c.at us c.net.threads) (sym (ap goes_on g))
                ∙ sym (append-nil (settle c.at (goes_on (becomes c.net.nodes (change false))) c.net.threads));
          }

      -- in a new thread: the loop's own keeps its variables
      pub round_forks :
          is_parallel (kind_at s.node.kind) ≡ true → 1 ≤ d.depth →
          becomes c.net.nodes (change true) ≡ with_stack (thread_of s.saved s.thread) (entry ∷ below (thread_of s.saved s.thread).stack) →
          new_thread s d x.relations ≡ record { site = s.thread.site; bindings = bindings_of p.vars s.thread.relations; stack = to_run s.node.body ∷ [] } →
          ChangeIs c (change true)
      round_forks h deep g f =
          record {
            answer = round_says e;
            content = λ y k. absurd (puts_no-rows k);
            room = λ y. (ltb-true (length c.net.threads) 8 (sym (ap (λ (k : ℕ). ltb k 8) m.threads) ∙ space-is), deep);
            threads = λ y.
                parallel_threads c loops (round_is e) (kind-is ∙ h)
                ∙ ap₂ (λ (z : M.Entry) (b : M.Bindings). both c.thread c.node.body z b) entry-is bindings_are
                ∙ ap₂ (λ (t : M.Thread) (k : M.Node). both t k.body entry bound) m.thread m.node
                ∙ ap₂ (λ (us : List M.Thread) (u : M.Thread). settle c.at us c.net.threads ++ (u ∷ [])) (sym (ap goes_on g)) (sym f);
          }
        where
          both : M.Thread → ℕ → M.Entry → M.Bindings → List M.Thread
          both t k z b = settle c.at (with_stack t (z ∷ below t.stack) ∷ []) c.net.threads ++ (with_stack (with_bindings t b) (to_run k ∷ []) ∷ [])

          space-is : ltb s.threads 8 ≡ true
          space-is =
              sym (ap (λ (b : Bool). cond b (ltb s.threads 8) (ltb s.thread.depth 8)) h)
              ∙ sym (met-room s c m) ∙ sym r.space ∙ round_room_lem r.got e
