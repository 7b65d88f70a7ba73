-- The change that the code decides on is the step's: checks 12 to 15 in their order, a step that is no loop, and a loop's round. Assumes nothing.
use Prim.Native.Nat.{ℕ}
use mathlib.Core.Path.{◌≡◌, refl, ap, ap₂, sym, subst, ◌∙◌}
use mathlib.Core.Bool.{Bool, true, false, not, cond, ◌&&◌, ◌||◌}
use mathlib.Core.List.{List, [], ◌++◌, append-nil}
use Rattle.std.specs.Prelude.{Some, is_some, Result, Err, Ok}
use lib.Dec.{T, eqb, ltb}
use lib.ListN.{set, length}
use Rattle.values.proofs.Bools.{and_r, T_of}
use Rattle.rows.specs.declared.Relation as Code
use Rattle.rows.specs.Relations.{Relation}
use Rattle.rows.specs.View.{relation_of}
use Rattle.row_change.specs.ChangeContracts.{Holds}
use Rattle.nets.specs.declared.Refusal.{Refusal}
use Rattle.nets.specs.Answers.{Answer}
use Rattle.nets.specs.declared.Node.{Node}
use Rattle.values.specs.Operands.{Got}
use Rattle.step_meets.specs.declared.Decided.{Decided}
use Rattle.step_meets.specs.Situations.{Situation, Change, moved, saved_after, answer_in, starts_thread}
use Rattle.nets.specs.Nets as M
use Rattle.nets.specs.Nets.{Kind, code, is_loop, has_locality, needs_table, is_create, binds_relation}
use Rattle.nets.specs.Tables.{rows_of, columns_of, table_at}
use Rattle.nets.specs.Scenes.{Scene, below, Parts, parts, site, table, source}
use Rattle.nets.specs.Steps.{held, check12, check13, check14, check15, check17, rows_by, tables_by, bound_by, vars_by, bindings_by, with_bindings, go_on, settle, threads_after, first_refusal, checks, part_checks}
use Rattle.nets.specs.Answers.{refusing, is_doing, step_said, answer_of, said_of}
use Rattle.nets.specs.View.{kind_at, bindings_of, thread_of}
use Rattle.step_effect.specs.EffectContracts.{is_step, puts_rows, parts_of, Doing}
use Rattle.step_thread.specs.ThreadContracts.{goes_on, forks_of}
use Rattle.step_meets.specs.MeetContracts.{outcome_at, Meets, parts_in, becomes, Made, new_thread, changed, Framed, DecidedAt, DecidedIs, ChangeIs}
use Rattle.nets.proofs.AnswerLaws.{said-passed}
use Rattle.nets.proofs.KindLaws.{at_one}
use Rattle.step_meets.proofs.EffectTies.{puts_rows_lem, effect_answer, effect_threads}
use Rattle.step_meets.proofs.MeetTies.{met-kind, met-parts}

-- ── refusals ──

pub never_done : (r : Result Decided Refusal) (why : Refusal) → r ≡ Err why → T (is_doing (said_of (answer_in r))) → ⊥
never_done r why e h = subst (λ (x : Result Decided Refusal). T (is_doing (said_of (answer_in x)))) e h

-- a pick that is carried out is no refusal
does-done : (r : Result Decided Refusal) (d : Decided) → r ≡ Ok d → T (is_doing (said_of (answer_in r)))
does-done r d e = subst (λ (x : Result Decided Refusal). T (is_doing (said_of (answer_in x)))) (sym e) tt

abbrev carried : Decided → Result Decided Refusal
carried r = Ok r

done-is : (r d : Decided) → carried r ≡ Ok d → r ≡ d
done-is r d e = ap (λ (x : Result Decided Refusal). done_or r x) e
  where
    done_or : Decided → Result Decided Refusal → Decided
    done_or r (Ok x) = x
    done_or r (Err why) = r

-- the change with another word for its answer, and for whether it forks
abbrev pub changed_to : (s : Situation) (q : Code.Relation) (r : Decided) → Made s q r → Answer → Bool → Change
changed_to s q r x a b =
    record {
      answer = a;
      content = x.content;
      thread = moved s.thread r x.above x.body x.relations;
      saved = saved_after s r;
      ends = ltb r.depth s.thread.depth;
      forks = b;
      fork = new_thread s r x.relations;
    }

module _ (c : Scene) where
  -- a refusal changes nothing
  pub refused-at : (s : Situation) (q : Code.Relation) (r : Result Decided Refusal) (why : Refusal) → r ≡ Err why → said_of (Err why) ≡ answer_of (outcome_at c) → DecidedAt s q c r
  refused-at s q r why e a =
      record {
        answer = ap (λ (x : Result Decided Refusal). said_of (answer_in x)) e ∙ a;
        change = λ d k. absurd (never_done r why e (does-done r d k));
        framed = λ d k. absurd (never_done r why e (does-done r d k));
      }

  -- what is carried out changes what the step changes
  pub done-at :
      (s : Situation) (q : Code.Relation) (r : Decided) → said_of (Ok r.done) ≡ answer_of (outcome_at c) → ((m : Made s q r) → ChangeIs c (changed s q r m)) → Framed s r → DecidedAt s q c (Ok r)
  done-at s q r said change framed =
      record {
        answer = said;
        change = λ d k. subst (λ (x : Decided). (m : Made s q x) → ChangeIs c (changed s q x m)) (done-is r d k) change;
        framed = λ d k. subst (Framed s) (done-is r d k) framed;
      }

  pub change_as :
      (s : Situation) (q : Code.Relation) (r : Decided) (x : Made s q r) {a : Answer} {b : Bool} → Ok r.done ≡ a → starts_thread r ≡ b →
      ChangeIs c (changed_to s q r x a b) → ChangeIs c (changed s q r x)
  change_as s q r x e f = subst (λ (z : Bool × Answer). ChangeIs c (changed_to s q r x z.1 z.0)) (λ i. (sym f i, sym e i))

  pub refuses_12 : check12 c ≡ false → refusing 12 [] ≡ answer_of (outcome_at c)
  unfolding first_refusal checks
  refuses_12 e = rw e

  module _ (twelve : check12 c ≡ true) where
    pub refuses_13 : check13 c ≡ false → refusing 13 [] ≡ answer_of (outcome_at c)
    unfolding first_refusal checks
    refuses_13 e = rw (twelve, e)

    module _ (thirteen : check13 c ≡ true) where
      pub refuses_14 : check14 c ≡ false → refusing 14 [] ≡ answer_of (outcome_at c)
      unfolding first_refusal checks
      refuses_14 e = rw (twelve, thirteen, e)

      pub refuses_15 : check14 c ≡ true → check15 c ≡ false → refusing 15 [] ≡ answer_of (outcome_at c)
      unfolding first_refusal checks
      refuses_15 fourteen e = rw (twelve, thirteen, fourteen, e)

-- at every scene
pub refused-is : (s : Situation) (q : Code.Relation) (r : Result Decided Refusal) (why : Refusal) → r ≡ Err why → ((c : Scene) → Meets s c → said_of (Err why) ≡ answer_of (outcome_at c)) → DecidedIs s q r
refused-is s q r why e a =
    record { at = λ c m. refused-at c s q r why e (a c m); known = λ h. absurd (never_done r why e h); does = λ h. absurd (never_done r why e h) }

-- ── checks 13 to 15, by the code's tests ──

deny : (a b : Bool) → (not a || b) ≡ not (a && not b)
deny true true = refl
deny true false = refl
deny false b = refl

deny-both : (a b : Bool) → (not a || not b) ≡ not (a && b)
deny-both true b = refl
deny-both false b = refl

module _ (s : Situation) (c : Scene) (m : Meets s c) where
  pub tested_13 : {p : Bool} (l : Bool) → p ≡ has_locality (kind_at s.node.kind) → is_some s.located ≡ not l → check13 c ≡ not (p && l)
  unfolding check13
  tested_13 {p} l e f =
      ap₂ (λ (a b : Bool). not a || b) (ap has_locality (met-kind s c m) ∙ sym e) (ap is_some m.located ∙ f) ∙ deny-both p l

  pub tested_14 : {p : Bool} → p ≡ needs_table (kind_at s.node.kind) → check14 c ≡ not (p && not s.found)
  unfolding check14
  tested_14 {p} e = ap₂ (λ (a b : Bool). not a || b) (ap needs_table (met-kind s c m) ∙ sym e) (sym m.found) ∙ deny p s.found

  pub tested_15 : check15 c ≡ not (eqb s.node.kind 23 && s.found)
  unfolding check15 kind_at
  tested_15 =
      ap₂ (λ (a b : Bool). not a || not b) (ap is_create (met-kind s c m) ∙ sym (at_one is_create 23 tt tt s.node.kind)) (sym m.found)
      ∙ deny-both (eqb s.node.kind 23) s.found

-- ── a step that is no loop ──

pub loop-no-step : (k : Kind) → T (is_loop k) → T (is_step k) → ⊥
loop-no-step k l h = go (is_loop k) l (and_r (not (eqb (code k) 0)) (not (is_loop k)) h)
  where
    go : (b : Bool) → T b → T (not b) → ⊥
    go true x y = y
    go false x y = x

-- a done step passed checks 16 and 20
pub done-parts : (d : Node) (r q : Code.Relation) (vs : List Got) (h : Bool) (n : ℕ) → T (is_doing (step_said (parts_of d r q vs) h n)) → Doing d r q vs
unfolding step_said
done-parts d r q vs h n x =
    let passed = said-passed (part_checks (parts_of d r q vs) h n) _ x in
    record { fits = passed.0; tables = n; room = passed.1.1.1.0 }

-- whether the table variable is held matters only where the kind binds one
held_where : (p : Parts) (n : ℕ) (h i : Bool) → (T (binds_relation p.node.kind) → h ≡ i) → step_said p h n ≡ step_said p i n
unfolding step_said check17
held_where p n h i e = go (binds_relation p.node.kind) refl
  where
    go : (b : Bool) → binds_relation p.node.kind ≡ b → step_said p h n ≡ step_said p i n
    go true b = ap (λ (x : Bool). step_said p x n) (e (T_of _ b))
    go false b = rw b

module _ (s : Situation) (c : Scene) (m : Meets s c) (step : T (is_step (kind_at s.node.kind))) (q : Code.Relation) (from : relation_of q ≡ source c) where
  abbrev kind : Kind
  kind = kind_at s.node.kind

  met : parts_in s q ≡ parts c
  met = met-parts s c m q from

  scene_step : T (is_step c.node.kind)
  scene_step = subst (λ (k : Kind). T (is_step k)) (sym (met-kind s c m)) step

  module _ (twelve : check12 c ≡ true) (thirteen : check13 c ≡ true) (fourteen : check14 c ≡ true) (fifteen : check15 c ≡ true) where
    pub act_answers : (a : Answer) → said_of a ≡ step_said (parts_in s q) s.held s.tables → said_of a ≡ answer_of (outcome_at c)
    act_answers a said =
        said
        ∙ ap₂ (λ (p : Parts) (n : ℕ). step_said p s.held n) met m.tables
        ∙ held_where (parts c) (length c.net.tables) s.held (held c) m.held
        ∙ sym (effect_answer c scene_step twelve thirteen fourteen fifteen)

    module _ (r : Decided) (x : Made s q r) where
      act_content : T (puts_rows c.node.kind) → Holds x.content (columns_of (table c)) (rows_of (table_at (site c) c.node.name (tables_by c.node.kind c)))
      act_content h =
          let o = x.put (subst (λ (x : Kind). T (puts_rows x)) (met-kind s c m) h) in
          record {
            columns = o.columns ∙ ap (λ (y : Relation). y.columns) m.content;
            rows = o.rows ∙ ap (λ (p : Parts). rows_by p.node.kind p p.content.rows) met ∙ sym (puts_rows_lem c h fourteen);
            shaped = o.shaped;
          }

      bindings_are : r.vars ≡ vars_by kind (parts_in s q) → bindings_by c.node.kind c ≡ bindings_of r.vars x.relations
      unfolding bindings_by
      bindings_are v =
          ap₂ (λ (p : Parts) (t : M.Thread). record { vars = vars_by p.node.kind p; relations = cond (binds_relation p.node.kind) (set t.bindings.relations p.node.bound (Some (bound_by p.node.kind p))) t.bindings.relations }) (sym met) m.thread
          ∙ sym (λ i. record { vars = v i; relations = x.bound i })

      pub act_change :
          said_of (Ok r.done) ≡ step_said (parts_in s q) s.held s.tables → starts_thread r ≡ false → r.vars ≡ vars_by kind (parts_in s q) →
          goes_on (becomes c.net.nodes (changed s q r x)) ≡ go_on c.net.nodes s.node.next (with_bindings (thread_of s.saved s.thread) (bindings_of r.vars x.relations)) (below (thread_of s.saved s.thread).stack) →
          ChangeIs c (changed s q r x)
      act_change said f v goes_on_lem =
          record {
            answer = act_answers (Ok r.done) said;
            content = λ h k. act_content k;
            room = λ h. absurd (subst T f h);
            threads = λ h.
                threads ∙ sym (append-nil after)
                ∙ ap (λ (b : Bool). after ++ forks_of b (new_thread s r x.relations)) (sym f);
          }
        where
          after : List M.Thread
          after = settle c.at (goes_on (becomes c.net.nodes (changed s q r x))) c.net.threads

          threads : threads_after c ≡ after
          threads =
              effect_threads c scene_step
              ∙ ap₂ (λ (b : M.Bindings) (y : M.Thread). settle c.at (go_on c.net.nodes c.node.next (with_bindings y b) (below y.stack)) c.net.threads) (bindings_are v) m.thread
              ∙ ap (λ (d : M.Node). settle c.at (go_on c.net.nodes d.next (with_bindings (thread_of s.saved s.thread) (bindings_of r.vars x.relations)) (below (thread_of s.saved s.thread).stack)) c.net.threads) m.node
              ∙ ap (λ (us : List M.Thread). settle c.at us c.net.threads) (sym goes_on_lem)
