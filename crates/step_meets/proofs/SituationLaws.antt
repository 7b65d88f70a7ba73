-- What soundness and check 12 say of the parts that a pick meets: counts, table variables, the source of rows, and a select's t. Assumes nothing.
use Prim.Native.Nat.{ℕ, ◌≤◌, ◌<◌}
use mathlib.Core.Path.{◌≡◌, refl, ap, ap₂, sym, subst, ◌∙◌}
use mathlib.Core.Bool.{Bool, true, false, not, cond, ◌&&◌}
use mathlib.Core.List.{List}
use Rattle.std.specs.Prelude.{Option, None, Some, is_some, unwrap_or}
use native.Mathlib.Omega.{arith}
use lib.Dec.{T, eqb, ltb, eqb→eq, leb→le, ltb→lt}
use lib.ListN.{length}
use Rattle.values.specs.declared.Operand.{Operand}
use Rattle.std.specs.List.{list_all}
use Rattle.values.proofs.Bools.{and_l, and_r, and_in, is_true, T_of, T_not_of}
use Rattle.values.proofs.ListLaws.{all-at}
use Rattle.values.proofs.Firsts.{length-firsts}
use Rattle.rows.specs.declared.Operands.{Operands}
use Rattle.rows.specs.declared.Relation as Code
use Rattle.rows.specs.Relations.{Relation}
use Rattle.rows.specs.View.{no_row, no_field, values_of, relation_of, operands_of, Shaped, Short}
use Rattle.row_change.specs.ChangeContracts.{Complete}
use Rattle.nets.specs.View.{TableVariable}
use Rattle.step_meets.specs.Situations.{Situation}
use Rattle.nets.specs.Nets as M
use Rattle.nets.specs.Nets.{Kind, has_template, has_tuple, is_select, is_loop, reads_relation, binds_relation, code}
use Rattle.nets.specs.Sound.{operands_ok, is_empty, template_ok, relation_ok, fields_ok_as, links_ok_as}
use Rattle.nets.specs.Scenes.{Scene, source}
use Rattle.nets.specs.Steps.{is_bound, is_bound_table, reads_ok, check12}
use Rattle.nets.specs.View.{kind_at, node_of, variable_of}
use Rattle.step_reads.specs.ReadContracts.{flag_at}
use Rattle.step_effect.specs.EffectContracts.{is_step, StepReady, JudgeReady}
use Rattle.step_thread.specs.ThreadContracts.{visit_of}
use Rattle.step_meets.specs.MeetContracts.{Meets, own_bindings, relation_read, Fine, Known, SourceIs, Sourced}
use Rattle.step_meets.proofs.EffectTies.{read-source, own-source}
use Rattle.nets.proofs.StepLaws.{given}
use Rattle.nets.proofs.RoundLaws.{loop-reads}
use Rattle.step_meets.proofs.CompleteLaws.{select-complete}
use Rattle.step_meets.proofs.MeetTies.{met-kind, met-relation}

-- ── counts of a relation ──

-- at most 4 columns and 16 rows
pub record Within (r : Relation) : Type 0 where
  pub columns : length r.columns ≤ 4
  pub rows : length r.rows ≤ 16

pub shaped : (r : Code.Relation) → Within (relation_of r) → Shaped r
shaped r h =
    record {
      columns = subst (λ (n : ℕ). n ≤ 4) (length-firsts (λ (k : ℕ). k) 0 r.columns r.kinds) h.columns;
      count = subst (λ (n : ℕ). n ≤ 16) (length-firsts (values_of r.columns) no_row r.count r.rows) h.rows;
    }

-- ── a node's fields, used or not ──

either : {P : Type 0} (a x y : Bool) → (T x → P) → (T y → P) → T (cond a x y) → P
either true x y f g h = f h
either false x y f g h = g h

below_two : (a : Bool) (n : ℕ) → T (cond a (ltb n 2) (eqb n 0)) → n < 2
below_two a n = either a (ltb n 2) (eqb n 0) (ltb→lt n 2) (λ e. omega (arith, eqb→eq n 0 e))

-- operands with tags, or none
module _ (l : List Operand) where
  some-few : (hi : ℕ) → T (operands_ok hi l) → length l ≤ 4
  some-few hi h = leb→le (length l) 4 (search (and_l, and_r))

  none-few : T (is_empty l) → length l ≤ 4
  none-few h = omega (arith, eqb→eq (length l) 0 h)

short : (t : Operands) → length (operands_of t) ≤ 4 → Short t
short t h = record { count = subst (λ (n : ℕ). n ≤ 4) (length-firsts (λ (o : Operand). o) no_field t.count t.fields) h }

module _ (k : Kind) (d : M.Node) (h : T (fields_ok_as k d)) where
  known-kind : T (not (eqb (code k) 0))
  unfolding fields_ok_as
  known-kind = search (and_l, and_r) depth 14

  bound-below : d.bound < 2
  unfolding fields_ok_as
  bound-below = below_two (binds_relation k) d.bound (search (and_l, and_r) depth 14)

  pub read_below : d.read < 2
  unfolding fields_ok_as
  read_below = below_two (reads_relation k) d.read (search (and_l, and_r) depth 14)

  template-few : length d.selector.template ≤ 4
  unfolding fields_ok_as
  template-few =
      let t : List Operand = d.selector.template in
      either (has_template k) (template_ok t) (is_empty t) (λ g. some-few t 6 (search and_l)) (none-few t) (search (and_l, and_r) depth 14)

  tuple-few : length d.tuple ≤ 4
  unfolding fields_ok_as
  tuple-few =
      let t : List Operand = d.tuple in
      either (has_tuple k) (operands_ok 5 t) (cond (is_select k) (operands_ok 4 t) (is_empty t)) (some-few t 5)
      (either (is_select k) (operands_ok 4 t) (is_empty t) (some-few t 4) (none-few t)) (search (and_l, and_r) depth 14)

module _ (s : Situation) (f : Fine s) where
  fields_fine : T (fields_ok_as (kind_at s.node.kind) (node_of s.node))
  fields_fine = and_l (fields_ok_as (kind_at s.node.kind) (node_of s.node)) (links_ok_as (kind_at s.node.kind) f.count f.number (node_of s.node)) f.node

  pub fine-bound : s.node.bound < 2
  fine-bound = bound-below (kind_at s.node.kind) (node_of s.node) fields_fine

  pub fine-read : s.node.read < 2
  fine-read = read_below (kind_at s.node.kind) (node_of s.node) fields_fine

  pub fine-template : Short s.node.selector.template
  fine-template = short s.node.selector.template (template-few (kind_at s.node.kind) (node_of s.node) fields_fine)

  pub fine-tuple : Short s.node.tuple
  fine-tuple = short s.node.tuple (tuple-few (kind_at s.node.kind) (node_of s.node) fields_fine)

  -- rows can be judged before check 12 is
  pub judge_ready : (q : Code.Relation) → Shaped q → JudgeReady s.node q
  judge_ready q h = record { source = h; template = fine-template; tuple = fine-tuple }

  -- a kind that is no loop
  pub fine-step : {b : Bool} → b ≡ is_loop (kind_at s.node.kind) → b ≡ false → T (is_step (kind_at s.node.kind))
  fine-step e h =
      and_in (not (eqb (code (kind_at s.node.kind)) 0)) (not (is_loop (kind_at s.node.kind))) (known-kind (kind_at s.node.kind) (node_of s.node) fields_fine)
      (T_not_of (is_loop (kind_at s.node.kind)) (sym e ∙ h))

  -- ── table variables ──

  bound-fine : T (relation_ok (relation_read s))
  bound-fine =
      let b : M.Bindings = own_bindings s in
      let k = f.bindings in
      let two : length b.relations ≡ 2 = eqb→eq (length b.relations) 2 (search (and_l, and_r)) in
      all-at relation_ok b.relations s.node.read None (search (and_l, and_r)) (omega (arith, fine-read))

  read-shaped : (q : Code.Relation) → relation_read s ≡ Some (relation_of q) → Shaped q
  read-shaped q e =
      let k : T (relation_ok (Some (relation_of q))) = subst (λ (o : Option Relation). T (relation_ok o)) e bound-fine in
      shaped q
      (record {
        columns = leb→le (length (relation_of q).columns) 4 (search (and_l, and_r));
        rows = leb→le (length (relation_of q).rows) 16 (search (and_l, and_r));
      })

module _ (s : Situation) (k : Known s) where
  read-bound : T (reads_relation (kind_at s.node.kind)) → T (is_some (relation_read s))
  unfolding reads_ok
  read-bound r = let q = k.reads in given (reads_relation (kind_at s.node.kind)) (is_some (relation_read s)) r (search and_r)

  -- ── a select's t ──

  pub known-complete : Fine s → T (is_select (kind_at s.node.kind)) → Complete s.thread.vars (operands_of s.node.selector.template) (operands_of s.node.tuple)
  known-complete f h = select-complete (own_bindings s) (node_of s.node) f.count f.number f.node f.bindings k.reads h

-- ── check 12 ──

module _ (s : Situation) (c : Scene) (m : Meets s c) where
  met_12 : check12 c ≡ reads_ok (is_bound (own_bindings s).vars) (is_bound_table (own_bindings s).relations) (node_of s.node)
  unfolding check12
  met_12 = ap₂ (λ (t : M.Thread) (d : M.Node). reads_ok (is_bound t.bindings.vars) (is_bound_table t.bindings.relations) d) m.thread m.node

  pub known_12 : Known s → check12 c ≡ true
  known_12 k = met_12 ∙ is_true (reads_ok (is_bound (own_bindings s).vars) (is_bound_table (own_bindings s).relations) (node_of s.node)) k.reads

-- with the table variables that are bound given by flags
module _ (s : Situation) (hs : List Bool) (held : (i : ℕ) → flag_at hs i ≡ is_bound_table (own_bindings s).relations i)
    {b : Bool} (e : b ≡ reads_ok (is_bound s.thread.vars) (flag_at hs) (node_of s.node)) where
  reads-flagged : b ≡ reads_ok (is_bound (own_bindings s).vars) (is_bound_table (own_bindings s).relations) (node_of s.node)
  reads-flagged = e ∙ (λ i. reads_ok (is_bound s.thread.vars) (λ n. held n i) (node_of s.node))

  pub flagged-known : b ≡ true → Known s
  flagged-known h = record { reads = subst T (sym h ∙ reads-flagged) tt }

  pub flagged_12 : (c : Scene) → Meets s c → b ≡ check12 c
  flagged_12 c m = reads-flagged ∙ sym (met_12 s c m)

-- ── the source of rows ──

module _ (s : Situation) (f : Fine s) where
  abbrev source_from : TableVariable → Bool → Code.Relation
  source_from v a = cond a (unwrap_or v s.content) s.content

  -- a bound one is what is read
  source-read : (v : TableVariable) → variable_of v ≡ relation_read s → T (reads_relation (kind_at s.node.kind)) → Known s → SourceIs s (source_from v true)
  source-read (Some q) p r k =
      record {
        shaped = read-shaped s f q (sym p);
        read = λ g. sym p;
        own = λ g. absurd (subst T g r);
      }
  source-read None p r k =
      absurd (subst (λ (o : Option Relation). T (is_some o)) (sym p) (read-bound s k r))

  shaped_from : (v : TableVariable) → variable_of v ≡ relation_read s → (a : Bool) → Shaped (source_from v a)
  shaped_from (Some q) p true = read-shaped s f q (sym p)
  shaped_from None p true = f.content
  shaped_from v p false = f.content

  pub sourced : (v : TableVariable) → variable_of v ≡ relation_read s → Sourced s (source_from v (reads_relation (kind_at s.node.kind)))
  sourced v p =
      record {
        shaped = shaped_from v p (reads_relation (kind_at s.node.kind));
        source = go (reads_relation (kind_at s.node.kind)) refl;
      }
    where
      go : (a : Bool) → reads_relation (kind_at s.node.kind) ≡ a → Known s → SourceIs s (source_from v a)
      go true e k = source-read v p (T_of (reads_relation (kind_at s.node.kind)) e) k
      go false e k = record { shaped = f.content; read = λ g. absurd (subst T e g); own = λ g. refl }

module _ (s : Situation) (q : Code.Relation) (i : SourceIs s q) where
  pub source-met : (c : Scene) → Meets s c → relation_of q ≡ source c
  source-met c m = go (reads_relation (kind_at s.node.kind)) refl
    where
      go : (b : Bool) → reads_relation (kind_at s.node.kind) ≡ b → relation_of q ≡ source c
      go true e =
          sym (read-source c (T_of (reads_relation c.node.kind) (ap reads_relation (met-kind s c m) ∙ e)) (relation_of q)
          (met-relation s c m ∙ i.read (T_of (reads_relation (kind_at s.node.kind)) e)))
      go false e = i.own e ∙ m.content ∙ sym (own-source c (ap reads_relation (met-kind s c m) ∙ e))

  pub loop-read : T (is_loop (kind_at s.node.kind)) → relation_read s ≡ Some (relation_of q)
  loop-read l = i.read (loop-reads (kind_at s.node.kind) l)

  -- the places to visit are rows of it
  pub visits-there : Fine s → T (is_loop (kind_at s.node.kind)) → T (list_all (λ (j : ℕ). ltb j q.count) (visit_of s.frame (relation_of q)))
  visits-there f l =
      subst (λ (n : ℕ). T (list_all (λ (j : ℕ). ltb j n) (visit_of s.frame (relation_of q))))
      (length-firsts (values_of q.columns) no_row q.count q.rows) (f.visits l (relation_of q) (loop-read l))

  pub step-ready : Fine s → Known s → StepReady s.node s.content q s.thread.vars
  step-ready f k =
      record {
        content = f.content;
        source = i.shaped;
        template = fine-template s f;
        tuple = fine-tuple s f;
        own = i.own;
        complete = known-complete s k f;
      }
