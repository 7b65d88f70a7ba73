-- The rows judged: from what a pass over the source gave to what the step's kind wants of it. Assumes nothing.
use Prim.Native.Nat.{ℕ, ◌≤◌}
use mathlib.Core.Path.{◌≡◌, ap, ap₂, sym, ◌∙◌, subst}
use mathlib.Core.Bool.{Bool, true, false}
use mathlib.Core.List.{List, map}
use mathlib.Core.Logic.{◌⊎◌, inl, inr}
use native.Mathlib.Omega.{arith}
use lib.Dec.{T}
use lib.ListN.{length}
use mir.Val.{Val}
use denote.Laws.{Is}
use Rattle.values.specs.Operands.{Got}
use Rattle.values.specs.Lists.{count, firsts}
use Rattle.rows.specs.declared.Row.{Row}
use Rattle.rows.specs.declared.Relation as Code
use Rattle.rows.specs.declared.Term.{Term}
use Rattle.rows.specs.declared.Terms.{Terms}
use Rattle.rows.specs.declared.Operands.{Operands}
use Rattle.values.specs.declared.Operand.{Operand}
use Rattle.values.proofs.Firsts.{length-firsts}
use Rattle.rows.specs.declared.Plan.{Plan}
use Rattle.rows.specs.Matching.{hits}
use Rattle.rows.specs.View.{no_row, no_field, values_of, columns_of, relation_of, operands_of, selector_of, Ready}
use Rattle.rows.specs.Plans.{term_of, terms_in, plan_hits}
use Rattle.rows.specs.contracts.Relation as R
use Rattle.row_change.specs.declared.Swept.{Swept}
use Rattle.row_change.specs.declared.Pass.{Pass}
use Rattle.row_change.specs.declared.Pass.TheVariants.{Mark, Update}
use Rattle.row_change.specs.Changes.{selected_columns}
use Rattle.row_change.specs.Aggregates.{aggregated, column_fits}
use Rattle.row_change.specs.ChangeContracts.{marks, sift, SweptIs}
use Rattle.row_change.proofs.Prepared.{Planned, Termed, planned, termed, columns-same, marks_are, number_is, hits-marked, picked, changes-marked, replaced}
use Rattle.row_change.proofs.SweepLaws.{sift-marked}
use Rattle.nets.specs.declared.Node.{Node}
use Rattle.nets.specs.Nets.{is_select, is_update}
use Rattle.nets.specs.View.{kind_at}
use Rattle.step_rows.specs.Passes.{pass_by}
use Rattle.step_effect.specs.EffectContracts.{Long, hit_in, changed_in, JudgeReady, JudgedIs}

never : {A : Type 0} {b : Bool} → b ≡ true → b ≡ false → A
never p q = absurd (subst T (sym p ∙ q) tt)

-- ── the shape ──

-- the columns of what a step makes of a row: a select's own, or the relation's
pub record ShapeIs (d : Node) (q : Code.Relation) (vs : List Got) (columns : ℕ) (kinds : List ℕ) : Type 0 where
  pub short : columns ≤ 4
  pub select : is_select (kind_at d.kind) ≡ true →
      (columns ≡ d.tuple.count) × (columns_of columns kinds ≡ selected_columns vs (operands_of d.selector.template) (operands_of d.tuple) (columns_of d.selector.template.count q.kinds))
  pub own : is_select (kind_at d.kind) ≡ false → (columns ≡ q.columns) × (kinds ≡ q.kinds)

module _ (d : Node) (q : Code.Relation) (vars : List Got) {x : Bool} (sel : x ≡ is_select (kind_at d.kind)) {columns : ℕ} {kinds : List ℕ} where
  pub shape-select : x ≡ true → d.tuple.count ≤ 4 → columns ≡ d.tuple.count →
      columns_of d.tuple.count kinds ≡ selected_columns vars (operands_of d.selector.template) (operands_of d.tuple) (columns_of d.selector.template.count q.kinds) →
      ShapeIs d q vars columns kinds
  shape-select is short e made = record { short = rw e short; select = λ k. (e, rw e made); own = λ k. never (sym sel ∙ is) k }

  pub shape-own : x ≡ false → q.columns ≤ 4 → columns ≡ q.columns → kinds ≡ q.kinds → ShapeIs d q vars columns kinds
  shape-own is short e f = record { short = rw e short; select = λ k. never k (sym sel ∙ is); own = λ k. (e, f) }

-- what is read of T as a slice
module _ (T' : Operands) {t : List Operand} (read : t ≡ operands_of T') where
  used-long : length t ≡ T'.count
  used-long = ap length read ∙ length-firsts (λ (o : Operand). o) no_field T'.count T'.fields

  pub used-short : T'.count ≤ 4 → length t ≤ 4
  used-short h = omega (arith, used-long)

  pub kinds-made : (vars : List Got) (u : List Operand) (kinds : List ℕ) {made : List ℕ} → made ≡ selected_columns vars t u (columns_of (length t) kinds) →
      made ≡ selected_columns vars (operands_of T') u (columns_of T'.count kinds)
  kinds-made vars u kinds h = h ∙ ap₂ (λ l n. selected_columns vars l u (columns_of n kinds)) read used-long

  pub terms-made : (vars : List Got) (u : List Operand) {made : List Term} → made ≡ map (term_of vars t) u → made ≡ map (term_of vars (operands_of T')) u
  terms-made vars u h = h ∙ ap (λ l. map (term_of vars l) u) read

-- ── which kinds are judged how ──

-- a delete or an aggregate has no new rows
plain : {b : ℕ} → (b ≡ 18) ⊎ (b ≡ 22) → pass_by (is_select (kind_at b)) (is_update (kind_at b)) ≡ Mark
unfolding kind_at
plain (inl e) = ap (λ (i : ℕ). pass_by (is_select (kind_at i)) (is_update (kind_at i))) e
plain (inr e) = ap (λ (i : ℕ). pass_by (is_select (kind_at i)) (is_update (kind_at i))) e

update-kind : {b : ℕ} → b ≡ 21 → is_select (kind_at b) ≡ false
unfolding kind_at
update-kind e = ap (λ (i : ℕ). is_select (kind_at i)) e

update-pass : {b : ℕ} → b ≡ 21 → pass_by (is_select (kind_at b)) (is_update (kind_at b)) ≡ Update
unfolding kind_at
update-pass e = ap (λ (i : ℕ). pass_by (is_select (kind_at i)) (is_update (kind_at i))) e

-- ── the rows judged ──

-- an aggregate's result, over the rows that are marked
abbrev pub ResultIs : Node → Code.Relation → List Bool → Got → Type 0
ResultIs d q flags g =
    d.kind ≡ 22 → T (column_fits d.function d.column (relation_of q).columns) → g ≡ aggregated d.function d.column (sift true (marks q.count flags) (relation_of q).rows)

module _ (d : Node) (q : Code.Relation) (vars : List Got) (sixteen : length vars ≡ 16) (ready : JudgeReady d q) {vs : List Val} (good : Is R.the_row q vs)
    {columns : ℕ} {kinds : List ℕ} (shape : ShapeIs d q vars columns kinds) (plan : Plan)
    (plans : (row : Row) → length row.cells ≡ 4 → plan_hits plan row ≡ hits vars (selector_of d.selector) (values_of d.selector.template.count row))
    (terms : Terms) (made : terms_in terms ≡ map (term_of vars (operands_of d.selector.template)) (operands_of d.tuple)) (as_many : terms.count ≡ d.tuple.count)
    {pass : Pass} (by : pass ≡ pass_by (is_select (kind_at d.kind)) (is_update (kind_at d.kind))) (o : Swept)
    (swept : SweptIs plan pass terms (columns_of columns kinds) q.count q.rows o) (g : Got)
    (res : ResultIs d q o.flags g) where
  fine : Long d q → Ready q d.selector
  fine l = record { columns = ready.source.columns; count = ready.source.count; long = l }

  p : Long d q → Planned q d.selector vars plan
  p l = planned (fine l) good vars plan plans

  t : Long d q → Termed q d.selector vars (operands_of d.tuple) terms
  t l = termed (fine l) vars sixteen d.tuple terms made

  hit-is : (d.kind ≡ 18) ⊎ (d.kind ≡ 22) → Long d q →
      (marks q.count o.flags ≡ map (hit_in d vars) (relation_of q).rows) × (count (λ (b : Bool). b) o.flags ≡ count (hit_in d vars) (relation_of q).rows)
  hit-is k l =
      let stay = by ∙ plain k in
      (marks_are (p l) (t l) swept (hit_in d vars) (hits-marked (p l) (t l) swept stay), number_is (p l) (t l) swept (hit_in d vars) (hits-marked (p l) (t l) swept stay))

  pub judged-is : JudgedIs d q vars (record { columns = columns; kinds = kinds; rows = o.rows; flags = o.flags; result = g })
  judged-is =
      record {
        short = shape.short;
        hit = hit-is;
        update =
            λ k l.
            let own = shape.own (update-kind k) in
            let same = ap₂ columns_of own.0 own.1 in
            let strict = by ∙ update-pass k in
            (replaced (p l) (t l) swept strict same, number_is (p l) (t l) swept (changed_in d q vars) (changes-marked (p l) (t l) swept strict same));
        select =
            λ k l complete.
            let loose = by ∙ ap (λ b. pass_by b (is_update (kind_at d.kind))) k in (
              columns-same (fine l) vars (operands_of d.tuple) (shape.select k).1,
              ap (λ (m : ℕ). sift true (marks q.count o.flags) (firsts (values_of m) no_row q.count o.rows)) ((shape.select k).0 ∙ sym as_many)
                  ∙ picked (p l) (t l) swept loose complete,
            );
        result =
            λ k l f.
            res k f
            ∙ ap (aggregated d.function d.column) (ap (λ (m : List Bool). sift true m (relation_of q).rows) (hit-is (inr k) l).0 ∙ sift-marked (hit_in d vars) (relation_of q).rows);
      }
