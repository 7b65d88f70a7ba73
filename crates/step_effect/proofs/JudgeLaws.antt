-- What a step that is no loop comes to, kind by kind, from what the code's tests answered and its callees gave back. Assumes nothing.
use Prim.Native.Nat.{ℕ, ◌+◌, ◌<◌, ◌≤◌}
use mathlib.Core.Path.{◌≡◌, refl, ap, ap₂, sym, ◌∙◌, subst}
use mathlib.Core.Bool.{Bool, true, false, not, ◌&&◌}
use mathlib.Core.List.{List, [], ◌∷◌, ◌++◌}
use mathlib.Core.Logic.{◌⊎◌, inl, inr}
use native.Mathlib.Omega.{arith}
use borrow.Author.Tests.{eqb-true}
use lib.Dec.{T, eqb, ltb, leb, ltb→lt, leb→le}
use lib.ListN.{length}
use Rattle.values.specs.Operands.{Got}
use Rattle.values.specs.Lists.{count}
use Rattle.std.specs.List.{list_all}
use Rattle.values.specs.Operands.{is_got, values_in, formal_of, bind, bind_to}
use Rattle.values.proofs.Bools.{T_of, and_l, and_r, is_true}
use Rattle.values.proofs.Firsts.{length-firsts}
use Rattle.rows.specs.declared.Row as CodeRow
use Rattle.values.specs.declared.Operand.{Operand}
use Rattle.rows.specs.declared.Operands.{Operands}
use Rattle.rows.specs.declared.Draft.{Draft}
use Rattle.rows.specs.declared.Relation as Code
use Rattle.rows.specs.Relations.{Relation}
use Rattle.rows.specs.Matching.{matches1, unselected}
use Rattle.rows.specs.Fit.{draft, fits, same_columns}
use Rattle.rows.specs.View.{no_field, no_row, no_slot, values_of, columns_of, relation_of, operands_of, selector_of, draft_of, Shaped}
use Rattle.rows.proofs.FitLaws.{same-columns}
use Rattle.row_change.specs.Changes.{changes, updated}
use Rattle.row_change.specs.Aggregates.{column_fits}
use Rattle.row_change.specs.ChangeContracts.{Holds, Complete, marks, sift}
use Rattle.row_change.proofs.Prepared.{fits-long, fits-got, row-given}
use Rattle.row_change.proofs.SweepLaws.{sift-marked, sift-others}
use Rattle.nets.specs.Answers.{Answer}
use Rattle.nets.specs.declared.Node.{Node}
use Rattle.nets.specs.Nets.{is_select, has_template}
use Rattle.nets.specs.Steps.{rows_by, bound_by, vars_by}
use Rattle.nets.specs.Answers.{Said, doing, step_said, said_of}
use Rattle.nets.specs.View.{kind_at}
use Rattle.nets.proofs.StepLaws.{insert-fits, long-fits, column_fits_lem}
use Rattle.step_effect.specs.declared.Judged.{Judged}
use Rattle.step_effect.specs.EffectContracts.{parts_of, Long, hit_in, Doing, JudgedIs}
use Rattle.step_effect.proofs.AnswerForms.{passing, insert-form, append-form, delete_form, select-form, select-relation-form, update-form, aggregate_form, drop-form}

-- ── lengths and counts ──

pub rows-count : (r : Code.Relation) → length (relation_of r).rows ≡ r.count
rows-count r = length-firsts (values_of r.columns) no_row r.count r.rows

pub columns-count : (r : Code.Relation) → length (relation_of r).columns ≡ r.columns
columns-count r = length-firsts (λ (k : ℕ). k) 0 r.columns r.kinds

-- T against the columns
abbrev long_for : Operands → Code.Relation → Bool
long_for t r = eqb (length (operands_of t)) (length (columns_of r.columns r.kinds))

long-counts : (t : Operands) (r : Code.Relation) → long_for t r ≡ eqb t.count r.columns
long-counts t r = ap₂ eqb (length-firsts (λ (o : Operand). o) no_field t.count t.fields) (columns-count r)

is-long : (t : Operands) (r : Code.Relation) → long_for t r ≡ true → t.count ≡ r.columns
is-long t r e = eqb-true t.count r.columns (sym (long-counts t r) ∙ e)

passing_then : (t : Bool) (n : ℕ) {s s' : Said} → (t ≡ true → s ≡ s') → passing t n s ≡ passing t n s'
passing_then true n h = h refl
passing_then false n h = refl

-- ── insert ──

-- `g` is what t gives
module _ (d : Node) (r q : Code.Relation) (vars : List Got) (g : Draft) (given : draft_of g ≡ draft vars (operands_of d.tuple)) (k : d.kind ≡ 16) where
  pub insert-said : {t : Bool} → t ≡ fits (columns_of r.columns r.kinds) (draft_of g) → (a b : Answer) → said_of a ≡ passing (ltb r.count 16) 20 (doing 1 0) →
      said_of b ≡ passing t 16 (said_of a) → (held : Bool) (tables : ℕ) → said_of b ≡ step_said (parts_of d r q vars) held tables
  unfolding kind_at
  insert-said fit a b ea eb held tables =
      eb ∙ ap₂ (λ (x : Bool) (s : Said). passing x 16 s) (fit ∙ ap (fits (columns_of r.columns r.kinds)) given) (ea ∙ ap (λ (n : ℕ). passing (ltb n 16) 20 (doing 1 0)) (sym (rows-count r)))
      ∙ sym (insert-form (parts_of d r q vars) held tables (ap kind_at k))

  pub insert-content : Doing d r q vars → (row : CodeRow.Row) → (T (list_all is_got (draft_of g)) → values_of g.count row ≡ values_in (draft_of g)) →
      {o : Code.Relation} → Holds o (relation_of r).columns ((relation_of r).rows ++ (values_of r.columns row ∷ [])) →
      Holds o (relation_of r).columns (rows_by (kind_at d.kind) (parts_of d r q vars) (relation_of r).rows)
  unfolding kind_at rows_by
  insert-content does row made put = rw k (rw (← row-given g row given long (fits-got (relation_of r).columns _ fits') made) put)
    where
      fits' : T (fits (relation_of r).columns (draft vars (operands_of d.tuple)))
      fits' = rw k at (insert-fits (parts_of d r q vars) does.fits)

      long : g.count ≡ r.columns
      long =
          sym (length-firsts (λ (g : Got). g) no_slot g.count g.slots) ∙ ap length given
          ∙ sym (fits-long (relation_of r).columns (draft vars (operands_of d.tuple)) fits') ∙ columns-count r

pub insert-room : (d : Node) (r q : Code.Relation) (vars : List Got) → d.kind ≡ 16 → Doing d r q vars → r.count < 16
unfolding kind_at
insert-room d r q vars k does = let room = rw k at does.room in omega (arith, ltb→lt, rows-count r)

-- ── insert of a relation's rows ──

module _ (d : Node) (r q : Code.Relation) (vars : List Got) (k : d.kind ≡ 17) where
  abbrev alike : Bool
  alike = same_columns (columns_of r.columns r.kinds) (columns_of q.columns q.kinds)

  pub append-said : {t : Bool} → t ≡ alike → (a b : Answer) → said_of a ≡ passing (leb (r.count + q.count) 16) 20 (doing q.count 0) →
      said_of b ≡ passing t 16 (said_of a) → (held : Bool) (tables : ℕ) → said_of b ≡ step_said (parts_of d r q vars) held tables
  unfolding kind_at
  append-said same a b ea eb held tables =
      eb ∙ ap₂ (λ (x : Bool) (s : Said). passing x 16 s) same (ea ∙ ap₂ (λ (m n : ℕ). passing (leb (m + n) 16) 20 (doing n 0)) (sym (rows-count r)) (sym (rows-count q)))
      ∙ sym (append-form (parts_of d r q vars) held tables (ap kind_at k))

  pub append-content : {o : Code.Relation} → Holds o (relation_of r).columns ((relation_of r).rows ++ (relation_of q).rows) → Holds o (relation_of r).columns (rows_by (kind_at d.kind) (parts_of d r q vars) (relation_of r).rows)
  unfolding kind_at rows_by
  append-content put = rw k put

  module _ (does : Doing d r q vars) where
    pub append-width : q.columns ≡ r.columns
    unfolding kind_at
    append-width =
        let same : T alike = rw k at (insert-fits (parts_of d r q vars) does.fits) in
        sym (columns-count q) ∙ ap length (sym (same-columns (relation_of r).columns (relation_of q).columns same)) ∙ columns-count r

    pub append-room : r.count + q.count ≤ 16
    unfolding kind_at
    append-room = let room = rw k at does.room in omega (arith, leb→le, rows-count r, rows-count q)

-- ── drop ──

pub drop-said : (d : Node) (r q : Code.Relation) (vars : List Got) (held : Bool) (tables : ℕ) → d.kind ≡ 24 → doing 0 r.count ≡ step_said (parts_of d r q vars) held tables
unfolding kind_at
drop-said d r q vars held tables k = ap (doing 0) (sym (rows-count r)) ∙ sym (drop-form (parts_of d r q vars) held tables (ap kind_at k))

-- ── rows judged ──

module _ (d : Node) (q : Code.Relation) (vars : List Got) {j : Judged} (is : JudgedIs d q vars j) where
  -- a check of T's length, and what is said where it passes
  long-said : {s s' : Said} → (Long d q → s ≡ s') → passing (eqb d.selector.template.count q.columns) 16 s ≡ passing (long_for d.selector.template q) 16 s'
  long-said {s} h =
      ap (λ (t : Bool). passing t 16 s) (sym (long-counts d.selector.template q))
      ∙ passing_then (long_for d.selector.template q) 16 (λ l. h (is-long d.selector.template q l))

  module _ (r : Code.Relation) where
    -- T is as long as the columns where check 16 passed
    does-long : T (has_template (kind_at d.kind)) → Doing d r q vars → Long d q
    does-long h does = is-long d.selector.template q (is_true _ (long-fits (parts_of d r q vars) does.fits h))

    module _ (held : Bool) (tables : ℕ) where
      pub select-said : (d.kind ≡ 19) ⊎ (d.kind ≡ 20) → (a b : Answer) → said_of a ≡ passing (not held) 17 (doing 0 0) →
          said_of b ≡ passing (eqb d.selector.template.count q.columns) 16 (said_of a) → said_of b ≡ step_said (parts_of d r q vars) held tables
      unfolding kind_at
      select-said (inl k) a b ea eb = eb ∙ long-said (λ l. ea) ∙ sym (select-form (parts_of d r q vars) held tables (ap kind_at k))
      select-said (inr k) a b ea eb = eb ∙ long-said (λ l. ea) ∙ sym (select-relation-form (parts_of d r q vars) held tables (ap kind_at k))

      pub aggregate_said : d.kind ≡ 22 → {t u : Bool} → t ≡ column_fits d.function d.column (relation_of q).columns →
          u ≡ (is_got j.result && matches1 vars d.result j.result) → (a b : Answer) → said_of a ≡ passing u 18 (doing 0 0) →
          said_of b ≡ passing (eqb d.selector.template.count q.columns && t) 16 (said_of a) → said_of b ≡ step_said (parts_of d r q vars) held tables
      unfolding kind_at
      aggregate_said k et eu a b ea eb =
          eb ∙ ap (λ (y : Bool). passing y 16 (said_of a)) (ap₂ ◌&&◌ (sym (long-counts d.selector.template q)) et)
          ∙ passing_then (long_for d.selector.template q && column_fits d.function d.column (relation_of q).columns) 16
          (λ l.
          let h = T_of _ l in
          ea
          ∙ ap (λ (y : Bool). passing y 18 (doing 0 0))
          (eu
          ∙ ap (λ (g : Got). is_got g && matches1 vars d.result g)
          (is.result k (is-long d.selector.template q (is_true _ (and_l (long_for d.selector.template q) _ h))) (and_r (long_for d.selector.template q) _ h))))
          ∙ sym (aggregate_form (parts_of d r q vars) held tables (ap kind_at k))

      -- the table's content is the source
      module _ (own : relation_of q ≡ relation_of r) where
        pub delete_said : d.kind ≡ 18 → {n : ℕ} → n ≡ count (λ (b : Bool). b) j.flags → (a b : Answer) → said_of a ≡ passing (not held) 17 (doing 0 n) →
            said_of b ≡ passing (eqb d.selector.template.count q.columns) 16 (said_of a) → said_of b ≡ step_said (parts_of d r q vars) held tables
        unfolding kind_at
        delete_said k en a b ea eb =
            eb ∙ long-said (λ l. ea ∙ ap (λ (m : ℕ). passing (not held) 17 (doing 0 m)) (en ∙ (is.hit (inl k) l).1 ∙ ap (λ (x : Relation). count (hit_in d vars) x.rows) own))
            ∙ sym (delete_form (parts_of d r q vars) held tables (ap kind_at k))

        pub update-said : d.kind ≡ 21 → {n : ℕ} → n ≡ count (λ (b : Bool). b) j.flags → (b : Answer) →
            said_of b ≡ passing (eqb d.selector.template.count q.columns) 16 (doing n n) → said_of b ≡ step_said (parts_of d r q vars) held tables
        unfolding kind_at
        update-said k en b eb =
            eb ∙ long-said (λ l. ap (λ (m : ℕ). doing m m) (en ∙ (is.update k l).1 ∙ ap (λ (x : Relation). count (changes vars (selector_of d.selector) (operands_of d.tuple) x.columns) x.rows) own))
            ∙ sym (update-form (parts_of d r q vars) held tables (ap kind_at k))

    -- ── what it does ──

    module _ (does : Doing d r q vars) where
      pub delete_bound : d.kind ≡ 18 → {o : Code.Relation} → Holds o (relation_of q).columns (sift true (marks q.count j.flags) (relation_of q).rows) →
          Holds o (bound_by (kind_at d.kind) (parts_of d r q vars)).columns (bound_by (kind_at d.kind) (parts_of d r q vars)).rows
      unfolding kind_at bound_by
      delete_bound k put =
          let l = does-long (rw k tt) does in
          rw k
          (record {
            columns = put.columns;
            rows = put.rows ∙ ap (λ (m : List Bool). sift true m (relation_of q).rows) (is.hit (inl k) l).0 ∙ sift-marked (hit_in d vars) (relation_of q).rows;
            shaped = put.shaped;
          })

      pub select-bound : (d.kind ≡ 19) ⊎ (d.kind ≡ 20) → is_select (kind_at d.kind) ≡ true → Complete vars (operands_of d.selector.template) (operands_of d.tuple) →
          {o : Code.Relation} → Holds o (columns_of j.columns j.kinds) (sift true (marks q.count j.flags) (relation_of (record { columns = j.columns; kinds = j.kinds; rows = j.rows; count = q.count })).rows) →
          Holds o (bound_by (kind_at d.kind) (parts_of d r q vars)).columns (bound_by (kind_at d.kind) (parts_of d r q vars)).rows
      unfolding kind_at bound_by
      select-bound (inl k) s full put = let l = does-long (rw k tt) does in rw k (record { columns = put.columns ∙ (is.select s l full).0; rows = put.rows ∙ (is.select s l full).1; shaped = put.shaped })
      select-bound (inr k) s full put = let l = does-long (rw k tt) does in rw k (record { columns = put.columns ∙ (is.select s l full).0; rows = put.rows ∙ (is.select s l full).1; shaped = put.shaped })

      pub aggregate_vars : d.kind ≡ 22 → (vs : List Got) → vs ≡ bind_to (formal_of d.result) j.result vars → vs ≡ vars_by (kind_at d.kind) (parts_of d r q vars)
      unfolding kind_at bind vars_by
      aggregate_vars k vs bound =
          rw k (bound ∙ ap (λ (z : Got). bind_to (formal_of d.result) z vars) (is.result k (does-long (rw k tt) does) (column_fits_lem (parts_of d r q vars) does.fits (rw k tt))))

      -- the table's content is the source
      module _ (own : relation_of q ≡ relation_of r) where
        pub delete_content : d.kind ≡ 18 → {o : Code.Relation} → Holds o (relation_of q).columns (sift false (marks q.count j.flags) (relation_of q).rows) →
            Holds o (relation_of r).columns (rows_by (kind_at d.kind) (parts_of d r q vars) (relation_of r).rows)
        unfolding kind_at rows_by
        delete_content k {o} put =
            let l = does-long (rw k tt) does in
            rw k
            (subst (λ (x : Relation). Holds o x.columns (unselected vars (selector_of d.selector) x.rows)) own
            (record {
              columns = put.columns;
              rows = put.rows ∙ ap (λ (m : List Bool). sift false m (relation_of q).rows) (is.hit (inl k) l).0 ∙ sift-others (hit_in d vars) (relation_of q).rows;
              shaped = put.shaped;
            }))

        pub update-content : d.kind ≡ 21 → Shaped q →
            Holds (record { columns = q.columns; kinds = q.kinds; rows = j.rows; count = q.count }) (relation_of r).columns (rows_by (kind_at d.kind) (parts_of d r q vars) (relation_of r).rows)
        unfolding kind_at rows_by
        update-content k shaped =
            let l = does-long (rw k tt) does in
            rw k
            (subst (λ (x : Relation). Holds (record { columns = q.columns; kinds = q.kinds; rows = j.rows; count = q.count }) x.columns (updated vars (selector_of d.selector) (operands_of d.tuple) x.columns x.rows)) own
            (record { columns = refl; rows = (is.update k l).0; shaped = record { columns = shaped.columns; count = shaped.count } }))
