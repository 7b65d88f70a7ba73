-- A plan and terms over the rows of the relation they were prepared for: they judge and give what the rules do.
use Prim.Native.Nat.{ℕ, suc, ◌≤◌, ◌<◌}
use mathlib.Core.Path.{◌≡◌, refl, sym, ap, ap₂, ◌∙◌, subst}
use mathlib.Core.Bool.{Bool, true, false, cond, ◌&&◌}
use mathlib.Core.List.{List, [], ◌∷◌, map, map-map}
use native.Mathlib.Omega.{arith}
use borrow.Author.Tests.{lt-ltb, le-ltb}
use lib.Dec.{T}
use lib.ListN.{length, get_or, length-map, get_or-map}
use mir.Val.{Val}
use denote.Laws.{Is}
use Rattle.values.specs.Operands.{Got}
use Rattle.std.specs.Prelude.{None, Some}
use Rattle.values.specs.declared.Operand.{Operand}
use Rattle.values.specs.Lists.{count, filter, firsts}
use Rattle.std.specs.List.{list_all}
use Rattle.values.specs.Operands.{Vars, is_got, values_in, bind, kind_in}
use Rattle.values.proofs.Bools.{and_r, T_of}
use Rattle.values.proofs.Firsts.{length-firsts, firsts_at, firsts_same, map-firsts}
use Rattle.values.specs.declared.Value.{Value}
use Rattle.rows.specs.declared.Row.{Row}
use Rattle.rows.specs.declared.Relation.{Relation}
use Rattle.rows.specs.declared.Operands.{Operands}
use Rattle.rows.specs.declared.Selector.{Selector}
use Rattle.rows.specs.declared.Term.{Term}
use Rattle.rows.specs.declared.Terms.{Terms}
use Rattle.rows.specs.declared.Plan.{Plan}
use Rattle.rows.specs.declared.Draft.{Draft}
use Rattle.rows.specs.Relations as M
use Rattle.rows.specs.Matching.{hits}
use Rattle.rows.specs.Fit.{draft, of_kind, fits}
use Rattle.rows.specs.View.{no_cell, no_row, no_field, values_of, columns_of, relation_of, operands_of, selector_of, draft_of, Ready}
use Rattle.rows.specs.Plans.{origin_of, term_of, term_got, origin_kind, no_component, terms_in, plan_hits}
use Rattle.rows.specs.contracts.Relation as R
use Rattle.rows.proofs.Lengths.{cells-long}
use Rattle.rows.proofs.PlanLaws.{origin_read, term_got_lem}
use Rattle.row_change.specs.declared.Swept.{Swept}
use Rattle.row_change.specs.declared.Pass.{Pass}
use Rattle.row_change.specs.declared.Pass.TheVariants.{Mark, Update, Select}
use Rattle.row_change.specs.Changes.{draft_for, tuple_for, changes, renewed, updated, kinds_of, selected_columns}
use Rattle.row_change.specs.ChangeContracts.{given_by, replaces, sweeps, SweptIs, marks, sift, Complete}
use Rattle.row_change.proofs.SweepLaws.{sift-made, count_map, count-marks}

-- ── what fits ──

-- a draft that fits has as many values as columns, and all of them
pub fits-long : (cs : List ℕ) (d : List Got) → T (fits cs d) → length cs ≡ length d
fits-long [] [] h = refl
fits-long [] (g ∷ d) h = absurd h
fits-long (k ∷ cs) [] h = absurd h
fits-long (k ∷ cs) (g ∷ d) h = ap suc (fits-long cs d (and_r (of_kind k g) (fits cs d) h))

pub fits-got : (cs : List ℕ) (d : List Got) → T (fits cs d) → T (list_all is_got d)
fits-got [] [] h = tt
fits-got [] (g ∷ d) h = absurd h
fits-got (k ∷ cs) [] h = tt
fits-got (k ∷ cs) (None ∷ d) h = absurd h
fits-got (k ∷ cs) (Some v ∷ d) h = fits-got cs d (and_r (of_kind k (Some v)) (fits cs d) h)

-- the row of a draft that gives all its values, `n` of them
pub row-given : (d : Draft) {g : List Got} {n : ℕ} (o : Row) → draft_of d ≡ g → d.count ≡ n → T (list_all is_got g) →
    (T (list_all is_got (draft_of d)) → values_of d.count o ≡ values_in (draft_of d)) → values_of n o ≡ values_in g
row-given d o given long got made =
    ap (λ (m : ℕ). values_of m o) (sym long) ∙ made (subst (λ (g : List Got). T (list_all is_got g)) (sym given) got) ∙ ap values_in given

-- ── the rows of a relation ──

-- a plan made for a relation with four cells a row
pub record Planned (r : Relation) (s : Selector) (e : Vars) (plan : Plan) : Type 0 where
  pub ready : Ready r s
  pub cells : (i : ℕ) → i < 16 → length (get_or r.rows i no_row).cells ≡ 4
  pub tests : (row : Row) → length row.cells ≡ 4 → plan_hits plan row ≡ hits e (selector_of s) (values_of s.template.count row)

-- a tuple's terms made for it
pub record Termed (r : Relation) (s : Selector) (e : Vars) (u : List Operand) (terms : Terms) : Type 0 where
  pub ready : Ready r s
  pub vars : length e ≡ 16
  pub made : terms_in terms ≡ map (term_of e (operands_of s.template)) u

pub planned : {r : Relation} {s : Selector} {vs : List Val} → Ready r s → Is R.the_row r vs → (e : Vars) (plan : Plan) →
    ((row : Row) → length row.cells ≡ 4 → plan_hits plan row ≡ hits e (selector_of s) (values_of s.template.count row)) → Planned r s e plan
planned {r} {vs = vs} ready good e plan tests = record { ready = ready; cells = cells-long r vs good; tests = tests }

pub termed : {r : Relation} {s : Selector} → Ready r s → (vars : List Got) → length vars ≡ 16 → (t : Operands) (terms : Terms) →
    terms_in terms ≡ map (term_of vars (operands_of s.template)) (operands_of t) → Termed r s vars (operands_of t) terms
termed ready vars long t terms made = record { ready = ready; vars = long; made = made }

-- kinds taken from as many columns as T has places
pub columns-same : {r : Relation} {s : Selector} → Ready r s → (e : Vars) (u : List Operand) {cs : M.Columns} →
    cs ≡ selected_columns e (operands_of s.template) u (columns_of s.template.count r.kinds) →
    cs ≡ selected_columns e (operands_of s.template) u (columns_of r.columns r.kinds)
columns-same {r} {s} ready e u h = h ∙ ap (λ (n : ℕ). selected_columns e (operands_of s.template) u (columns_of n r.kinds)) ready.long

module _ {r : Relation} {s : Selector} {e : Vars} {plan : Plan} (p : Planned r s e plan) where
  pub hit_same : (i : ℕ) → i < r.count → plan_hits plan (get_or r.rows i no_row) ≡ hits e (selector_of s) (values_of r.columns (get_or r.rows i no_row))
  hit_same i low =
      p.tests (get_or r.rows i no_row) (p.cells i (omega (arith, p.ready.count)))
      ∙ ap (λ (n : ℕ). hits e (selector_of s) (values_of n (get_or r.rows i no_row))) p.ready.long

module _ {r : Relation} {s : Selector} {e : Vars} {u : List Operand} {terms : Terms} (t : Termed r s e u terms) where
  template-long : length (operands_of s.template) ≡ r.columns
  template-long = length-firsts (λ (o : Operand). o) no_field s.template.count s.template.fields ∙ t.ready.long

  pub given-same : (row : Row) → given_by terms row ≡ draft_for e (operands_of s.template) u (values_of r.columns row)
  unfolding draft
  given-same row =
      ap (map (λ (x : Term). term_got x row.cells)) t.made
      ∙ map-map (λ (x : Term). term_got x row.cells) (term_of e (operands_of s.template)) u
      ∙ (λ j. map (λ (o : Operand). term_got_lem e (operands_of s.template) r.columns t.vars t.ready.columns template-long row o j) u)

  pub given-all : Complete e (operands_of s.template) u → (row : Row) → T (list_all is_got (given_by terms row))
  given-all complete row =
      subst (λ (d : List Got). T (list_all is_got d)) (sym (given-same row))
      (complete.given (values_of r.columns row) (length-firsts (λ (v : Value). v) no_cell r.columns row.cells ∙ sym template-long))

  pub tuple-same : (row : Row) → values_in (given_by terms row) ≡ tuple_for e (operands_of s.template) u (values_of r.columns row)
  unfolding tuple_for
  tuple-same row = ap values_in (given-same row)

-- ── a pass over the rows ──

module _ {r : Relation} {s : Selector} {e : Vars} {plan : Plan} (p : Planned r s e plan) {u : List Operand} {terms : Terms} (t : Termed r s e u terms)
    {pass : Pass} {ks : M.Columns} {o : Swept} (is : SweptIs plan pass terms ks r.count r.rows o) where
  abbrev row_at : ℕ → Row
  row_at i = get_or r.rows i no_row

  abbrev swept : Row → Bool
  swept = sweeps plan pass terms ks

  -- `q` judges a row's values as the pass judges the row
  module _ (q : M.Row → Bool) (same : (i : ℕ) → i < r.count → swept (row_at i) ≡ q (values_of r.columns (row_at i))) where
    flag_is : (i : ℕ) → i < r.count → get_or o.flags i false ≡ q (values_of r.columns (row_at i))
    flag_is i low = is.flags i ∙ ap (◌&& swept (row_at i)) (lt-ltb i r.count low) ∙ same i low

    pub marks_are : marks r.count o.flags ≡ map q (relation_of r).rows
    marks_are =
        firsts_same (λ (b : Bool). b) false (λ (row : Row). q (values_of r.columns row)) no_row r.count o.flags r.rows flag_is
        ∙ sym (map-firsts q (values_of r.columns) no_row r.count r.rows)

    pub number_is : count (λ (b : Bool). b) o.flags ≡ count q (relation_of r).rows
    number_is =
        count-marks r.count o.flags (λ k high. is.flags k ∙ ap (◌&& swept (row_at k)) (le-ltb k r.count high))
        ∙ ap (count (λ (b : Bool). b)) marks_are ∙ count_map q (relation_of r).rows

  -- where the rows stay
  pub hits-marked : pass ≡ Mark → (i : ℕ) → i < r.count → swept (row_at i) ≡ hits e (selector_of s) (values_of r.columns (row_at i))
  hits-marked stay i low = ap (λ (a : Pass). sweeps plan a terms ks (row_at i)) stay ∙ hit_same p i low

  -- a select: any new row will do
  module _ (loose : pass ≡ Select) where
    pub picks-marked : (i : ℕ) → i < r.count → swept (row_at i) ≡ hits e (selector_of s) (values_of r.columns (row_at i))
    picks-marked i low = ap (λ (a : Pass). sweeps plan a terms ks (row_at i)) loose ∙ hit_same p i low

    pub picked : Complete e (operands_of s.template) u →
        sift true (marks r.count o.flags) (firsts (values_of terms.count) no_row r.count o.rows) ≡
        map (tuple_for e (operands_of s.template) u) (filter (hits e (selector_of s)) (relation_of r).rows)
    picked complete =
        ap (λ (m : List Bool). sift true m (firsts (values_of terms.count) no_row r.count o.rows)) (marks_are (hits e (selector_of s)) picks-marked)
        ∙ sift-made (hits e (selector_of s)) (tuple_for e (operands_of s.template) u) [] [] (relation_of r).rows (firsts (values_of terms.count) no_row r.count o.rows)
        (length-firsts (values_of r.columns) no_row r.count r.rows ∙ sym (length-firsts (values_of terms.count) no_row r.count o.rows))
        (λ i low h. at i (subst (λ (m : ℕ). i < m) (length-firsts (values_of r.columns) no_row r.count r.rows) low) h)
      where
        at : (i : ℕ) → i < r.count → T (hits e (selector_of s) (get_or (relation_of r).rows i [])) →
            get_or (firsts (values_of terms.count) no_row r.count o.rows) i [] ≡ tuple_for e (operands_of s.template) u (get_or (relation_of r).rows i [])
        at i low h =
            let row = firsts_at (values_of r.columns) no_row r.count r.rows i [] low in
            firsts_at (values_of terms.count) no_row r.count o.rows i [] low
            ∙ is.made i (subst T (sym (flag_is (hits e (selector_of s)) picks-marked i low)) (subst (λ (x : M.Row). T (hits e (selector_of s) x)) row h))
            (subst (λ (a : Pass). T (replaces a)) (sym loose) tt) (given-all t complete (row_at i))
            ∙ tuple-same t (row_at i) ∙ ap (tuple_for e (operands_of s.template) u) (sym row)

  -- an update: the new row has to fit the relation's own columns
  module _ (strict : pass ≡ Update) (own : ks ≡ columns_of r.columns r.kinds) where
    abbrev changed : M.Row → Bool
    changed = changes e (selector_of s) u (columns_of r.columns r.kinds)

    pub changes-marked : (i : ℕ) → i < r.count → swept (row_at i) ≡ changed (values_of r.columns (row_at i))
    unfolding changes
    changes-marked i low =
        ap (λ (a : Pass). sweeps plan a terms ks (row_at i)) strict
        ∙ ap₂ ◌&&◌ (hit_same p i low) (ap₂ fits own (given-same t (row_at i)))

    fits-there : (i : ℕ) → i < r.count → changed (values_of r.columns (row_at i)) ≡ true → T (fits (columns_of r.columns r.kinds) (given_by terms (row_at i)))
    unfolding changes
    fits-there i low h =
        subst (λ (g : List Got). T (fits (columns_of r.columns r.kinds) g)) (sym (given-same t (row_at i)))
        (and_r (hits e (selector_of s) (values_of r.columns (row_at i))) _ (T_of _ h))

    pub replaced : firsts (values_of r.columns) no_row r.count o.rows ≡ updated e (selector_of s) u (columns_of r.columns r.kinds) (relation_of r).rows
    replaced =
        firsts_same (values_of r.columns) no_row (λ (row : Row). renewed e (selector_of s) u (columns_of r.columns r.kinds) (values_of r.columns row)) no_row r.count o.rows r.rows
        (λ i low. at i low (changed (values_of r.columns (row_at i))) refl)
        ∙ sym (map-firsts (renewed e (selector_of s) u (columns_of r.columns r.kinds)) (values_of r.columns) no_row r.count r.rows)
      where
        at : (i : ℕ) → i < r.count → (b : Bool) → changed (values_of r.columns (row_at i)) ≡ b →
            values_of r.columns (get_or o.rows i no_row) ≡ renewed e (selector_of s) u (columns_of r.columns r.kinds) (values_of r.columns (row_at i))
        at i low true h =
            let f = fits-there i low h in
            let long : terms.count ≡ r.columns =
            sym (length-map (terms_in terms) (λ (x : Term). term_got x (row_at i).cells) ∙ length-firsts (λ (t : Term). t) no_component terms.count terms.components)
            ∙ sym (fits-long (columns_of r.columns r.kinds) (given_by terms (row_at i)) f) ∙ length-firsts (λ (k : ℕ). k) 0 r.columns r.kinds in
            ap (λ (m : ℕ). values_of m (get_or o.rows i no_row)) (sym long)
            ∙ is.made i (subst T (sym (flag_is changed changes-marked i low ∙ h)) tt) (subst (λ (a : Pass). T (replaces a)) (sym strict) tt) (fits-got (columns_of r.columns r.kinds) (given_by terms (row_at i)) f)
            ∙ tuple-same t (row_at i)
            ∙ sym (ap (λ (b : Bool). cond b (tuple_for e (operands_of s.template) u (values_of r.columns (row_at i))) (values_of r.columns (row_at i))) h)
        at i low false h =
            ap (values_of r.columns) (is.rest i (flag_is changed changes-marked i low ∙ h))
            ∙ sym (ap (λ (b : Bool). cond b (tuple_for e (operands_of s.template) u (values_of r.columns (row_at i))) (values_of r.columns (row_at i))) h)

-- ── kinds ──

-- the kind of a variable's source, in columns of kinds `ks`
pub origin_kind_lem : (e : Vars) (t : List Operand) (n : ℕ) → length e ≡ 16 → n ≤ 4 → length t ≡ n → (ks : List ℕ) (i : ℕ) →
    origin_kind (origin_of e t i) ks ≡ get_or (bind t (columns_of n ks) (kinds_of e)) i 0
origin_kind_lem e t n long short count ks i =
    origin_read (λ s. origin_kind s ks) e t (columns_of n ks) (kinds_of e) 0 (subst (λ (m : ℕ). m ≤ 4) (sym count) short) (count ∙ sym is_n_lem)
    (λ j h. firsts_at (λ (k : ℕ). k) 0 n ks j 0 (subst (λ (m : ℕ). j < m) is_n_lem h)) (length-map e kind_in ∙ long) (λ j. sym (get_or-map kind_in e j None)) refl i
  where
    is_n_lem : length (columns_of n ks) ≡ n
    is_n_lem = length-firsts (λ (k : ℕ). k) 0 n ks
