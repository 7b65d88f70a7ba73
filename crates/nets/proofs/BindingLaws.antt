-- What a step binds is sound: what a select stores, the rows of a delete, the result of an aggregate. Assumes nothing.
use Prim.Native.Nat.{ℕ}
use mathlib.Core.Path.{◌≡◌}
use mathlib.Core.Bool.{Bool, true, ◌&&◌, ◌||◌}
use mathlib.Core.List.{List, [], ◌∷◌, map}
use Rattle.std.specs.Prelude.{Some}
use native.Mathlib.Omega.{arith}
use lib.Dec.{T, eqb, leb, ltb→lt, le→leb, eqb→eq}
use lib.ListN.{set, length, length-set, length-map}
use Rattle.values.specs.declared.Operand.{Operand}
use Rattle.values.specs.declared.Operand.TheVariants.{Absent, ConstInt, ConstText, ConstLoc, Var, Plus, Formal}
use Rattle.values.specs.Lists.{among}
use Rattle.std.specs.List.{list_all}
use Rattle.values.specs.Values.{in_range}
use Rattle.values.specs.Operands.{Vars, eval, reads, formals, bind}
use Rattle.values.proofs.Bools.{and_l, and_r, and_in}
use Rattle.values.proofs.ListLaws.{all_filter, all_weaken, all-and}
use Rattle.values.proofs.BindLaws.{all_set, all-bind, length-bind}
use Rattle.values.proofs.RangeLaws.{Ranged}
use Rattle.rows.specs.Relations.{Columns, Relation}
use Rattle.rows.specs.Matching.{hits}
use Rattle.rows.specs.Fit.{fits_row}
use Rattle.row_change.specs.Changes.{column_for, kinds_of, tuple_for, selected_columns}
use Rattle.row_change.proofs.SelectLaws.{is_kind, has_kind, variable-kind, selected-kinds, selection-fits}
use Rattle.row_change.proofs.RangeLaws.{selected-ok}
use Rattle.row_change.proofs.AggregateLaws.{aggregated-ok}
use Rattle.nets.specs.Nets.{Kind, acting, other, delete, Other, Bindings}
use Rattle.nets.specs.Sound.{variable_ok, columns_ok, relation_ok, bindings_ok, tagged, operands_ok}
use Rattle.nets.specs.Scenes.{Scene, vars, template, source, parts, hit_rows, result}
use Rattle.nets.specs.Steps.{is_bound, bound_by, with_vars}
use Rattle.nets.proofs.SureLaws.{Sure}

-- ── operands ──

pub ranged : Ranged variable_ok
ranged = record { nothing = tt; ints = λ z h. h }

-- an operand's constant is in range
constant_ok : (hi : ℕ) (o : Operand) → T (tagged hi o) → T (variable_ok (eval [] o))
constant_ok hi Absent h = tt
constant_ok hi (ConstInt i) h = h
constant_ok hi (ConstText t) h = h
constant_ok hi (ConstLoc l) h = h
constant_ok hi (Var i) h = tt
constant_ok hi (Plus i k) h = tt
constant_ok hi (Formal i) h = tt

pub constants-ok : (hi : ℕ) (u : List Operand) → T (operands_ok hi u) → T (list_all (λ o. variable_ok (eval [] o)) u)
constants-ok hi u h = all_weaken (tagged hi) (λ o. variable_ok (eval [] o)) u (constant_ok hi) (search (and_l, and_r))

-- an operand of a select's t has a kind, once what it reads is bound or a formal
module _ (e : Vars) (t : List Operand) (cs : Columns) (sixteen : length e ≡ 16) (long : length t ≡ length cs) (kinds : T (list_all is_kind cs)) where
  abbrev readable : Operand → Bool
  readable o = list_all (λ i. is_bound e i || among i (formals t)) (reads o)

  has_kind_lem : (o : Operand) → T (tagged 4 o) → T (readable o) → T (has_kind (bind t cs (kinds_of e)) o)
  has_kind_lem Absent h k = absurd h
  has_kind_lem (ConstInt i) h k = tt
  has_kind_lem (ConstText i) h k = tt
  has_kind_lem (ConstLoc l) h k = tt
  has_kind_lem (Var i) h k =
      variable-kind e t cs i (omega (arith, ltb→lt i 16 h)) long kinds (and_l (is_bound e i || among i (formals t)) true k)
  has_kind_lem (Plus i z) h k = absurd h
  has_kind_lem (Formal i) h k = absurd h

  has_kinds : (u : List Operand) → T (list_all (tagged 4) u) → T (list_all readable u) → T (list_all (has_kind (bind t cs (kinds_of e))) u)
  has_kinds u h k =
      all_weaken (λ o. tagged 4 o && readable o) (has_kind (bind t cs (kinds_of e))) u
      (λ o g. has_kind_lem o (and_l (tagged 4 o) (readable o) g) (and_r (tagged 4 o) (readable o) g))
      (all-and (tagged 4) readable u h k)

-- ── what is bound ──

-- the node's table variable bound anew
abbrev pub bind_relation : Scene → Relation → Bindings
bind_relation c r = record { vars = vars c; relations = set c.thread.bindings.relations c.node.bound (Some r) }

pub bind-relation : (c : Scene) (r : Relation) → T (bindings_ok c.thread.bindings) → T (relation_ok (Some r)) → T (bindings_ok (bind_relation c r))
bind-relation c r h k =
    let rs : T (list_all relation_ok c.thread.bindings.relations) = search (and_l, and_r) in
    let q = all_set relation_ok c.thread.bindings.relations c.node.bound (Some r) rs k in
    rw length-set (search (and_l, and_r, and_in))

module _ {k : Kind} {c : Scene} (s : Sure k c) where
  pub vars-ok : T (list_all variable_ok (vars c))
  vars-ok = search (and_l, and_r, s.bindings)

  -- variables bound anew
  pub bind-vars : (t : List Operand) (r : Vars) → T (list_all variable_ok r) → T (bindings_ok (with_vars c.thread.bindings (bind t r (vars c))))
  bind-vars t r h =
      let q = all-bind variable_ok t r (vars c) vars-ok h in
      rw length-bind (search (and_l, and_r, and_in, s.bindings))

  hits_few_lem : T (leb (length (hit_rows (parts c))) 16)
  hits_few_lem = le→leb (length (hit_rows (parts c))) 16 s.hits_few

  hits_range : T (list_all (λ x. list_all in_range x) (hit_rows (parts c)))
  hits_range = all_filter (λ x. list_all in_range x) (hits (vars c) c.node.selector) (source c).rows s.source_range

  pub deleted_ok : T (columns_ok (source c).columns) → T (relation_ok (Some (bound_by (acting delete) (parts c))))
  unfolding bound_by
  deleted_ok cols =
      let fitting = all_filter (fits_row (source c).columns) (hits (vars c) c.node.selector) (source c).rows s.source_fit in
      search (and_in, hits_few_lem, hits_range)

  -- with a t of tags 1..4 and a T as long as the columns
  pub stored_ok : (o : Other) → T (operands_ok 4 c.node.tuple) → T (eqb (length (template c)) (length (source c).columns)) → T (columns_ok (source c).columns) → T (relation_ok (Some (bound_by (other o) (parts c))))
  unfolding bound_by selected_columns
  stored_ok o tags long cols =
      let kinds =
      has_kinds (vars c) (template c) (source c).columns
      (eqb→eq (length (vars c)) 16 (search (and_l, s.bindings)))
      (eqb→eq (length (template c)) (length (source c).columns) long)
      (search (and_l, and_r))
      c.node.tuple (search (and_l, and_r)) (search (and_l, and_r, s.known_tuple)) in
      let columns = selected-kinds (vars c) c.node.selector c.node.tuple (source c) kinds in
      let fitting = selection-fits (vars c) c.node.selector c.node.tuple (source c) kinds s.source_fit in
      let range = selected-ok variable_ok ranged (vars c) vars-ok c.node.selector c.node.tuple (constants-ok 4 c.node.tuple tags) (source c).rows s.source_range in
      let few : T (leb (length (map (tuple_for (vars c) (template c) c.node.tuple) (hit_rows (parts c)))) 16) = rw length-map hits_few_lem in
      rw (length-map c.node.tuple (column_for (bind (template c) (source c).columns (kinds_of (vars c))))) (search (and_l, and_r, and_in))

  -- an aggregate's result
  pub result_ok : T (bindings_ok (with_vars c.thread.bindings (bind (c.node.result ∷ []) (result (parts c) ∷ []) (vars c))))
  result_ok =
      bind-vars (c.node.result ∷ []) (result (parts c) ∷ [])
      (and_in (variable_ok (result (parts c))) true (aggregated-ok variable_ok ranged c.node.function c.node.column (hit_rows (parts c)) s.hits_few hits_range) tt)
