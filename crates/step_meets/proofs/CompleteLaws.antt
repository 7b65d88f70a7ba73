-- A select's t gives a value for each component, whatever the row, once check 12 passed. Assumes nothing.
use Prim.Native.Nat.{ℕ}
use mathlib.Core.Path.{◌≡◌, sym, ◌∙◌}
use mathlib.Core.Bool.{Bool, true, ◌&&◌, ◌||◌}
use mathlib.Core.List.{List, [], ◌∷◌, map}
use native.Mathlib.Omega.{arith}
use lib.Dec.{T, ltb→lt, eqb→eq}
use lib.ListN.{length, length-map}
use Rattle.std.specs.Prelude.{None, Some}
use Rattle.values.specs.declared.Operand.{Operand}
use Rattle.values.specs.declared.Operand.TheVariants.{Absent, ConstInt, ConstText, ConstLoc, Var, Plus, Formal}
use Rattle.values.specs.Lists.{among}
use Rattle.std.specs.List.{list_all}
use Rattle.values.specs.Operands.{Vars, is_got, eval, reads, formals}
use Rattle.values.proofs.Bools.{and_l, and_r}
use Rattle.values.proofs.ListLaws.{all-map_of, all-and}
use Rattle.values.proofs.BindLaws.{known-passes}
use Rattle.rows.specs.Relations.{Row}
use Rattle.rows.specs.Matching.{row_vars}
use Rattle.rows.specs.Fit.{draft}
use Rattle.row_change.specs.Changes.{draft_for}
use Rattle.row_change.specs.ChangeContracts.{Complete}
use Rattle.nets.proofs.KindClasses.{◌▸◌, of_class}
use Rattle.nets.specs.Nets.{Kind, is_select, Node, Bindings}
use Rattle.nets.specs.Sound.{tagged, operands_ok, bindings_ok, fields_ok_as, node_ok_as}
use Rattle.nets.specs.Steps.{is_bound, is_bound_table, known, reads_ok}

-- a row's values are there
ones : (r : Row) → T (list_all is_got (map Some r))
ones [] = tt
ones (v ∷ r) = ones r

module _ (e : Vars) (t : List Operand) (sixteen : length e ≡ 16) where
  -- an operand that reads bound variables and formals
  abbrev readable : Operand → Bool
  readable o = list_all (λ i. is_bound e i || among i (formals t)) (reads o)

  module _ (r : Row) (long : length r ≡ length t) where
    gives : (o : Operand) → T (tagged 4 o) → T (readable o) → T (is_got (eval (row_vars e t r) o))
    gives Absent h k = absurd h
    gives (ConstInt i) h k = tt
    gives (ConstText i) h k = tt
    gives (ConstLoc l) h k = tt
    gives (Var i) h k =
        known-passes is_got None i t (map Some r) e (omega (arith, ltb→lt i 16 h)) (sym (length-map r Some ∙ long)) (ones r)
        (and_l (is_bound e i || among i (formals t)) true k)
    gives (Plus i z) h k = absurd h
    gives (Formal i) h k = absurd h

    draft-whole : (u : List Operand) → T (list_all (tagged 4) u) → T (list_all readable u) → T (list_all is_got (draft_for e t u r))
    unfolding draft
    draft-whole u h k =
        all-map_of (λ o. tagged 4 o && readable o) is_got (eval (row_vars e t r)) u
        (λ o g. gives o (and_l (tagged 4 o) (readable o) g) (and_r (tagged 4 o) (readable o) g))
        (all-and (tagged 4) readable u h k)

  complete : (u : List Operand) → T (operands_ok 4 u) → T (known (λ i. is_bound e i || among i (formals t)) u) → Complete e t u
  complete u h k = record { given = λ r long. draft-whole r long u (search (and_r)) k }

-- ── a select node ──

select-tags : (k : Kind) (n i : ℕ) (d : Node) → T (node_ok_as k n i d) → T (is_select k) → T (operands_ok 4 d.tuple)
unfolding fields_ok_as
select-tags k n i d h s =
    of_class (λ j. T (node_ok_as j n i d) → T (operands_ok 4 d.tuple)) is_select ((λ g. search (and_l, and_r) depth 14) ▸ (λ g. search (and_l, and_r) depth 14) ▸ tt) k s h

-- with bindings `b`, where what the node reads is bound
pub select-complete :
    (b : Bindings) (d : Node) (n i : ℕ) → T (node_ok_as d.kind n i d) → T (bindings_ok b) → T (reads_ok (is_bound b.vars) (is_bound_table b.relations) d) → T (is_select d.kind) →
    Complete b.vars d.selector.template d.tuple
unfolding reads_ok
select-complete b d n i h k q s =
    complete b.vars d.selector.template (eqb→eq (length b.vars) 16 (search and_l)) d.tuple (select-tags d.kind n i d h s) (search (and_l, and_r))
