-- What a node's kind says of its fields, and the clauses of check 4 put together. Assumes nothing.
use mathlib.Core.Path.{◌≡◌, refl, sym}
use mathlib.Core.Bool.{Bool, false, not, cond, ◌&&◌, ◌||◌}
use lib.Dec.{eqb, ltb}
use Rattle.values.specs.Values.{is_text}
use Rattle.rows.specs.declared.Test.TheVariants.{Always}
use Rattle.nets.specs.Nets.{Kind, code, has_locality, is_create, has_template, has_test, has_tuple, is_select, reads_relation, binds_relation, is_aggregate, is_loop, Node}
use Rattle.nets.specs.Sound.{columns_ok, tagged, is_absent, locality_operand_ok, operands_ok, is_empty, template_ok, test_ok, is_always, function_ok, fields_ok_as}
use Rattle.nets.proofs.KindClasses.{in_class, of_class}

-- ── kinds ──

-- no loop, no predicate: a kind with a place has no T
pub no-template : (k : Kind) → has_test k ≡ false → is_loop k ≡ false → has_template k ≡ false
no-template k h l = in_class (λ j. not (has_test j) && not (is_loop j)) k (rw (h, l) tt) has_template false tt

-- a byte that is no kind
pub no_kind : (k : Kind) (d : Node) → has_test k ≡ false → is_loop k ≡ false → has_locality k ≡ false → false ≡ fields_ok_as k d
unfolding fields_ok_as
no_kind k d h l p = of_class (λ j. false ≡ fields_ok_as j d) (λ j. not (has_test j) && not (is_loop j) && not (has_locality j)) (refl, tt) k (rw (h, l, p) tt)

-- ── clauses ──

-- the field's test, with what decides and what is decided written as the rules have them
pub either_is : {r u x y u' x' y' : Bool} → r ≡ cond u x y → u ≡ u' → x ≡ x' → y ≡ y' → r ≡ cond u' x' y'
either_is e p q s = rw (sym p, sym q, sym s) e

pub fields_are : (k : Kind) (d : Node) {a b c e f g h i j l m n : Bool}
    → a ≡ not (eqb (code k) 0)
    → b ≡ (is_loop k || eqb d.body 0)
    → c ≡ cond (has_locality k) (is_text d.name) (eqb d.name 0)
    → e ≡ cond (binds_relation k) (ltb d.bound 2) (eqb d.bound 0)
    → f ≡ cond (reads_relation k) (ltb d.read 2) (eqb d.read 0)
    → g ≡ function_ok (is_aggregate k) d.function d.column
    → h ≡ cond (is_create k) (columns_ok d.columns) (is_empty d.columns)
    → i ≡ cond (has_locality k) (locality_operand_ok d.locality) (is_absent d.locality)
    → j ≡ cond (has_template k) (template_ok d.selector.template) (is_empty d.selector.template)
    → l ≡ cond (has_test k) (test_ok d.selector.test d.selector.left d.selector.right) (is_always d.selector.test && test_ok Always d.selector.left d.selector.right)
    → m ≡ cond (has_tuple k) (operands_ok 5 d.tuple) (cond (is_select k) (operands_ok 4 d.tuple) (is_empty d.tuple))
    → n ≡ cond (is_aggregate k) (tagged 6 d.result) (is_absent d.result)
    → (a && b && c && e && f && g && h && i && j && l && m && n) ≡ fields_ok_as k d
unfolding fields_ok_as
fields_are k d p q r s t u v w x y z o = rw (p, q, r, s, t, u, v, w, x, y, z, o)
