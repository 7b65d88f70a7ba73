-- What a node reads is bound: formals of a template, and operands. Assumes nothing.
use Prim.Native.Nat.{ℕ, ◌≤◌}
use mathlib.Core.Path.{◌≡◌, refl, ap, sym, ◌∙◌}
use mathlib.Core.Bool.{Bool, true, false, not, ◌&&◌, ◌||◌}
use mathlib.Core.List.{List, [], ◌∷◌, map, map-id}
use Rattle.std.specs.Prelude.{Option, None, Some}
use lib.Dec.{eqb}
use lib.ListN.{length, take}
use Rattle.values.specs.declared.Operand.{Operand}
use Rattle.values.specs.Lists.{among, present}
use Rattle.std.specs.List.{list_all, list_any}
use Rattle.values.specs.Operands.{formal_of, formals, reads}
use Rattle.values.proofs.PlaceLaws.{all_same}
use Rattle.rows.specs.Plans.{is_formal_of}
use Rattle.rows.specs.View.{no_field, operands_of}
use Rattle.rows.specs.declared.Operands.{Operands}
use Rattle.values.proofs.Firsts.{firsts_taken}
use Rattle.nets.specs.Nets.{Node, reads_relation}
use Rattle.nets.specs.Steps.{known, reads_ok}
use Rattle.step_reads.specs.ReadContracts.{formal_in}

-- ── formals ──

-- a variable is among the formals where an operand is its formal
pub among_formals : (i : ℕ) (t : List Operand) → among i (formals t) ≡ list_any (λ o. is_formal_of i (formal_of o)) t
among_formals i [] = refl
among_formals i (o ∷ t) = go (formal_of o) (among_formals i t)
  where
    go : (f : Option ℕ) → among i (formals t) ≡ list_any (λ x. is_formal_of i (formal_of x)) t →
        among i (present (f ∷ map formal_of t)) ≡ (is_formal_of i f || list_any (λ x. is_formal_of i (formal_of x)) t)
    go None ih = ih
    go (Some j) ih = ap (eqb i j ||◌) ih

-- ── what a node reads ──

pub operands_taken : (t : Operands) → t.count ≤ length t.fields → operands_of t ≡ take t.count t.fields
operands_taken t h = firsts_taken (λ (o : Operand). o) no_field t.count t.fields h ∙ map-id (take t.count t.fields)

gather : (a b t c d u g : Bool) → ((((a && (b && true)) && t) && ((c && (d && true)) && u)) && g) ≡ ((a && (b && t)) && (c && (d && u)) && g)
gather true true true true true u g = refl
gather true true true true false u g = refl
gather true true true false d u g = refl
gather true true false c d u g = refl
gather true false t c d u g = refl
gather false b t c d u g = refl

-- what is known by one set of variables is known by the same set
known-same : (v w : ℕ → Bool) → ((i : ℕ) → v i ≡ w i) → (os : List Operand) → known v os ≡ known w os
known-same v w h os = all_same (λ o. list_all v (reads o)) (λ o. list_all w (reads o)) os (λ o. all_same v w (reads o) h)

-- by L and T', by T, by the predicate, by t, and by the table variable
pub reads_are : (v r : ℕ → Bool) (n : Node) {t u : List Operand} {a b c d x y : Bool} → n.selector.template ≡ t → n.tuple ≡ u
    → a ≡ known v (n.locality ∷ n.result ∷ []) → b ≡ known v t
    → c ≡ known (λ i. v i || formal_in i t) (n.selector.left ∷ n.selector.right ∷ []) → d ≡ known (λ i. v i || formal_in i t) u
    → x ≡ reads_relation n.kind → y ≡ r n.read → (((a && b) && (c && d)) && (not x || y)) ≡ reads_ok v r n
unfolding reads_ok
reads_are v r n {t} {u} {a} {b} {c} {d} e f pa pb pc pd px py =
    let w : ℕ → Bool = λ i. v i || among i (formals n.selector.template) in
    let same : (os : List Operand) → known (λ i. v i || formal_in i t) os ≡ known w os =
    λ os. known-same (λ i. v i || formal_in i t) w (λ i. ap (v i ||◌) (ap (formal_in i) (sym e) ∙ sym (among_formals i n.selector.template))) os in
    rw (pa, pb ∙ ap (known v) (sym e), pc ∙ same (n.selector.left ∷ n.selector.right ∷ []), pd ∙ same u ∙ ap (known w) (sym f), px, py)
    (gather (list_all v (reads n.locality)) (list_all v (reads n.result)) (known v n.selector.template) (list_all w (reads n.selector.left)) (list_all w (reads n.selector.right)) (known w n.tuple)
    (not (reads_relation n.kind) || r n.read))
