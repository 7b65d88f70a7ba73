-- What holds of every kind of node, and of every kind in a class, from a list that antt computes. Assumes nothing.
use mathlib.Core.Path.{◌≡◌, refl}
use mathlib.Core.Bool.{Bool, true, false, not, ◌||◌, beq}
use mathlib.Core.List.{List, [], ◌∷◌}
use lib.Dec.{T}
use Rattle.values.specs.Lists.{keep, filter}
use Rattle.std.specs.List.{list_all}
use Rattle.values.proofs.Bools.{and_l, and_r}
use Rattle.nets.specs.Nets.{Kind, acting, other, insert, insert_table, delete, update, create, drop, select, select_relation, aggregate, sequential, parallel, bad_kind}
use Rattle.nets.specs.View.{every_kind}

-- `P` of each kind in a list
abbrev pub Each : (Kind → Type 0) → List Kind → Type 0
Each P [] = Unit
Each P (k ∷ ks) = P k × Each P ks

-- for one kind after another, with `tt` at the end
infixr 20 ◌▸◌
abbrev pub ◌▸◌ : {A B : Type 0} → A → B → A × B
a ▸ b = (a, b)

-- the list has every kind
pub every : (P : Kind → Type 0) → Each P every_kind → (k : Kind) → P k
every P h (other bad_kind) = h.0
every P h (acting insert) = h.1.0
every P h (acting insert_table) = h.1.1.0
every P h (acting delete) = h.1.1.1.0
every P h (other select) = h.1.1.1.1.0
every P h (other select_relation) = h.1.1.1.1.1.0
every P h (acting update) = h.1.1.1.1.1.1.0
every P h (other aggregate) = h.1.1.1.1.1.1.1.0
every P h (acting create) = h.1.1.1.1.1.1.1.1.0
every P h (acting drop) = h.1.1.1.1.1.1.1.1.1.0
every P h (other sequential) = h.1.1.1.1.1.1.1.1.1.1.0
every P h (other parallel) = h.1.1.1.1.1.1.1.1.1.1.1.0

-- a test that every kind passes
pub every-passes : (p : Kind → Bool) → T (list_all p every_kind) → (k : Kind) → T (p k)
every-passes p h = every (λ k. T (p k)) (each every_kind h)
  where
    each : (ks : List Kind) → T (list_all p ks) → Each (λ k. T (p k)) ks
    each [] h = tt
    each (k ∷ ks) h = (and_l (p k) (list_all p ks) h, each ks (and_r (p k) (list_all p ks) h))

-- a class of kinds is part of another
pub class_in : (p q : Kind → Bool) → T (list_all (λ k. not (p k) || q k) every_kind) → (k : Kind) → T (p k) → T (q k)
class_in p q h k = go (p k) (q k) (every-passes (λ j. not (p j) || q j) h k)
  where
    go : (a b : Bool) → T (not a || b) → T a → T b
    go true b h t = h
    go false b h t = absurd t

-- two Bools that are alike
pub alike : (a b : Bool) → T (beq a b) → a ≡ b
alike true true h = refl
alike true false h = absurd h
alike false true h = absurd h
alike false false h = refl

-- two classes are the same
pub class_same : (p q : Kind → Bool) → T (list_all (λ k. beq (p k) (q k)) every_kind) → (k : Kind) → p k ≡ q k
class_same p q h k = alike (p k) (q k) (every-passes (λ j. beq (p j) (q j)) h k)

-- a test that answers the same for each kind of a class
pub in_class : (p : Kind → Bool) (k : Kind) → T (p k) → (q : Kind → Bool) (r : Bool) → T (list_all (λ j. not (p j) || beq (q j) r) every_kind) → q k ≡ r
in_class p k h q r t = alike (q k) r (class_in p (λ j. beq (q j) r) t k h)

-- `P` of a kind in a class, from `P` of those that are in it
pub of_class : (P : Kind → Type 0) (p : Kind → Bool) → Each P (filter p every_kind) → (k : Kind) → T (p k) → P k
of_class P p h = every (λ k. T (p k) → P k) (spread every_kind h)
  where
    spread : (ks : List Kind) → Each P (filter p ks) → Each (λ k. T (p k) → P k) ks
    spread [] h = tt
    spread (k ∷ ks) h = go (p k) (spread ks) h
      where
        go : (b : Bool) → (Each P (filter p ks) → Each (λ j. T (p j) → P j) ks) → Each P (keep b k (filter p ks)) → (T b → P k) × Each (λ j. T (p j) → P j) ks
        go true ih (x, h) = ((λ t. x), ih h)
        go false ih h = ((λ t. absurd t), ih h)
