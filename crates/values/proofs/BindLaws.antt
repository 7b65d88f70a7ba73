-- Binding a template's formals, whatever is bound: what passes a test goes on passing it, and so does what a formal is bound to. Assumes nothing.
use Prim.Native.Nat.{ℕ, zero, suc, ◌<◌}
use mathlib.Core.Path.{◌≡◌, refl, ap, ◌∙◌}
use mathlib.Core.Bool.{Bool, true, false, ◌||◌}
use mathlib.Core.List.{List, [], ◌∷◌, map}
use Rattle.std.specs.Prelude.{Option, None, Some}
use native.Mathlib.Omega.{arith}
use lib.Dec.{T, eqb, eqb→eq}
use lib.ListN.{get_or, set, length, length-set}
use lib.Seq.{get_or-set_same}
use Rattle.values.specs.declared.Operand.{Operand}
use Rattle.values.specs.Lists.{among, present}
use Rattle.std.specs.List.{list_all}
use Rattle.values.specs.Operands.{formal_of, formals, bind_to, bind}
use Rattle.values.proofs.Arrays.{map-set}
use Rattle.values.proofs.Bools.{and_l, and_r, and_in, T_of}

module _ {A : Type 0} where
  pub length_to : (f : Option ℕ) (a : A) (e : List A) → length (bind_to f a e) ≡ length e
  length_to None a e = refl
  length_to (Some j) a e = length-set e j a

  pub length-bind : (t : List Operand) (r e : List A) → length (bind t r e) ≡ length e
  unfolding bind
  length-bind [] r e = refl
  length-bind (o ∷ t) [] e = refl
  length-bind (o ∷ t) (a ∷ r) e = length-bind t r (bind_to (formal_of o) a e) ∙ length_to (formal_of o) a e

-- every element passes
module _ {A : Type 0} (p : A → Bool) where
  pub all_set : (l : List A) (i : ℕ) (a : A) → T (list_all p l) → T (p a) → T (list_all p (set l i a))
  all_set [] i a h k = tt
  all_set (b ∷ l) zero a h k = and_in (p a) (list_all p l) k (and_r (p b) (list_all p l) h)
  all_set (b ∷ l) (suc i) a h k = and_in (p b) (list_all p (set l i a)) (and_l (p b) (list_all p l) h) (all_set l i a (and_r (p b) (list_all p l) h) k)

  all_to : (f : Option ℕ) (a : A) (e : List A) → T (list_all p e) → T (p a) → T (list_all p (bind_to f a e))
  all_to None a e h k = h
  all_to (Some j) a e h k = all_set e j a h k

  pub all-bind : (t : List Operand) (r e : List A) → T (list_all p e) → T (list_all p r) → T (list_all p (bind t r e))
  unfolding bind
  all-bind [] r e h k = h
  all-bind (o ∷ t) [] e h k = h
  all-bind (o ∷ t) (a ∷ r) e h k =
      all-bind t r (bind_to (formal_of o) a e) (all_to (formal_of o) a e h (and_l (p a) (list_all p r) k)) (and_r (p a) (list_all p r) k)

-- the element at one place, `d` where there is none, passes
abbrev Passes : {A : Type 0} → (A → Bool) → A → ℕ → List A → Type 0
Passes p d i e = T (p (get_or e i d))

module _ {A : Type 0} (p : A → Bool) (d : A) where
  set-stays : (e : List A) (i j : ℕ) (a : A) → T (p a) → Passes p d i e → Passes p d i (set e j a)
  set-stays [] i j a k h = h
  set-stays (b ∷ e) zero zero a k h = k
  set-stays (b ∷ e) (suc i) zero a k h = h
  set-stays (b ∷ e) zero (suc j) a k h = h
  set-stays (b ∷ e) (suc i) (suc j) a k h = set-stays e i j a k h

module _ {A : Type 0} (p : A → Bool) (d : A) (i : ℕ) where
  to_stays : (f : Option ℕ) (a : A) (e : List A) → T (p a) → Passes p d i e → Passes p d i (bind_to f a e)
  to_stays None a e k h = h
  to_stays (Some j) a e k h = set-stays p d e i j a k h

  bind-stays : (t : List Operand) (r e : List A) → T (list_all p r) → Passes p d i e → Passes p d i (bind t r e)
  unfolding bind
  bind-stays [] r e k h = h
  bind-stays (o ∷ t) [] e k h = h
  bind-stays (o ∷ t) (a ∷ r) e k h =
      bind-stays t r (bind_to (formal_of o) a e) (and_r (p a) (list_all p r) k) (to_stays (formal_of o) a e (and_l (p a) (list_all p r) k) h)

  -- a formal's variable, once things that pass are bound
  formal_passes : (t : List Operand) (r e : List A) → i < length e → length t ≡ length r → T (list_all p r) → T (among i (formals t)) → Passes p d i (bind t r e)
  unfolding bind
  formal_passes [] r e l q k h = absurd h
  formal_passes (o ∷ t) [] e l q k h = absurd (omega arith)
  formal_passes (o ∷ t) (a ∷ r) e l q k h =
      go (formal_of o) h (formal_passes t r (bind_to (formal_of o) a e) (rw (length_to (formal_of o) a e) l) (omega arith) rest)
    where
      rest : T (list_all p r)
      rest = and_r (p a) (list_all p r) k

      found : (j : ℕ) (b : Bool) → eqb i j ≡ b → T (b || among i (formals t)) → (T (among i (formals t)) → Passes p d i (bind t r (set e j a))) → Passes p d i (bind t r (set e j a))
      found j true x h ih =
          bind-stays t r (set e j a) rest
          (rw (← eqb→eq i j (T_of (eqb i j) x), get_or-set_same e i a d l) (and_l (p a) (list_all p r) k))
      found j false x h ih = ih h

      go : (f : Option ℕ) → T (among i (present (f ∷ map formal_of t))) → (T (among i (formals t)) → Passes p d i (bind t r (bind_to f a e))) → Passes p d i (bind t r (bind_to f a e))
      go None h ih = ih h
      go (Some j) h ih = found j (eqb i j) refl h ih

  -- a variable that passed, or is a formal's
  pub known-passes : (t : List Operand) (r e : List A) → i < length e → length t ≡ length r → T (list_all p r) → T (p (get_or e i d) || among i (formals t)) → Passes p d i (bind t r e)
  known-passes t r e l q k h = go (p (get_or e i d)) refl h
    where
      go : (b : Bool) → p (get_or e i d) ≡ b → T (b || among i (formals t)) → Passes p d i (bind t r e)
      go true x h = bind-stays t r e k (T_of (p (get_or e i d)) x)
      go false x h = formal_passes t r e l q k h

-- what is bound, and what it is bound to, mapped
module _ {A B : Type 0} (f : A → B) where
  map_to : (o : Option ℕ) (a : A) (e : List A) → map f (bind_to o a e) ≡ bind_to o (f a) (map f e)
  map_to None a e = refl
  map_to (Some i) a e = map-set f e i a

  pub map-bind : (t : List Operand) (r e : List A) → map f (bind t r e) ≡ bind t (map f r) (map f e)
  unfolding bind
  map-bind [] r e = refl
  map-bind (o ∷ t) [] e = refl
  map-bind (o ∷ t) (a ∷ r) e = map-bind t r (bind_to (formal_of o) a e) ∙ ap (bind t (map f r)) (map_to (formal_of o) a e)
