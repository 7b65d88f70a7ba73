-- What operands give passes every test that no value and each Int within 32 bits pass, as the variables and constants do. Assumes nothing.
use mathlib.Core.Bool.{Bool, true, false, cond}
use mathlib.Core.List.{List, [], ◌∷◌}
use lib.Dec.{T}
use lib.IntN.{ℤ, ◌+ℤ◌}
use lib.ListN.{get_or}
use Rattle.values.specs.declared.Value.TheVariants.{Int, Text, Loc}
use Rattle.values.specs.Operands.{Got}
use Rattle.std.specs.Prelude.{None, Some}
use Rattle.values.specs.declared.Operand.{Operand}
use Rattle.values.specs.declared.Operand.TheVariants.{Absent, ConstInt, ConstText, ConstLoc, Var, Plus, Formal}
use Rattle.std.specs.List.{list_all}
use Rattle.values.specs.Values.{in32}
use Rattle.values.specs.Operands.{Vars, values_in, fitting, add, eval}
use Rattle.values.proofs.Bools.{and_l, and_r, and_in}
use Rattle.values.proofs.ListLaws.{all_get_d}

-- a test of what is there that no value passes, and each Int within 32 bits
pub record Ranged (p : Got → Bool) : Type 0 where
  pub nothing : T (p None)
  pub ints : (z : ℤ) → T (in32 z) → T (p (Some (Int z)))

module _ (p : Got → Bool) (ranged : Ranged p) where
  -- an Int that is there only within 32 bits
  pub fitting-ok : (z : ℤ) → T (p (fitting (in32 z) z))
  fitting-ok z = go (in32 z) (λ h. h)
    where
      go : (b : Bool) → (T b → T (in32 z)) → T (p (fitting b z))
      go true h = ranged.ints z (h tt)
      go false h = ranged.nothing

  add_ok : (k : ℤ) (g : Got) → T (p (add k g))
  add_ok k None = ranged.nothing
  add_ok k (Some (Int i)) = fitting-ok (i +ℤ k)
  add_ok k (Some (Text t)) = ranged.nothing
  add_ok k (Some (Loc l)) = ranged.nothing

  -- with no variables an operand gives its constant, or nothing
  pub eval-ok : (e : Vars) (o : Operand) → T (list_all p e) → T (p (eval [] o)) → T (p (eval e o))
  eval-ok e Absent h k = k
  eval-ok e (ConstInt i) h k = k
  eval-ok e (ConstText t) h k = k
  eval-ok e (ConstLoc l) h k = k
  eval-ok e (Var i) h k = all_get_d p e i None h ranged.nothing
  eval-ok e (Plus i z) h k = add_ok z (get_or e i None)
  eval-ok e (Formal i) h k = k

-- the values that are there
pub values-ok : (p : Got → Bool) (l : List Got) → T (list_all p l) → T (list_all (λ v. p (Some v)) (values_in l))
values-ok p [] h = tt
values-ok p (None ∷ l) h = values-ok p l (and_r (p None) (list_all p l) h)
values-ok p (Some v ∷ l) h =
    and_in (p (Some v)) (list_all (λ w. p (Some w)) (values_in l)) (and_l (p (Some v)) (list_all p l) h) (values-ok p l (and_r (p (Some v)) (list_all p l) h))

-- one of two
pub cond-ok : {A : Type 0} (p : A → Bool) (b : Bool) (x y : A) → T (p x) → T (p y) → T (p (cond b x y))
cond-ok p true x y h k = h
cond-ok p false x y h k = k
