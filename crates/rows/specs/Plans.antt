-- Selectors and tuples prepared for one relation. Only the code speaks of plans: the rules are `hits` and `draft_for`, and laws tie the two.
use Rattle.std.specs.Prelude.{ℕ, suc, ◌<◌, ◌≤◌, ◌≡◌, Bool, true, false, cond, ◌&&◌, List, [], ◌∷◌, eqb, ltb, length, get_or, Option, None, Some}
use Rattle.values.specs.declared.Value.{Value}
use Rattle.values.specs.declared.Value.TheVariants.{Int, Text, Loc}
use Rattle.values.specs.Operands.{Got}
use Rattle.values.specs.declared.Operand.{Operand}
use Rattle.values.specs.declared.Operand.TheVariants.{Absent, ConstInt, ConstText, ConstLoc, Var, Plus, Formal}
use Rattle.values.specs.Lists.{agree, firsts}
use Rattle.values.specs.Operands.{Vars, eval, compared, add, formal_of, kind_in}
use Rattle.rows.specs.declared.Row.{Row}
use Rattle.rows.specs.declared.Origin.{Origin}
use Rattle.rows.specs.declared.Origin.TheVariants.{Fixed, Column}
use Rattle.rows.specs.declared.Term.{Term}
use Rattle.rows.specs.declared.Term.TheVariants.{Plain, Shifted}
use Rattle.rows.specs.declared.Terms.{Terms}
use Rattle.rows.specs.declared.Want.{Want}
use Rattle.rows.specs.declared.Want.TheVariants.{Anything, Like}
use Rattle.rows.specs.declared.Plan.{Plan}
use Rattle.rows.specs.Matching.{is_same, agrees, matches}
use Rattle.rows.specs.View.{no_cell, no_field, values_of}

-- ── where a variable's value comes from ──

abbrev pub is_formal_of : ℕ → Option ℕ → Bool
is_formal_of i None = false
is_formal_of i (Some j) = eqb i j

-- the last place, counted from `n`, of a formal of variable `i`; `at` where there is none
abbrev pub formal_place : ℕ → ℕ → ℕ → List Operand → ℕ
formal_place i at n [] = at
formal_place i at n (o ∷ t) = formal_place i (cond (is_formal_of i (formal_of o)) n at) (suc n) t

-- the variable is a formal of T, which has at most four places; or it is the thread's own. There are 16 variables
unfoldable pub origin_of : Vars → List Operand → ℕ → Origin
origin_of e t i = cond (ltb i 16) (cond (ltb (formal_place i 4 0 t) 4) (Column (formal_place i 4 0 t)) (Fixed (get_or e i None))) (Fixed None)

abbrev pub term_of : Vars → List Operand → Operand → Term
term_of e t Absent = Plain (Fixed None)
term_of e t (ConstInt i) = Plain (Fixed (Some (Int i)))
term_of e t (ConstText u) = Plain (Fixed (Some (Text u)))
term_of e t (ConstLoc l) = Plain (Fixed (Some (Loc l)))
term_of e t (Var i) = Plain (origin_of e t i)
term_of e t (Plus i k) = Shifted (origin_of e t i) k
term_of e t (Formal i) = Plain (Fixed None)

-- ── for a row ──

abbrev pub got_at : List Value → ℕ → Got
got_at cs i = cond (ltb i 4) (Some (get_or cs i no_cell)) None

abbrev pub origin_got : Origin → List Value → Got
origin_got (Fixed g) cs = g
origin_got (Column i) cs = got_at cs i

abbrev pub term_got : Term → List Value → Got
term_got (Plain s) cs = origin_got s cs
term_got (Shifted s k) cs = add k (origin_got s cs)

-- the kind of a source, in columns of kinds `ks`
abbrev pub origin_kind : Origin → List ℕ → ℕ
origin_kind (Fixed g) ks = kind_in g
origin_kind (Column i) ks = get_or ks i 0

-- ── matching ──

abbrev pub want_of : Vars → Operand → Want
want_of e Absent = Like None
want_of e (ConstInt i) = Like (Some (Int i))
want_of e (ConstText u) = Like (Some (Text u))
want_of e (ConstLoc l) = Like (Some (Loc l))
want_of e (Var i) = Like (eval e (Var i))
want_of e (Plus i k) = Like (eval e (Plus i k))
want_of e (Formal i) = Anything

-- the want at a place of T; past its end anything will do
abbrev pub want_at : Vars → List Operand → ℕ → Want
want_at e t i = cond (ltb i (length t)) (want_of e (get_or t i no_field)) Anything

abbrev pub meets : Want → Value → Bool
meets Anything v = true
meets (Like g) v = is_same (compared g (Some v))

abbrev pub is_anything : Want → Bool
is_anything Anything = true
is_anything (Like g) = false

abbrev pub wants_met : List Want → List Value → Bool
wants_met ws cs = agree (λ (w : Want) (c : Value). meets w c) ws cs

-- what the logic reads past an array's end
abbrev pub no_wanted : Want
no_wanted = Anything

-- the wants of T: place by place, and so those of a T of at most four places are met by exactly the rows that it matches
pub record WantsAre (e : Vars) (t : List Operand) (ws : List Want) : Type 0 where
  pub places : (i : ℕ) → i < 4 → (get_or ws i no_wanted) ≡ want_at e t i
  pub matching : length t ≤ 4 → (row : Row) → length row.cells ≡ 4 → wants_met ws row.cells ≡ matches e t (values_of (length t) row)

-- where there are wants, they are met
abbrev pub as_wanted : Option (List Want) → List Value → Bool
as_wanted None cs = true
as_wanted (Some ws) cs = wants_met ws cs

-- the row's cells are as the plan wants them
unfoldable pub plan_hits : Plan → Row → Bool
plan_hits p r = as_wanted p.wants r.cells && agrees p.test (compared (term_got p.left r.cells) (term_got p.right r.cells))

-- ── tuples ──

abbrev pub no_component : Term
no_component = (Plain (Fixed None))

-- the terms in use
abbrev pub terms_in : Terms → List Term
terms_in t = firsts (λ (t : Term). t) no_component t.count t.components
