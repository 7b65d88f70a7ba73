-- What an operand gives, what it reads, and what a formal binds. `Operand` is the code's own type.
use Rattle.std.specs.Prelude.{ℕ, Bool, true, false, List, [], ◌∷◌, map, ℤ, pos, ◌+ℤ◌, get_or, set, Option, None, Some}
use Rattle.values.specs.declared.Value.{Value}
use Rattle.values.specs.declared.Value.TheVariants.{Int, Text, Loc}
use Rattle.values.specs.Values.{Order}
use Rattle.values.specs.declared.Operand.{Operand}
use Rattle.values.specs.declared.Operand.TheVariants.{Absent, ConstInt, ConstText, ConstLoc, Var, Plus, Formal}
use Rattle.values.specs.Lists.{present}
use Rattle.values.specs.Values.{kind_of, in32, order}

-- ── what is there ──

-- what an operand gives, or a variable holds: a value, or nothing
abbrev pub Got : Type 0
Got = Option Value

abbrev pub is_got : Got → Bool
is_got None = false
is_got (Some v) = true

-- the values that are there
abbrev pub values_in : List Got → List Value
values_in [] = []
values_in (None ∷ l) = values_in l
values_in (Some v ∷ l) = v ∷ values_in l

-- the value that is there; where nothing is, any will do
abbrev pub value_in : Got → Value
value_in None = Int (pos 0)
value_in (Some v) = v

-- the kind of what is there; 0, which is no kind, of nothing
abbrev pub kind_in : Got → ℕ
kind_in None = 0
kind_in (Some v) = kind_of v

-- the order of what two operands give; a missing value is unlike any other
abbrev pub compared : Got → Got → Order
compared None h = None
compared (Some v) None = None
compared (Some v) (Some w) = order v w

-- ── evaluation ──

-- variables 0..15, each bound or not
abbrev pub Vars : Type 0
Vars = List Got

-- an Int, within 32 bits
abbrev pub fitting : Bool → ℤ → Got
fitting true i = Some (Int i)
fitting false i = None

-- plus an Int: no value of what is no Int, or outside 32 bits
abbrev pub add : ℤ → Got → Got
add k None = None
add k (Some (Int i)) = fitting (in32 (i +ℤ k)) (i +ℤ k)
add k (Some (Text t)) = None
add k (Some (Loc l)) = None

-- what an operand gives; a formal has no value of its own
abbrev pub eval : Vars → Operand → Got
eval e Absent = None
eval e (ConstInt i) = Some (Int i)
eval e (ConstText t) = Some (Text t)
eval e (ConstLoc l) = Some (Loc l)
eval e (Var i) = get_or e i None
eval e (Plus i k) = add k (get_or e i None)
eval e (Formal i) = None

-- the variables that an operand reads
abbrev pub reads : Operand → List ℕ
reads Absent = []
reads (ConstInt i) = []
reads (ConstText t) = []
reads (ConstLoc l) = []
reads (Var i) = i ∷ []
reads (Plus i k) = i ∷ []
reads (Formal i) = []

-- ── formals ──

-- the variable of a formal
abbrev pub formal_of : Operand → Option ℕ
formal_of Absent = None
formal_of (ConstInt i) = None
formal_of (ConstText t) = None
formal_of (ConstLoc l) = None
formal_of (Var i) = None
formal_of (Plus i k) = None
formal_of (Formal i) = Some i

-- the formals of a template
abbrev pub formals : List Operand → List ℕ
formals t = present (map formal_of t)

-- a template's formals bound to what stands at their places: a row's values, or the columns' kinds
module _ {A : Type 0} where
  abbrev pub bind_to : Option ℕ → A → List A → List A
  bind_to None a e = e
  bind_to (Some i) a e = set e i a

  unfoldable pub bind : List Operand → List A → List A → List A
  bind [] r e = e
  bind (o ∷ t) [] e = e
  bind (o ∷ t) (a ∷ r) e = bind t r (bind_to (formal_of o) a e)
