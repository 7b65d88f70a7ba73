-- What bytes say: numbers, texts, operands, columns, and the numbers of predicates and functions. Each function reads a part of the file's list of
-- bytes, and is total: beside a function that reads stands a test of the bytes that it leaves unused.
use Rattle.std.specs.Prelude.{ℕ, zero, suc, ◌+◌, ◌-◌, ◌*◌, ◌^◌, Bool, true, false, cond, ◌&&◌, List, [], ◌∷◌, map, eqb, leb, ltb, ℤ, pos, negsuc, get_or, take, drop}
use Rattle.values.specs.declared.Operand.{Operand}
use Rattle.values.specs.declared.Operand.TheVariants.{Absent, ConstInt, ConstText, ConstLoc, Var, Plus, Formal}
use Rattle.std.specs.List.{list_all}
use Rattle.rows.specs.declared.Test.{Test}
use Rattle.rows.specs.declared.Test.TheVariants.{Always, Equal, Unequal, Less, AtMost}
use Rattle.rows.specs.declared.Function.{Function}
use Rattle.rows.specs.declared.Function.TheVariants.{Unused, Count, Sum, Least, Largest}
use Rattle.rows.specs.Relations.{Columns}
use Rattle.nets.specs.Sound.{is_absent}

-- ── parts ──

abbrev pub at : List ℕ → ℕ → ℕ
at bs i = get_or bs i 0

-- bytes `i` up to `j`
abbrev pub part : ℕ → ℕ → List ℕ → List ℕ
part i j bs = take (j - i) (drop i bs)

-- the first `n` parts of `k` bytes
abbrev pub parts : ℕ → ℕ → List ℕ → List (List ℕ)
parts k zero bs = []
parts k (suc n) bs = take k bs ∷ parts k n (drop k bs)

abbrev pub is_zero : ℕ → Bool
is_zero b = eqb b 0

abbrev pub zeros : List ℕ → Bool
zeros bs = list_all is_zero bs

-- some, then only nones: the elements before the first none, and that only nones follow it
module _ {A : Type 0} where
  abbrev pub leading : (A → Bool) → List A → List A
  leading is_none [] = []
  leading is_none (a ∷ l) = cond (is_none a) [] (a ∷ leading is_none l)

  abbrev pub then_only : (A → Bool) → List A → Bool
  then_only is_none [] = true
  then_only is_none (a ∷ l) = cond (is_none a) (list_all is_none l) (then_only is_none l)

-- ── numbers in four bytes ──

-- from the least byte to the highest
abbrev pub joined : ℕ → ℕ → ℕ → ℕ → ℕ
joined a b c d = a + 256 * b + 65536 * c + 16777216 * d

-- little endian
abbrev pub little : List ℕ → ℕ
little bs = joined (at bs 0) (at bs 1) (at bs 2) (at bs 3)

-- a Text or a name as it reads, its first byte the highest
abbrev pub text_in : List ℕ → ℕ
text_in bs = joined (at bs 3) (at bs 2) (at bs 1) (at bs 0)

-- 32 bits as a signed number
abbrev pub signed : ℕ → ℤ
signed n = cond (ltb n (2 ^ 31)) (pos n) (negsuc (2 ^ 32 - 1 - n))

abbrev pub int_in : List ℕ → ℤ
int_in bs = signed (little bs)

-- ── operands: tag, variable, two zeros, four value bytes ──

-- by tag 0..6: the bytes that it leaves unused are zero. A Loc is a number below 8, so its three higher bytes are zero
unfoldable pub operand_form : List ℕ → Bool
operand_form bs =
    get_or
    (zeros (part 1 8 bs)
    ∷ zeros (part 1 4 bs)
    ∷ zeros (part 1 4 bs)
    ∷ (zeros (part 1 4 bs) && zeros (part 5 8 bs))
    ∷ zeros (part 2 8 bs)
    ∷ zeros (part 2 4 bs)
    ∷ zeros (part 2 8 bs)
    ∷ [])
    (at bs 0) false

unfoldable pub operand_in : List ℕ → Operand
operand_in bs =
    get_or
    (Absent
    ∷ ConstInt (int_in (part 4 8 bs))
    ∷ ConstText (text_in (part 4 8 bs))
    ∷ ConstLoc (record { 0 = at bs 4 })
    ∷ Var (at bs 1)
    ∷ Plus (at bs 1) (int_in (part 4 8 bs))
    ∷ Formal (at bs 1)
    ∷ [])
    (at bs 0) Absent

-- a T or a t: up to four operands, then only tag 0
unfoldable pub operands_form : List ℕ → Bool
operands_form bs = list_all operand_form (parts 8 4 bs) && then_only is_absent (map operand_in (parts 8 4 bs))

unfoldable pub operands_in : List ℕ → List Operand
operands_in bs = leading is_absent (map operand_in (parts 8 4 bs))

-- ── columns: kinds, then 0 ──

abbrev pub columns_form : List ℕ → Bool
columns_form bs = then_only is_zero bs

abbrev pub columns_in : List ℕ → Columns
columns_in bs = leading is_zero bs

-- ── predicates 0..4, functions 1..4 and 0 for none ──

abbrev pub is_test : ℕ → Bool
is_test b = leb b 4

abbrev pub test_at : ℕ → Test
test_at b = get_or (Always ∷ Equal ∷ Unequal ∷ Less ∷ AtMost ∷ []) b Always

abbrev pub is_function : ℕ → Bool
is_function b = leb b 4

abbrev pub function_at : ℕ → Function
function_at b = get_or (Unused ∷ Count ∷ Sum ∷ Least ∷ Largest ∷ []) b Unused
