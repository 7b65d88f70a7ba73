-- Nets as lists: what the rules read. Names, node numbers and places are numbers; sites and localities are types of their own. `Alias` is the code's own type.
use Rattle.std.specs.Prelude.{ℕ, Bool, true, false, List, [], ◌∷◌, eqb, Option}
use Rattle.values.specs.declared.Site.{Site}
use Rattle.values.specs.declared.Operand.{Operand}
use Rattle.values.specs.Lists.{among}
use Rattle.values.specs.Operands.{Vars}
use Rattle.rows.specs.declared.Function.{Function}
use Rattle.rows.specs.Relations.{Columns, Relation, Selector}
use Rattle.nets.specs.declared.Alias.{Alias}

pub record Table : Type 0 where
  pub site : Site
  pub name : ℕ
  pub content : Relation

-- ── kinds of nodes ──

-- the six that act on a table, and the others; `bad_kind` is any other byte
pub data Act : Type 0 where
  insert insert_table delete update create drop : Act

pub data Other : Type 0 where
  select select_relation aggregate sequential parallel bad_kind : Other

pub data Kind : Type 0 where
  acting : Act → Kind
  other : Other → Kind

-- a kind's number
abbrev pub code : Kind → ℕ
code (acting insert) = 16
code (acting insert_table) = 17
code (acting delete) = 18
code (other select) = 19
code (other select_relation) = 20
code (acting update) = 21
code (other aggregate) = 22
code (acting create) = 23
code (acting drop) = 24
code (other sequential) = 25
code (other parallel) = 26
code (other bad_kind) = 0

-- one of the six
abbrev pub acts : Kind → Bool
acts (acting a) = true
acts (other o) = false

-- the step has an L and a name; its table must be there; its table must not be there; it is an update
abbrev pub has_locality : Kind → Bool
has_locality k = among (code k) (16 ∷ 17 ∷ 18 ∷ 19 ∷ 21 ∷ 22 ∷ 23 ∷ 24 ∷ [])

abbrev pub needs_table : Kind → Bool
needs_table k = among (code k) (16 ∷ 17 ∷ 18 ∷ 19 ∷ 21 ∷ 22 ∷ 24 ∷ [])

abbrev pub is_create : Kind → Bool
is_create k = eqb (code k) 23

abbrev pub is_update : Kind → Bool
is_update k = eqb (code k) 21

-- the step has a T; a predicate
abbrev pub has_template : Kind → Bool
has_template k = among (code k) (18 ∷ 19 ∷ 20 ∷ 21 ∷ 22 ∷ 25 ∷ 26 ∷ [])

abbrev pub has_test : Kind → Bool
has_test k = among (code k) (18 ∷ 19 ∷ 20 ∷ 21 ∷ 22 ∷ [])

-- the step has a t with tags 1..5; a select's t, with tags 1..4
abbrev pub has_tuple : Kind → Bool
has_tuple k = among (code k) (16 ∷ 21 ∷ [])

abbrev pub is_select : Kind → Bool
is_select k = among (code k) (19 ∷ 20 ∷ [])

-- the step reads a table variable; binds one
abbrev pub reads_relation : Kind → Bool
reads_relation k = among (code k) (17 ∷ 20 ∷ 25 ∷ 26 ∷ [])

abbrev pub binds_relation : Kind → Bool
binds_relation k = among (code k) (18 ∷ 19 ∷ 20 ∷ [])

abbrev pub is_aggregate : Kind → Bool
is_aggregate k = eqb (code k) 22

abbrev pub is_loop : Kind → Bool
is_loop k = among (code k) (25 ∷ 26 ∷ [])

abbrev pub is_sequential : Kind → Bool
is_sequential k = eqb (code k) 25

abbrev pub is_parallel : Kind → Bool
is_parallel k = eqb (code k) 26

pub record Node : Type 0 where
  pub kind : Kind
  pub next : ℕ
  pub body : ℕ
  pub name : ℕ
  -- the table variable bound, and the one read
  pub bound : ℕ
  pub read : ℕ
  pub function : Function
  pub column : ℕ
  -- columns of a create
  pub columns : Columns
  -- L
  pub locality : Operand
  -- T and the predicate
  pub selector : Selector
  -- t
  pub tuple : List Operand
  -- T' of an aggregate
  pub result : Operand

-- ── threads ──

-- variables 0..15 and table variables 0..1, each bound or not
pub record Bindings : Type 0 where
  pub vars : Vars
  pub relations : List (Option Relation)

-- a node to run, or a loop node with the rows still to visit and the bindings of the moment when it was first met, which its entry keeps. Those of a sequential loop come back after each round; those of a parallel loop are never looked at
pub data Entry : Type 0 where
  to_run : ℕ → Entry
  visiting : ℕ → List ℕ → Bindings → Entry

-- the stack's top comes first
pub record Thread : Type 0 where
  pub site : Site
  pub bindings : Bindings
  pub stack : List Entry

pub record Net : Type 0 where
  pub aliases : List Alias
  pub tables : List Table
  pub nodes : List Node
  pub threads : List Thread

-- a step's answer: refused with a number and its values; done with rows added and taken, and the next net
pub data Outcome : Type 0 where
  refused : ℕ → List ℕ → Outcome
  done : ℕ → ℕ → Net → Outcome
