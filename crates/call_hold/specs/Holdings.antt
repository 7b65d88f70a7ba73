-- What a thread holds, by the parts that the code is handed: counts within their arrays, and the records that come of them. Only the code speaks of it: the rule is `thread_records`.
use Rattle.std.specs.Prelude.{ℕ, zero, suc, ◌+◌, ◌<◌, ◌≤◌, ◌≡◌, cond, List, None, Some, IfSome, [], ◌∷◌, ◌++◌, eqb, get_or}
use Rattle.rows.specs.View.{Shaped}
use Rattle.nets.specs.declared.Entry.{Entry}
use Rattle.nets.specs.declared.Entry.TheVariants.{Run, Loop}
use Rattle.nets.specs.View.{TableVariable}
use Rattle.nets.specs.declared.Saved.{Saved}
use Rattle.nets.specs.declared.Thread.{Thread}
use Rattle.nets.specs.Nets as M
use Rattle.nets.specs.Sound.{no_node}
use Rattle.nets.specs.View.{no_variable, no_saved, no_frame, bindings_of}
use Rattle.call_rules.specs.Moments.{bindings_records, entry_record, thread_head}
use Rattle.call_rules.specs.Openings.{entry_alone}

-- ── bindings ──

-- what it holds, if anything
pub record VariableShaped (v : TableVariable) : Type 0 where
  pub shaped : IfSome v Shaped

-- both table variables
pub record RelationsShaped (rs : List TableVariable) : Type 0 where
  pub first : VariableShaped (get_or rs 0 no_variable)
  pub second : VariableShaped (get_or rs 1 no_variable)

-- the rows that are given out
abbrev pub rows_given : TableVariable → ℕ
rows_given None = 0
rows_given (Some r) = r.count

-- the records of bindings: sixteen variables, two table variables, their rows
abbrev pub records_given : List TableVariable → ℕ
records_given rs = 18 + rows_given (get_or rs 0 no_variable) + rows_given (get_or rs 1 no_variable)

-- ── what entries hold ──

-- what a node's loop has entries hold: 0 nothing, 1 bindings where it reads table variable 0, 2 where it reads 1
abbrev pub holds_by : M.Node → ℕ
holds_by d = cond (M.is_sequential d.kind) (cond (eqb d.read 0) 1 2) 0

-- that of each node, by its number
pub record HoldsAre (ds : List M.Node) (holds : List ℕ) : Type 0 where
  pub at : (i : ℕ) → get_or holds i 0 ≡ holds_by (get_or ds i no_node)

-- that of an entry; one to run holds nothing
abbrev pub held_by : List ℕ → Entry → ℕ
held_by holds (Run i) = 0
held_by holds (Loop i) = get_or holds i 0

-- the table variables: the one that the loop reads is the thread's own, the other was saved
abbrev pub pair_held : ℕ → List TableVariable → TableVariable → List TableVariable
pair_held h rs v = cond (eqb h 1) (get_or rs 0 no_variable ∷ v ∷ []) (v ∷ get_or rs 1 no_variable ∷ [])

unfoldable pub held_given : ℕ → List TableVariable → Saved → List (List ℕ)
held_given h rs s = cond (eqb h 0) [] (bindings_records (bindings_of s.vars (pair_held h rs s.other)))

-- where something is held
pub record HeldShaped (h : ℕ) (s : Saved) : Type 0 where
  pub other : 1 ≤ h → VariableShaped s.other

-- ── a thread ──

-- what the entry at a place of its stack holds
abbrev pub held_at : List ℕ → Thread → ℕ → ℕ
held_at holds t j = held_by holds (get_or t.stack j no_frame).entry

-- the records of the first `n` entries, the last of them first: it is the top
abbrev pub stack_given : List ℕ → List Saved → Thread → ℕ → List (List ℕ)
stack_given holds ss t zero = []
stack_given holds ss t (suc n) =
    entry_record (entry_alone (get_or t.stack n no_frame)) ∷ (held_given (held_at holds t n) t.relations (get_or ss n no_saved) ++ stack_given holds ss t n)

abbrev pub thread_given : List ℕ → List Saved → Thread → List (List ℕ)
thread_given holds ss t = thread_head t.site.0 t.depth ∷ (bindings_records (bindings_of t.vars t.relations) ++ stack_given holds ss t t.depth)

pub record ThreadShaped (holds : List ℕ) (ss : List Saved) (t : Thread) : Type 0 where
  pub relations : RelationsShaped t.relations
  pub depth : t.depth ≤ 8
  pub held : (j : ℕ) → j < t.depth → HeldShaped (held_at holds t j) (get_or ss j no_saved)
