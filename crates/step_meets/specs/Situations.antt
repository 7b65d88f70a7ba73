-- What a pick meets and what it changes, put together from the parts that the code holds. Only the code speaks of it: the rules are in `Steps`.
use Rattle.std.specs.Prelude.{ℕ, ◌-◌, ◌≡◌, Bool, true, false, cond, ◌&&◌, List, eqb, ltb, set, length, Option, is_some, unwrap_or, Result, Err, Ok}
use Rattle.values.specs.declared.Site.{Site}
use Rattle.values.specs.Operands.{Got}
use Rattle.rows.specs.declared.Relation.{Relation}
use Rattle.nets.specs.declared.Refusal.{Refusal}
use Rattle.nets.specs.Answers.{Answer}
use Rattle.nets.specs.declared.Frame.{Frame}
use Rattle.nets.specs.declared.Node.{Node}
use Rattle.nets.specs.View.{TableVariable}
use Rattle.nets.specs.declared.Thread.{Thread}
use Rattle.nets.specs.declared.Entry.TheVariants.{Run}
use Rattle.nets.specs.Nets as M
use Rattle.nets.specs.View.{bindings_of}
use Rattle.step_meets.specs.declared.Setting.{Setting}
use Rattle.step_meets.specs.declared.Decided.{Decided}

-- the thread with its top frame, what the entries of its stack hold, the node, where L leads, whether there is a table and its content, whether a loop entry holds the table variable to be bound,
-- the numbers of tables and threads, and the row picked
pub record Situation : Type 0 where
  pub thread : Thread
  pub saved : ℕ → M.Bindings
  pub frame : Frame
  pub node : Node
  pub located : Option Site
  pub found : Bool
  pub content : Relation
  pub held : Bool
  pub tables : ℕ
  pub threads : ℕ
  pub row : ℕ

abbrev pub situation : Thread → (ℕ → M.Bindings) → Frame → Node → Relation → Setting → Situation
situation t bs f d q s =
    record {
      thread = t;
      saved = bs;
      frame = f;
      node = d;
      located = s.located;
      found = s.found;
      content = q;
      held = s.held;
      tables = s.tables;
      threads = s.threads;
      row = s.row;
    }

-- what a thread has beside its variables and the height of its stack, which alone are handed on; also what the entries of its stack hold
pub record Rest : Type 0 where
  pub site : Site
  pub relations : List TableVariable
  pub stack : List Frame
  pub saved : ℕ → M.Bindings
  pub long : length stack ≡ 8

abbrev pub whole : List Got → ℕ → Rest → Thread
whole vs n w = record { site = w.site; vars = vs; relations = w.relations; stack = w.stack; depth = n }

-- the caller's thread: some `Rest` completes the parts that are handed on, and `P` holds of it
pub record Handed (P : Rest → Type 0) : Type 0 where
  pub rest : Rest
  pub facts : P rest

-- the answer, the content of the table afterwards, the thread, which is gone where its stack is empty, what the entries of its stack hold, whether an entry was removed,
-- so that bindings may come back, and the new thread of a parallel round
pub record Change : Type 0 where
  pub answer : Answer
  pub content : Relation
  pub thread : Thread
  pub saved : ℕ → M.Bindings
  pub ends : Bool
  pub forks : Bool
  pub fork : M.Thread

-- ── the thread afterwards ──

-- the place above the top; of a full stack the top itself, which is stored after it
abbrev pub over_of : ℕ → ℕ
over_of n = cond (ltb n 8) n (n - 1)

-- with a frame `f` stored at place `i`, then its top, and these table variables
abbrev pub moved : Thread → Decided → ℕ → Frame → List TableVariable → Thread
moved t r i f vs =
    record {
      site = t.site;
      vars = r.vars;
      relations = vs;
      stack = set (set t.stack i f) (t.depth - 1) r.frame;
      depth = r.depth;
    }

-- the top entry is that of a loop whose first round opens: it holds the bindings before the round
abbrev pub saved_after : Situation → Decided → ℕ → M.Bindings
saved_after s r j = cond (r.saves && eqb j (s.thread.depth - 1)) (bindings_of s.thread.vars s.thread.relations) (s.saved j)

-- the answer of a decision
abbrev pub answer_in : Result Decided Refusal → Answer
answer_in (Err why) = Err why
answer_in (Ok r) = Ok r.done

-- whether a new thread starts, and its variables; where none does the thread's own, which nothing looks at
abbrev pub starts_thread : Decided → Bool
starts_thread r = is_some r.inner

abbrev pub vars_started : Decided → List Got
vars_started r = unwrap_or r.inner r.vars

-- to next, or the top entry is removed
pub record Onward (depth : ℕ) (next : ℕ) (r : Decided) : Type 0 where
  pub ends : eqb next 255 ≡ true → r.depth ≡ depth - 1
  pub stays : eqb next 255 ≡ false → r.depth ≡ depth
  pub goes : eqb next 255 ≡ false → r.frame.entry ≡ Run next
