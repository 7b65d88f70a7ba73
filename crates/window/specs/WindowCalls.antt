-- The contracts of `begin` and `take`: the answer, and the window that comes back.
use Rattle.std.specs.Prelude.{ℕ, ◌≡◌, List, ℤ, pos, Option, None, Some, Result, Ok, Err, OnErr, ⊤}
use Rattle.values.specs.Operands.{Got}
use Rattle.values.specs.Lists.{firsts}
use Rattle.window_rules.specs.Windows.{value_int, begun, begin_number, figures, refused, taken}
use Rattle.window_rules.specs.Windows as rule
use Rattle.window.specs.declared.Window.{Window}
use Rattle.window.specs.declared.Begun.{Begun}
use Rattle.window.specs.declared.BadWidth.{BadWidth}
use Rattle.window.specs.declared.figures.Figures.{Figures}
use Rattle.window.specs.declared.Refused.{Refused}
use Rattle.window.specs.declared.Refused.TheVariants.{BadWindow, BadRecord}
use Rattle.window.specs.declared.Taken.{Taken}

-- ── what the code holds, as the rules have it ──

-- the first Ints of an array, as many as the count says
abbrev pub ints_of : ℕ → List ℤ → List ℤ
ints_of n l = firsts (λ (z : ℤ). z) (pos 0) n l

abbrev pub window_of : Window → rule.Window
window_of s = record { width = s.width; column = s.column; ints = ints_of s.count s.ints }

-- ── the paper's number of each case, and its values ──

abbrev pub beginning_number : Result ⊤ BadWidth → ℕ
beginning_number (Ok u) = 0
beginning_number (Err e) = 23

abbrev pub refusal_number : Refused → ℕ
refusal_number BadWindow = 23
refusal_number BadRecord = 24

abbrev pub figures_told : Figures → rule.WindowAnswer
figures_told f = figures f.sum f.least f.largest

abbrev pub answer_of : Result Figures Refused → rule.WindowAnswer
answer_of (Ok f) = figures_told f
answer_of (Err r) = refused (refusal_number r)

abbrev pub taken_of : Taken → rule.Taken
taken_of t = record { answer = answer_of t.answer; next = window_of t.window }

-- ── the contracts ──

pub record BeginIs (w c : ℕ) (b : Begun) : Type 0 where
  pub number : beginning_number b.beginning ≡ begin_number w
  pub window : window_of b.window ≡ begun w c

-- `s` is handed in with the record's bytes
pub record TakeIs (s : Window) (bytes : List ℕ) (t : Taken) : Type 0 where
  pub gives : taken_of t ≡ taken (window_of s) bytes
  -- a refused record gives the very struct back
  pub kept : OnErr t.answer (t.window ≡ s)

-- ── inside: the Int of a value that may be missing ──

abbrev pub got_int : Got → Option ℤ
got_int None = None
got_int (Some v) = value_int v
