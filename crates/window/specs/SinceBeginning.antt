-- The theorem of the window: over all records taken since a beginning, whatever they are, of what the calls gave back. SeriesLaws proves it.
use Rattle.std.specs.Prelude.{ℕ, ◌≡◌, false, List, [], ◌∷◌, map}
use Rattle.window_rules.specs.Windows.{window_ok, refused}
use Rattle.window_rules.specs.Since.{answers_since, windows_since}
use Rattle.window.specs.declared.Window.{Window}
use Rattle.window.specs.declared.Begun.{Begun}
use Rattle.window.specs.declared.Taken.{Taken}
use Rattle.window.specs.WindowCalls.{window_of, answer_of, BeginIs, TakeIs}

-- one call of `take` for each record: the first is handed `s`, each further one the window that the one before gave back
pub data Series : Window → List (List ℕ) → List Taken → Type 0 where
  ended : {s : Window} → Series s [] []
  further : {s : Window} {r : List ℕ} {t : Taken} {rs : List (List ℕ)} {ts : List Taken} → TakeIs s r t → Series t.window rs ts → Series s (r ∷ rs) (t ∷ ts)

-- what came back for each record: the answer and the window that the records up to it say
pub record Since (w c : ℕ) (rs : List (List ℕ)) (ts : List Taken) : Type 0 where
  pub answers : map (λ (t : Taken). answer_of t.answer) ts ≡ answers_since w c rs
  pub windows : map (λ (t : Taken). window_of t.window) ts ≡ windows_since w c rs

-- for every width and column, those that are refused too, and every list of records
abbrev pub SinceBeginning : Type 0
SinceBeginning = (w c : ℕ) (b : Begun) (rs : List (List ℕ)) (ts : List Taken) → BeginIs w c b → Series b.window rs ts → Since w c rs ts

-- with a state that is refused every record is refused by 23, and the very state comes back each time
pub record AllRefused (s : Window) (rs : List (List ℕ)) (ts : List Taken) : Type 0 where
  pub answers : map (λ (t : Taken). answer_of t.answer) ts ≡ map (λ (r : List ℕ). refused 23) rs
  pub windows : map (λ (t : Taken). t.window) ts ≡ map (λ (r : List ℕ). s) rs

abbrev pub RefusedState : Type 0
RefusedState = (s : Window) (rs : List (List ℕ)) (ts : List Taken) → window_ok (window_of s) ≡ false → Series s rs ts → AllRefused s rs ts
