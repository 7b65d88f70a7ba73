-- What the records taken since a beginning come to, said of their whole list and without any state.
use Rattle.std.specs.Prelude.{ℕ, cond, List, [], ◌∷◌, ◌++◌, map, ℤ, Option, None, Some}
use Rattle.values.specs.Lists.{present}
use Rattle.window_rules.specs.Windows.{counted_int, Window, width_ok, WindowAnswer, refused, figures_of, last_of}

-- the Ints of the records that count among these, in order
abbrev pub counted_ints : ℕ → List (List ℕ) → List ℤ
counted_ints c rs = present (map (counted_int c) rs)

-- the window after these: the last w that count, or all while fewer have come. With a w that is refused none enters
abbrev pub window_after : ℕ → ℕ → List (List ℕ) → Window
window_after w c rs = record { width = w; column = c; ints = cond (width_ok w) (last_of w (counted_ints c rs)) [] }

-- the answer to a record with this Int or none, where these are the last Ints up to and with it
abbrev pub answer_to : Option ℤ → List ℤ → WindowAnswer
answer_to None last = refused 24
answer_to (Some k) last = figures_of last

-- the answer to a record that comes after others. With a w that is refused it is 23 for every record
unfoldable pub answer_after : ℕ → ℕ → List (List ℕ) → List ℕ → WindowAnswer
answer_after w c before r = cond (width_ok w) (answer_to (counted_int c r) (last_of w (counted_ints c (before ++ (r ∷ []))))) (refused 23)

-- for each record, what `f` makes of those that came before it and of it
module _ {A : Type 0} where
  abbrev pub each_after : (List (List ℕ) → List ℕ → A) → List (List ℕ) → List (List ℕ) → List A
  each_after f before [] = []
  each_after f before (r ∷ rs) = f before r ∷ each_after f (before ++ (r ∷ [])) rs

-- the answers to all records since a beginning, and the windows after each
abbrev pub answers_since : ℕ → ℕ → List (List ℕ) → List WindowAnswer
answers_since w c rs = each_after (answer_after w c) [] rs

abbrev pub windows_since : ℕ → ℕ → List (List ℕ) → List Window
windows_since w c rs = each_after (λ (before : List (List ℕ)) (r : List ℕ). window_after w c (before ++ (r ∷ []))) [] rs
