-- Lists with Boolean tests, beside std's `list_all`, `list_any` and `find`. Each function that tests an element hands the test to a helper by cases
-- (`keep`, `bit`), so that a proof splits on one Bool.
use Rattle.std.specs.Prelude.{ℕ, zero, suc, ◌+◌, Bool, true, false, ◌&&◌, List, [], ◌∷◌, eqb, Option, None, Some}
use Rattle.std.specs.List.{list_any}

-- 1 for a test that holds
abbrev pub bit : Bool → ℕ
bit true = 1
bit false = 0

-- 0 for a test that holds here, else one further on
abbrev pub next_place : Bool → ℕ → ℕ
next_place true n = 0
next_place false n = suc n

-- 1 for this place, and where its test holds also the `n` after it
abbrev pub look_on : Bool → ℕ → ℕ
look_on true n = suc n
look_on false n = 1

module _ {A : Type 0} where
  abbrev pub or_else : A → Option A → A
  or_else d None = d
  or_else d (Some a) = a

  abbrev pub keep : Bool → A → List A → List A
  keep true a l = a ∷ l
  keep false a l = l

  -- the elements that pass the test, in order
  abbrev pub filter : (A → Bool) → List A → List A
  filter p [] = []
  filter p (a ∷ l) = keep (p a) a (filter p l)

  -- the place of the first element that passes the test; the length where there is none
  abbrev pub place_of : (A → Bool) → List A → ℕ
  place_of p [] = 0
  place_of p (a ∷ l) = next_place (p a) (place_of p l)

  -- how many elements pass the test
  abbrev pub count : (A → Bool) → List A → ℕ
  count p [] = 0
  count p (a ∷ l) = bit (p a) + count p l

  -- the element at a place goes, and the list closes up
  abbrev pub remove_at : ℕ → List A → List A
  remove_at i [] = []
  remove_at zero (a ∷ l) = l
  remove_at (suc i) (a ∷ l) = a ∷ remove_at i l

  -- the elements that are there
  abbrev pub present : List (Option A) → List A
  present [] = []
  present (None ∷ l) = present l
  present (Some a ∷ l) = a ∷ present l

module _ {A B : Type 0} where
  -- two lists of one length agree, place by place
  abbrev pub agree : (A → B → Bool) → List A → List B → Bool
  agree p [] [] = true
  agree p [] (b ∷ l) = false
  agree p (a ∷ k) [] = false
  agree p (a ∷ k) (b ∷ l) = p a b && agree p k l

  -- how many places are looked at, from the first on: up to and with the first where the test fails, else all that both lists have
  abbrev pub looked_at : (A → B → Bool) → List A → List B → ℕ
  looked_at p [] l = 0
  looked_at p (a ∷ k) [] = 0
  looked_at p (a ∷ k) (b ∷ l) = look_on (p a b) (looked_at p k l)

  -- the first `n` of an array, each by `f`. As long as `n` says: past the array's end stands `z`, which is also what the logic reads there
  abbrev pub firsts : (A → B) → A → ℕ → List A → List B
  firsts f z zero l = []
  firsts f z (suc n) [] = f z ∷ firsts f z n []
  firsts f z (suc n) (a ∷ l) = f a ∷ firsts f z n l

-- the sum of a list of numbers
abbrev pub sum : List ℕ → ℕ
sum [] = 0
sum (n ∷ l) = n + sum l

-- a number is in a list
abbrev pub among : ℕ → List ℕ → Bool
among n l = list_any (λ m. eqb n m) l

-- the places from `i` on, `n` of them
abbrev pub places : ℕ → ℕ → List ℕ
places i zero = []
places i (suc n) = i ∷ places (suc i) n
