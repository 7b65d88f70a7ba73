-- What a call comes to.
use Rattle.std.specs.Prelude.{ℕ, ◌-◌, ◌^◌, cond, List, leb, length}

-- refused with a number and a place; or these bytes go to the start of the buffer
pub data Called : Type 0 where
  refusing : ℕ → ℕ → Called
  putting : List ℕ → Called

-- a length that is needed; one past 64 bits is told as the largest number of 64 bits
abbrev pub needed : ℕ → ℕ
needed n = cond (leb n (2 ^ 64 - 1)) n (2 ^ 64 - 1)

-- these bytes, where the buffer has room for `n`; else 21, with the length that is needed
unfoldable pub if_room_for : ℕ → List ℕ → List ℕ → Called
if_room_for n bs buffer = cond (leb n (length buffer)) (putting bs) (refusing 21 (needed n))

-- room for all of them
abbrev pub if_room : List ℕ → List ℕ → Called
if_room bs buffer = if_room_for (length bs) bs buffer
