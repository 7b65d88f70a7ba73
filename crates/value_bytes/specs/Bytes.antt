-- Lists of bytes put end to end, and numbers as bytes.
use Rattle.std.specs.Prelude.{ℕ, ◌+◌, ◌/◌, ◌%◌, ◌^◌, cond, List, [], ◌∷◌, ◌++◌, leb, length, take, drop}

-- lists of bytes, one after the other
abbrev pub end_to_end : List (List ℕ) → List ℕ
end_to_end [] = []
end_to_end (bs ∷ l) = bs ++ end_to_end l

-- four bytes, little endian
abbrev pub little_bytes : ℕ → List ℕ
little_bytes n = n % 256 ∷ n / 2 ^ 8 % 256 ∷ n / 2 ^ 16 % 256 ∷ n / 2 ^ 24 % 256 ∷ []

-- eight bytes, little endian
unfoldable pub eight_bytes : ℕ → List ℕ
eight_bytes n = little_bytes n ++ little_bytes (n / 2 ^ 32)

-- these bytes at the start of a buffer that has room for all of them; one that has not is left as it is
unfoldable pub put_all : List ℕ → List ℕ → List ℕ
put_all bs buffer = cond (leb (length bs) (length buffer)) (bs ++ drop (length bs) buffer) buffer

-- these bytes from place `a` of a buffer on
abbrev pub put_at : ℕ → List ℕ → List ℕ → List ℕ
put_at a bs buffer = take a buffer ++ (bs ++ drop (a + length bs) buffer)
