-- A file that loading refuses is refused by a number of 1 to 9. Assumes nothing.
use Prim.Native.Nat.{ℕ, suc, ◌%◌}
use mathlib.Core.Bool.{Bool, true, false, cond, ◌&&◌}
use mathlib.Core.List.{List, [], ◌∷◌}
use Rattle.std.specs.Prelude.{Option, None, Some}
use lib.Dec.{T, eqb, leb}
use lib.ListN.{length}
use Rattle.std.specs.List.{list_all}
use Rattle.values.proofs.Bools.{and_l, and_r}
use Rattle.values.proofs.ListLaws.{all_map}
use Rattle.nets.specs.Steps.{Check}
use Rattle.record_bytes.specs.Bytes.{parts}
use Rattle.record_bytes.specs.Decoding.{Record, Decoded, good, bad, in_form, record_in, whole_records, records_in}
use Rattle.files.specs.Loading.{Progress, nothing_read, load_checks, advance, failed, failing, Reading, stopped, finished, proceed, read_all, first_bad_link, LoadAnswer, rejected, accepted, linked, finish, load, load_bytes}

abbrev pub is_number : ℕ → Bool
is_number n = leb 1 n && leb n 9

abbrev pub answer_numbered : LoadAnswer → Bool
answer_numbered (rejected n i) = is_number n
answer_numbered (accepted net ps) = true

abbrev pub decoded_numbered : Decoded → Bool
decoded_numbered (good r) = true
decoded_numbered (bad n) = is_number n

abbrev reading_numbered : Reading → Bool
reading_numbered (stopped n i) = is_number n
reading_numbered (finished l) = true

kind-numbered : (b c : Bool) (x : Record) (rest : Decoded) → T (decoded_numbered rest) → T (decoded_numbered (cond b (in_form c x) rest))
kind-numbered true true x rest h = tt
kind-numbered true false x rest h = tt
kind-numbered false c x rest h = h

unknown_numbered : T (decoded_numbered (bad 3))
unknown_numbered = tt

pub record_numbered : (r : List ℕ) → T (decoded_numbered (record_in r))
unfolding record_in
record_numbered r = search (kind-numbered, unknown_numbered) depth 8

abbrev option_numbered : Option ℕ → Bool
option_numbered None = true
option_numbered (Some n) = is_number n

failing-numbered : (ks : List Check) → T (list_all (λ k. is_number k.number) ks) → T (option_numbered (failing ks))
failing-numbered [] h = tt
failing-numbered (k ∷ ks) h = go k.passes (failing-numbered ks (and_r (is_number k.number) (list_all (λ j. is_number j.number) ks) h))
  where
    go : (b : Bool) → T (option_numbered (failing ks)) → T (option_numbered (failed b k.number (failing ks)))
    go true ih = ih
    go false ih = and_l (is_number k.number) (list_all (λ j. is_number j.number) ks) h

checks-numbered : (l : Progress) (r : Record) → T (option_numbered (failing (load_checks l r)))
unfolding load_checks
checks-numbered l r = failing-numbered (load_checks l r) tt

read-numbered : (i : ℕ) (l : Progress) (xs : List Decoded) → T (list_all decoded_numbered xs) → T (reading_numbered (read_all i l xs))
unfolding read_all
read-numbered i l [] h = tt
read-numbered i l (bad n ∷ xs) h = and_l (is_number n) (list_all decoded_numbered xs) h
read-numbered i l (good r ∷ xs) h = go (failing (load_checks l r)) (checks-numbered l r) (read-numbered (suc i) (advance l r) xs h)
  where
    go : (o : Option ℕ) → T (option_numbered o) → T (reading_numbered (read_all (suc i) (advance l r) xs)) → T (reading_numbered (proceed o i (read_all (suc i) (advance l r) xs)))
    go None k ih = ih
    go (Some n) k ih = k

load-numbered : (xs : List Decoded) → T (list_all decoded_numbered xs) → T (answer_numbered (load xs))
unfolding load
load-numbered xs h = go (read_all 0 nothing_read xs) (read-numbered 0 nothing_read xs h)
  where
    linked-numbered : (o : Option ℕ) (l : Progress) → T (answer_numbered (linked o l))
    linked-numbered None l = tt
    linked-numbered (Some i) l = tt

    go : (x : Reading) → T (reading_numbered x) → T (answer_numbered (finish xs x))
    go (stopped n i) k = k
    go (finished l) k = linked-numbered (first_bad_link (length l.net.nodes) 0 0 xs) l

pub bytes-numbered : (file : List ℕ) → T (answer_numbered (load_bytes file))
unfolding load_bytes records_in
bytes-numbered file =
    go (eqb (length file % 104) 0) (leb (whole_records file) 256) (load-numbered (records_in file) (all_map decoded_numbered record_in (parts 104 (whole_records file) file) record_numbered))
  where
    go : (a b : Bool) → T (answer_numbered (load (records_in file))) → T (answer_numbered (cond a (cond b (load (records_in file)) (rejected 2 256)) (rejected 1 (whole_records file))))
    go true true h = h
    go true false h = tt
    go false b h = tt
