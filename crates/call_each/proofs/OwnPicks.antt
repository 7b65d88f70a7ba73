-- A file's own picks: at most one for each record, and two bytes for each. Assumes nothing.
use Prim.Native.Nat.{ℕ, zero, suc, ◌+◌, ◌-◌, ◌*◌, ◌%◌, ◌≤◌}
use mathlib.Core.Path.{◌≡◌, refl, sym, ap, ◌∙◌}
use mathlib.Core.Bool.{Bool, true, false, cond}
use mathlib.Core.List.{List, [], ◌∷◌, ◌++◌, map}
use Rattle.std.specs.Prelude.{Option, None, Some}
use native.Mathlib.Omega.{arith}
use lib.Dec.{eqb, leb}
use lib.ListN.{length, get_or, take, drop, length-append, length-map}
use borrow.Author.Tests.{leb-true}
use borrow.Rule.Slice.PartMut.{put_mid}
use Rattle.values.specs.Lists.{firsts}
use Rattle.values.proofs.Firsts.{length-firsts, take_firsts}
use Rattle.nets.specs.declared.Pick.{Pick}
use Rattle.nets.specs.Nets.{Net}
use Rattle.nets.specs.View.{no_pick}
use Rattle.record_bytes.specs.Bytes.{parts}
use Rattle.record_bytes.specs.Decoding.{Record, alias_record, table_record, row_record, node_record, start_record, pick_record, Decoded, bad, good, whole_records, records_in, record_in}
use Rattle.value_bytes.specs.Bytes.{end_to_end}
use Rattle.value_bytes.proofs.Stores.{ends-length, ends_more, ends-all}
use Rattle.files.specs.declared.Fault.{Fault}
use Rattle.files.specs.declared.Loaded.{Loaded}
use Rattle.files.specs.Loading.{Progress, nothing_read, picks_of, advance, load_checks, failing, Reading, stopped, finished, proceed, read_all, LoadAnswer, rejected, accepted, linked, finish, first_bad_link, load, load_bytes, fault_of, picks_loaded}
use Rattle.files.specs.Engine.{LoadIs}
use Rattle.call_rules.specs.Layouts.{picks_put}
use Rattle.call_rules.specs.Replies.{Called, refusing, if_room}
use Rattle.call_rules.specs.Calls.{on_loaded, number_in, place_in, Gives}

-- ── how many ──

one-pick : (r : Record) → length (picks_of r) ≤ 1
one-pick (alias_record a) = omega arith
one-pick (table_record s n cs) = omega arith
one-pick (row_record s n r) = omega arith
one-pick (node_record d) = omega arith
one-pick (start_record s i) = omega arith
one-pick (pick_record p) = omega arith

abbrev read_picks : Reading → List Pick
read_picks (stopped n i) = []
read_picks (finished l) = l.picks

picks-read : (i : ℕ) (l : Progress) (xs : List Decoded) → length (read_picks (read_all i l xs)) ≤ length l.picks + length xs
unfolding read_all advance
picks-read i l [] = omega arith
picks-read i l (bad n ∷ xs) = omega arith
picks-read i l (good r ∷ xs) = go (picks-read (suc i) (advance l r) xs) (failing (load_checks l r))
  where
    more : length (advance l r).picks ≤ length l.picks + 1
    more = omega (arith, length-append l.picks (picks_of r), one-pick r)

    go : length (read_picks (read_all (suc i) (advance l r) xs)) ≤ length (advance l r).picks + length xs → (o : Option ℕ) →
        length (read_picks (proceed o i (read_all (suc i) (advance l r) xs))) ≤ length l.picks + suc (length xs)
    go h None = omega (arith, h, more)
    go h (Some n) = omega arith

parts-length : (k n : ℕ) (l : List ℕ) → length (parts k n l) ≡ n
parts-length k zero l = refl
parts-length k (suc n) l = ap suc (parts-length k n (drop k l))

load-picks : (xs : List Decoded) → length (picks_loaded (load xs)) ≤ length xs
unfolding load
load-picks xs = go (read_all 0 nothing_read xs) (picks-read 0 nothing_read xs)
  where
    bound : (o : Option ℕ) (l : Progress) → length (picks_loaded (linked o l)) ≤ length l.picks
    bound None l = omega arith
    bound (Some i) l = omega arith

    go : (x : Reading) → length (read_picks x) ≤ 0 + length xs → length (picks_loaded (finish xs x)) ≤ length xs
    go (stopped n i) h = omega arith
    go (finished l) h = omega (arith, h, bound (first_bad_link (length l.net.nodes) 0 0 xs) l)

file-picks : (file : List ℕ) → length (picks_loaded (load_bytes file)) ≤ 256
unfolding load_bytes records_in
file-picks file = go (eqb (length file % 104) 0) (leb (whole_records file) 256) refl
  where
    count : length (records_in file) ≡ whole_records file
    count = length-map (parts 104 (whole_records file) file) record_in ∙ parts-length 104 (whole_records file) file

    go : (a b : Bool) → leb (whole_records file) 256 ≡ b → length (picks_loaded (cond a (cond b (load (records_in file)) (rejected 2 256)) (rejected 1 (whole_records file)))) ≤ 256
    go true true e = omega (arith, load-picks (records_in file), count, leb-true (whole_records file) 256 e)
    go true false e = omega arith
    go false b e = omega arith

pub own-few : (file : List ℕ) (l : Loaded) → LoadIs file l → l.pickcount ≤ 256
own-few file l is = omega (arith, file-picks file, ap length is.picks, length-firsts (λ (p : Pick). p) no_pick l.pickcount l.picks)

-- a part of the array that was read
pub own-part : (file : List ℕ) (l : Loaded) → LoadIs file l → length l.picks ≡ 256 → take l.pickcount l.picks ≡ picks_loaded (load_bytes file)
own-part file l is e = take_firsts no_pick l.pickcount l.picks (omega (arith, own-few file l is, e)) ∙ is.picks

-- ── their bytes ──

abbrev pair_of : Pick → List ℕ
pair_of p = p.thread ∷ p.row ∷ []

-- those of the first so many
abbrev pub passed : ℕ → List Pick → List ℕ
passed n ps = end_to_end (firsts pair_of no_pick n ps)

pub passed_are : (ps : List Pick) → passed (length ps) ps ≡ picks_put ps
unfolding picks_put
passed_are ps = ap end_to_end (go ps)
  where
    go : (qs : List Pick) → firsts pair_of no_pick (length qs) qs ≡ map pair_of qs
    go [] = refl
    go (q ∷ qs) = ap (pair_of q ∷◌) (go qs)

pub picks-long : (ps : List Pick) → length (picks_put ps) ≡ length ps * 2
picks-long ps = ap length (sym (passed_are ps)) ∙ ends-length pair_of no_pick 2 (λ p. refl) (length ps) ps

pub pick_more : (ps : List Pick) (i : ℕ) (o out ys : List ℕ) → out ≡ passed i ps ++ drop (i * 2) o → ys ≡ pair_of (get_or ps i no_pick) →
    put_mid (i * 2) (i * 2 + 2 - i * 2) out ys ≡ passed (i + 1) ps ++ drop ((i + 1) * 2) o
pick_more ps i o out ys e q = ends_more pair_of no_pick 2 (λ p. refl) ps i o out ys e q

pub picks-all : (ps : List Pick) (i : ℕ) (o out : List ℕ) → i ≤ length ps → length ps ≤ i → length o ≡ length ps * 2 → out ≡ passed i ps ++ drop (i * 2) o → out ≡ picks_put ps
picks-all ps i o out a b l e = ends-all pair_of no_pick 2 (length ps) i ps o out a b l e ∙ passed_are ps

-- ── the reply ──

abbrev told : Option Fault → Called
told None = refusing 0 0
told (Some f) = refusing f.number f.place

pub picks-refused : (x : LoadAnswer) (made : Net → List Pick → Called) (o : List ℕ) (f : Fault) → Some f ≡ fault_of x → Gives (on_loaded made x) o o f.number f.place
picks-refused (rejected m j) made o f q =
    let r : refusing f.number f.place ≡ refusing m j = ap told q in
    record { number = ap number_in r; place = ap place_in r; buffer = refl }
picks-refused (accepted net own) made o f q = let z : ◌≡◌ {A = ℕ} 0 1 = cc in absurd (omega arith)

pub picks-accepted : (x : LoadAnswer) (o out : List ℕ) (ps : List Pick) (n i : ℕ) → None ≡ fault_of x → ps ≡ picks_loaded x →
    Gives (if_room (picks_put ps) o) o out n i → Gives (on_loaded (λ net own. if_room (picks_put own) o) x) o out n i
picks-accepted (rejected m j) o out ps n i q p g = let z : ◌≡◌ {A = ℕ} 0 1 = cc in absurd (omega arith)
picks-accepted (accepted net own) o out ps n i q p g = rw (sym p) g
