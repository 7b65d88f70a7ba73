-- The bytes of answers, one after the other. Assumes nothing.
use Prim.Native.Nat.{ℕ, zero, suc, ◌+◌, ◌-◌, ◌*◌, ◌<◌, ◌≤◌}
use mathlib.Core.Path.{◌≡◌, refl, sym, ap, ◌∙◌}
use mathlib.Core.Bool.{Bool, true, false, cond}
use mathlib.Core.List.{List, [], ◌∷◌, ◌++◌, map, append_assoc, append-nil}
use native.Mathlib.Omega.{arith}
use lib.Dec.{T, leb}
use lib.ListN.{length, take, drop, get_or, length-append, length-take, length-drop, drop_of_length-le}
use lib.Seq.{drop-drop, take_at}
use borrow.Author.Tests.{le-leb}
use borrow.Rule.Slice.PartMut.{put_mid}
use Rattle.value_bytes.specs.Bytes.{end_to_end, eight_bytes, put_at, put_all}
use Rattle.value_bytes.proofs.Stores.{part-written, part-size, ends-length, ends_more}
use Rattle.values.specs.Lists.{firsts}
use Rattle.nets.specs.declared.Pick.{Pick}
use Rattle.nets.specs.Nets.{Net, Outcome, refused}
use Rattle.nets.specs.Steps.{step}
use Rattle.nets.specs.Accounts.{next_net, after, answers}
use Rattle.nets.specs.Answers.{Said, answer_of}
use Rattle.step_bytes.specs.AnswerBytes.{three_bytes, answer_bytes, answers_put}

-- three parts of eight bytes fill a buffer of 24
three-parts : (o a b c : List ℕ) → length o ≡ 24 → length a ≡ 8 → length b ≡ 8 → put_mid 16 8 (put_mid 8 8 (a ++ drop 8 o) b) c ≡ a ++ (b ++ c)
three-parts o a b c l la lb =
    let n : length (a ++ b) ≡ 16 = simp length-append (omega arith) in
    rw (part-written a o b 8 8 la, part-written (a ++ b) o c 16 8 n, drop_of_length-le o {i = 24} (omega arith), append-nil, append_assoc)

eight-length : (n : ℕ) → length (eight_bytes n) ≡ 8
unfolding eight_bytes
eight-length n = refl

pub three_numbers : (o p q r : List ℕ) (a b c : ℕ) → length o ≡ 24 → p ≡ eight_bytes a → q ≡ eight_bytes b → r ≡ eight_bytes c → put_mid 16 8 (put_mid 8 8 (p ++ drop 8 o) q) r ≡ three_bytes a b c
unfolding three_bytes
three_numbers o p q r a b c l hp hq hr = three-parts o p q r l (ap length hp ∙ eight-length a) (ap length hq ∙ eight-length b) ∙ rw (hp, hq, hr)

said-length : (s : Said) → length (answer_bytes s) ≡ 24
unfolding answer_bytes three_bytes eight_bytes
said-length s = refl

-- a part of 24 bytes is written
pub part-put : (s : Said) (a : ℕ) (o ys : List ℕ) → ys ≡ answer_bytes s → put_mid a (a + 24 - a) o ys ≡ put_at a (answer_bytes s) o
part-put s a o ys e = rw (e, said-length s, part-size a 24, drop-drop)

-- ── the answers so far ──

abbrev pub bytes_of : Outcome → List ℕ
bytes_of o = answer_bytes (answer_of o)

abbrev pub no_outcome : Outcome
no_outcome = refused 0 []

answer-length : (o : Outcome) → length (bytes_of o) ≡ 24
answer-length o = said-length (answer_of o)

pub answers-length : (net : Net) (ps : List Pick) → length (answers net ps) ≡ length ps
unfolding answers
answers-length net [] = refl
answers-length net (p ∷ ps) = ap suc (answers-length (next_net net p) ps)

-- the answer to a pick is that of the net which the picks before it leave
pub answer_at : (net : Net) (ps : List Pick) (i : ℕ) (d : Pick) → i < length ps → get_or (answers net ps) i no_outcome ≡ step (after net (take i ps)) (get_or ps i d)
unfolding answers after
answer_at net [] i d h = absurd (omega arith)
answer_at net (p ∷ ps) zero d h = refl
answer_at net (p ∷ ps) (suc i) d h = answer_at (next_net net p) ps i d (omega arith)

-- the first `i` answers, then the bytes that stood there; without room just these
unfoldable pub put_so_far : Bool → ℕ → List Outcome → List ℕ → List ℕ
put_so_far room i os o = cond room (end_to_end (firsts bytes_of no_outcome i os) ++ drop (i * 24) o) o

pub put-none : (room : Bool) (os : List Outcome) (o : List ℕ) → o ≡ put_so_far room 0 os o
unfolding put_so_far
put-none true os o = refl
put-none false os o = refl

pub put-more :
    (room : Bool) (i : ℕ) (os : List Outcome) (o out new : List ℕ) (s : Said) → out ≡ put_so_far room i os o → s ≡ answer_of (get_or os i no_outcome) →
    new ≡ cond room (put_at (i * 24) (answer_bytes s) out) out → new ≡ put_so_far room (i + 1) os o
unfolding put_so_far
put-more true i os o out new s k e n = n ∙ sym (part-put s (i * 24) out (answer_bytes s) refl) ∙ ends_more bytes_of no_outcome 24 answer-length os i o out (answer_bytes s) k (ap answer_bytes e)
put-more false i os o out new s k e n = n ∙ k

pub put-length :
    (room : Bool) (i : ℕ) (s : Said) (out new : List ℕ) → (T room → i * 24 + 24 ≤ length out) → new ≡ cond room (put_at (i * 24) (answer_bytes s) out) out → length new ≡ length out
put-length true i s out new h e =
    let k : i * 24 + 24 ≤ length out = h tt in
    rw (e, length-append, length-append, said-length s, length-take, length-drop) (omega arith)
put-length false i s out new h e = ap length e

-- ── all answers ──

firsts-all : {A B : Type 0} (f : A → B) (z : A) (l : List A) → firsts f z (length l) l ≡ map f l
firsts-all f z [] = refl
firsts-all f z (a ∷ l) = ap (f a ∷◌) (firsts-all f z l)

answers-all : (net : Net) (ps : List Pick) → end_to_end (firsts bytes_of no_outcome (length ps) (answers net ps)) ≡ answers_put net ps
unfolding answers_put
answers-all net ps = rw (← answers-length net ps, firsts-all bytes_of no_outcome (answers net ps)) refl

pub answers-size : (net : Net) (ps : List Pick) → length (answers_put net ps) ≡ length ps * 24
answers-size net ps = rw (← answers-all net ps) (ends-length bytes_of no_outcome 24 answer-length (length ps) (answers net ps))

pub put-over : (net : Net) (ps : List Pick) (room : Bool) (i : ℕ) (o out : List ℕ) → i ≡ length ps → room ≡ leb (length ps * 24) (length o) →
    out ≡ put_so_far room i (answers net ps) o → out ≡ put_all (answers_put net ps) o
unfolding put_so_far put_all
put-over net ps room i o out e r k =
    k
    ∙ ap (λ (b : Bool). cond b (end_to_end (firsts bytes_of no_outcome i (answers net ps)) ++ drop (i * 24) o) o) r
    ∙ rw (e, answers-all net ps, answers-size net ps) refl

-- where there is room the buffer begins with all of them
pub put-begins : (net : Net) (ps : List Pick) (n : ℕ) (o out : List ℕ) → length ps ≡ n → n * 24 ≤ length o → out ≡ put_all (answers_put net ps) o → take (n * 24) out ≡ answers_put net ps
unfolding put_all
put-begins net ps n o out l h e =
    let size : length (answers_put net ps) ≡ n * 24 = answers-size net ps ∙ ap (λ (m : ℕ). m * 24) l in
    rw (e, size, le-leb (n * 24) (length o) h) (take_at (answers_put net ps) (drop (n * 24) o) (n * 24) size)
