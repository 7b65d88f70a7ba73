-- A trace put moment by moment: what stands in the buffer, and the moments still to come. Assumes nothing.
use Prim.Native.Nat.{ℕ, zero, suc, min, ◌+◌, ◌-◌, ◌*◌, ◌/◌, ◌≤◌, ◌<◌}
use mathlib.Core.Path.{◌≡◌, refl, sym, ap, subst, ◌∙◌}
use mathlib.Core.Bool.{Bool, true, false, cond}
use mathlib.Core.Logic.{◌⊎◌, inl, inr}
use mathlib.Core.List.{List, [], ◌∷◌, ◌++◌, map, append-nil, append_assoc}
use native.Mathlib.Nat.{sub-zero}
use Rattle.std.proofs.Math.Nat.{min-eq_left, min-eq_right}
use native.Mathlib.Numerals.{add-one}
use native.Mathlib.Omega.{arith}
use lib.Dec.{leb}
use lib.ListN.{length, get_or, take, drop, length-append, length-take, length-drop, take-append-drop, drop_of_length-le}
use lib.Seq.{take_all, take_at, drop_at, drop-drop, drop-cons}
use borrow.Author.Tests.{le-leb, lt-leb, leb-true, leb-false}
use borrow.Rule.Slice.PartMut.{put_mid}
use Rattle.nets.specs.declared.Pick.{Pick}
use Rattle.nets.specs.Nets.{Net}
use Rattle.nets.specs.Accounts.{next_net, after}
use Rattle.nets.specs.View.{no_pick}
use Rattle.value_bytes.proofs.Stores.{part-size}
use Rattle.step_bytes.specs.PickBytes.{picks_in}
use Rattle.step_bytes.proofs.PickLaws.{picks-length, picks-take}
use Rattle.call_rules.specs.Moments.{moment_put}
use Rattle.call_rules.specs.Replies.{needed, if_room_for}
use Rattle.call_rules.specs.Traces.{nets_after, in_room, trace_put, traced}
use Rattle.call_rules.proofs.CallLaws.{needed-is}
use Rattle.call_rules.specs.Calls.{Gives}
use Rattle.call_hold.proofs.RecordLaws.{more-taken}

-- the moments after each of the picks
abbrev pub later : Net → List Pick → List (List ℕ)
later net ps = map moment_put (nets_after net ps)

-- ── picks ──

-- all but the first so many
pub picks-drop : (bs : List ℕ) (n : ℕ) → picks_in (drop (n * 2) bs) ≡ drop n (picks_in bs)
picks-drop bs zero = refl
picks-drop [] (suc n) =
    let e : suc n * 2 ≡ suc (suc (n * 2)) = omega arith in
    rw e refl
picks-drop (a ∷ []) (suc n) =
    let e : suc n * 2 ≡ suc (suc (n * 2)) = omega arith in
    rw e refl
picks-drop (a ∷ b ∷ l) (suc n) =
    let e : suc n * 2 ≡ suc (suc (n * 2)) = omega arith in
    rw e (picks-drop l n)

one-taken : (ps : List Pick) (i : ℕ) → i < length ps → take 1 (drop i ps) ≡ get_or ps i no_pick ∷ []
one-taken ps i h = rw (drop-cons ps i no_pick h) refl

pub few-picks : (bs : List ℕ) (i : ℕ) → i < length bs / 2 → i < length (picks_in bs)
few-picks bs i h = let l = picks-length bs in omega (arith, l.0, l.1)

-- the pick at a place, carried out by itself
pub one-after : (net next : Net) (bs : List ℕ) (i : ℕ) → i < length bs / 2 → next ≡ after net (picks_in (take (i * 2 + 2 - i * 2) (drop (i * 2) bs))) → next ≡ next_net net (get_or (picks_in bs) i no_pick)
unfolding after
one-after net next bs i h e =
    let q : picks_in (take 2 (drop (i * 2) bs)) ≡ get_or (picks_in bs) i no_pick ∷ [] = picks-take (drop (i * 2) bs) 1 ∙ ap (take 1) (picks-drop bs i) ∙ one-taken (picks_in bs) i (few-picks bs i h) in
    e ∙ rw (part-size (i * 2) 2) (ap (after net) q)

later-next : (net next : Net) (ps : List Pick) (i : ℕ) → i < length ps → next ≡ next_net net (get_or ps i no_pick) → later net (drop i ps) ≡ moment_put next ∷ later next (drop (i + 1) ps)
later-next net next ps i h e = rw (drop-cons ps i no_pick h, add-one, e) refl

-- ── the buffer ──

module _ (net : Net) (ps : List Pick) where
  -- the first moment
  pub first-put : (o ys : List ℕ) (n : ℕ) → n ≡ length (moment_put net) → n ≤ length o → ys ≡ moment_put net →
      trace_put net ps (length (ys ++ drop (n - 0) o)) ≡ take n (ys ++ drop (n - 0) o) ++ in_room (length (ys ++ drop (n - 0) o) - n) (later net ps)
  unfolding trace_put
  first-put o ys n e h q =
      let l : length ys ≡ n = ap length q ∙ sym e in
      let k : length (moment_put net) ≤ length (ys ++ drop (n - 0) o) = simp (length-append, length-drop) (omega arith) in
      rw (le-leb (length (moment_put net)) (length (ys ++ drop (n - 0) o)) k, take_at ys (drop (n - 0) o) n l, e, q) refl

pub first-length : (o ys : List ℕ) (n m : ℕ) → n ≡ m → n ≤ length o → length ys ≡ m → length (ys ++ drop (n - 0) o) ≡ length o
first-length o ys n m e h l = simp (length-append, length-drop) (omega arith)

-- past the first moment the buffer is as it was
pub first-left : (o ys : List ℕ) (n at : ℕ) → length ys ≡ n → n ≤ at → drop at (ys ++ drop (n - 0) o) ≡ drop at o
first-left o ys n at l h =
    let e : n + (at - n) ≡ at = omega arith in
    subst (λ (m : ℕ). drop m (ys ++ drop (n - 0) o) ≡ drop m o) e
    (rw (sym (drop-drop (at - n) n (ys ++ drop (n - 0) o)), drop_at ys (drop (n - 0) o) n l, sub-zero, drop-drop (at - n) n o) refl)

-- a moment that has no room ends the trace
pub no_room : (net next : Net) (ps : List Pick) (i room : ℕ) (bs done : List ℕ) → i < length ps → next ≡ next_net net (get_or ps i no_pick) → room < length (moment_put next) →
    bs ≡ done ++ in_room room (later net (drop i ps)) → bs ≡ done
no_room net next ps i room bs done h e r q = q ∙ rw (later-next net next ps i h e, lt-leb (length (moment_put next)) room r, append-nil)

-- no pick is left
pub none_left : (net : Net) (ps : List Pick) (i room : ℕ) (bs done : List ℕ) → length ps ≤ i → bs ≡ done ++ in_room room (later net (drop i ps)) → bs ≡ done
none_left net ps i room bs done h q = q ∙ rw (drop_of_length-le ps {i = i} h, append-nil)

-- one moment more
pub more-put : (net next : Net) (ps : List Pick) (i at n : ℕ) (bs out ys : List ℕ) → i < length ps → next ≡ next_net net (get_or ps i no_pick) → n ≡ length (moment_put next) → ys ≡ moment_put next → at + n ≤ length out →
    bs ≡ take at out ++ in_room (length out - at) (later net (drop i ps)) → (w : ℕ) → w ≡ length out →
    bs ≡ take (at + n) (put_mid at (at + n - at) out ys) ++ in_room (w - (at + n)) (later next (drop (i + 1) ps))
more-put net next ps i at n bs out ys h e en ey r q w ew =
    let l : length ys ≡ n = ap length ey ∙ sym en in
    let k : length (moment_put next) ≤ length out - at = omega arith in
    let d : length out - at - length (moment_put next) ≡ w - (at + n) = omega arith in
    q
    ∙ rw (later-next net next ps i h e, le-leb (length (moment_put next)) (length out - at) k, d, more-taken out ys at n l (omega arith), ey, append_assoc)

-- what was put, and then the bytes that stood there
pub ended : (o out bs : List ℕ) (at : ℕ) → at ≤ length out → bs ≡ take at out → drop at out ≡ drop at o → (at ≡ length bs) × (out ≡ bs ++ drop at o)
ended o out bs at h e d =
    let l : length (take at out) ≡ at = simp length-take (omega arith) in
    (sym (ap length e ∙ l), sym (ap (λ (x : List ℕ). x ++ drop at o) e ∙ ap (λ (x : List ℕ). take at out ++ x) (sym d) ∙ take-append-drop at out))

-- ── the picks that are skipped ──

module _ (bs : List ℕ) (from n : ℕ) (e : n ≡ min from (length bs / 2)) where
  -- all that are said, or all there are
  abbrev Which : Type 0
  Which = ((n ≡ from) × (from ≤ length bs / 2)) ⊎ ((n ≡ length bs / 2) × (length bs / 2 ≤ from))

  which : Which
  which = go (leb from (length bs / 2)) refl
    where
      go : (b : Bool) → leb from (length bs / 2) ≡ b → Which
      go true q = let h = leb-true from (length bs / 2) q in inl (e ∙ min-eq_left h, h)
      go false q = let h = leb-false from (length bs / 2) q in let k : length bs / 2 ≤ from = omega (arith, h) in inr (e ∙ min-eq_right k, k)

  pub few_skipped : n * 2 ≤ length bs
  few_skipped = go which
    where
      go : Which → n * 2 ≤ length bs
      go (inl q) = omega (arith, q.0, q.1)
      go (inr q) = omega (arith, q.0)

  pub skipped_taken : picks_in (take (n * 2) bs) ≡ take from (picks_in bs)
  skipped_taken = picks-take bs n ∙ go which
    where
      go : Which → take n (picks_in bs) ≡ take from (picks_in bs)
      go (inl q) = ap (λ (m : ℕ). take m (picks_in bs)) q.0
      go (inr q) = let l = picks-length bs in take_all n (picks_in bs) (omega (arith, l.0, l.1, q.0)) ∙ sym (take_all from (picks_in bs) (omega (arith, l.0, l.1, q.1)))

  pub skipped_left : picks_in (drop (n * 2) bs) ≡ drop from (picks_in bs)
  skipped_left = picks-drop bs n ∙ go which
    where
      go : Which → drop n (picks_in bs) ≡ drop from (picks_in bs)
      go (inl q) = ap (λ (m : ℕ). drop m (picks_in bs)) q.0
      go (inr q) = let l = picks-length bs in drop_of_length-le (picks_in bs) {i = n} (omega (arith, l.0, l.1, q.0)) ∙ sym (drop_of_length-le (picks_in bs) {i = from} (omega (arith, l.0, l.1, q.1)))

-- ── the reply ──

module _ (net first : Net) (ps : List Pick) (from : ℕ) (o : List ℕ) (e : first ≡ after net (take from ps)) (size : ℕ) (es : size ≡ length (moment_put first)) where
  pub trace_short : length o < size → size ≤ 396136 → Gives (traced from net ps o) o o 21 size
  unfolding if_room_for
  trace_short h few =
      rw (sym e, lt-leb (length (moment_put first)) (length o) (omega arith)) (record { number = refl; place = needed-is size (omega arith) ∙ ap needed es; buffer = refl })

  pub trace_given : (out : List ℕ) (n : ℕ) (qs : List Pick) → size ≤ length o → qs ≡ drop from ps → n ≡ length (trace_put first qs (length o)) → out ≡ trace_put first qs (length o) ++ drop n o →
      Gives (traced from net ps o) o out 0 n
  unfolding if_room_for
  trace_given out n qs h eq en eo =
      rw (sym e, le-leb (length (moment_put first)) (length o) (omega arith), sym eq) (record { number = refl; place = en; buffer = eo ∙ ap (λ (m : ℕ). trace_put first qs (length o) ++ drop m o) en })
