-- Picks in bytes. Assumes nothing.
use Prim.Native.Nat.{ℕ, zero, suc, ◌+◌, ◌*◌, ◌<◌, ◌≤◌}
use mathlib.Core.Path.{◌≡◌, refl, ap, sym, ◌∙◌}
use mathlib.Core.List.{List, [], ◌∷◌, ◌++◌}
use native.Mathlib.Omega.{arith}
use lib.ListN.{length, get_or, set, take}
use Rattle.values.specs.Lists.{firsts}
use Rattle.values.proofs.Firsts.{firsts-next, firsts_push}
use Rattle.nets.specs.declared.Pick.{Pick}
use Rattle.nets.specs.View.{no_pick}
use Rattle.step_bytes.specs.PickBytes.{picks_in}

pub picks_at_lem : (bs : List ℕ) (i : ℕ) → i * 2 + 1 < length bs → record { thread = get_or bs (i * 2) 0; row = get_or bs (i * 2 + 1) 0 } ≡ get_or (picks_in bs) i no_pick
picks_at_lem [] i h = absurd (omega arith)
picks_at_lem (a ∷ []) i h = absurd (omega arith)
picks_at_lem (a ∷ b ∷ l) zero h = refl
picks_at_lem (a ∷ b ∷ l) (suc i) h =
    let e : suc i * 2 ≡ suc (suc (i * 2)) = omega arith in
    let f : suc (suc (i * 2)) + 1 ≡ suc (suc (i * 2 + 1)) = omega arith in
    rw (e, f) (picks_at_lem l i (omega arith))

pub picks-length : (bs : List ℕ) → (length (picks_in bs) * 2 ≤ length bs) × (length bs ≤ length (picks_in bs) * 2 + 1)
picks-length [] = (omega arith, omega arith)
picks-length (a ∷ []) = (omega arith, omega arith)
picks-length (a ∷ b ∷ l) = let h = picks-length l in (omega (arith, h.0), omega (arith, h.1))

-- two bytes stored are a pick stored
picks-set : (bs : List ℕ) (i t r : ℕ) → i * 2 + 1 < length bs → picks_in (set (set bs (i * 2) t) (i * 2 + 1) r) ≡ set (picks_in bs) i (record { thread = t; row = r })
picks-set [] i t r h = absurd (omega arith)
picks-set (a ∷ []) i t r h = absurd (omega arith)
picks-set (a ∷ b ∷ l) zero t r h = refl
picks-set (a ∷ b ∷ l) (suc i) t r h =
    let e : suc i * 2 ≡ suc (suc (i * 2)) = omega arith in
    let f : suc (suc (i * 2)) + 1 ≡ suc (suc (i * 2 + 1)) = omega arith in
    rw (e, f) (ap (λ (ps : List Pick). record { thread = a; row = b } ∷ ps) (picks-set l i t r (omega arith)))

-- the first so many
pub picks-take : (bs : List ℕ) (n : ℕ) → picks_in (take (n * 2) bs) ≡ take n (picks_in bs)
picks-take bs zero = refl
picks-take [] (suc n) = let e : suc n * 2 ≡ suc (suc (n * 2)) = omega arith in rw e refl
picks-take (a ∷ []) (suc n) = let e : suc n * 2 ≡ suc (suc (n * 2)) = omega arith in rw e refl
picks-take (a ∷ b ∷ l) (suc n) = let e : suc n * 2 ≡ suc (suc (n * 2)) = omega arith in rw e (ap (λ (ps : List Pick). record { thread = a; row = b } ∷ ps) (picks-take l n))

-- ── picks turned into bytes, one after the other ──

abbrev pub first_picks : ℕ → List Pick → List Pick
first_picks n ps = firsts (λ (p : Pick). p) no_pick n ps

pub bytes-more :
    (bs : List ℕ) (ps : List Pick) (i : ℕ) → i * 2 + 1 < length bs → i < length (picks_in bs) → first_picks i (picks_in bs) ≡ first_picks i ps →
    first_picks (i + 1) (picks_in (set (set bs (i * 2) (get_or ps i no_pick).thread) (i * 2 + 1) (get_or ps i no_pick).row)) ≡ first_picks (i + 1) ps
bytes-more bs ps i h l e =
    ap (first_picks (i + 1)) (picks-set bs i (get_or ps i no_pick).thread (get_or ps i no_pick).row h)
    ∙ firsts_push (λ (p : Pick). p) no_pick i (picks_in bs) (get_or ps i no_pick) l
    ∙ ap (λ (qs : List Pick). qs ++ (get_or ps i no_pick ∷ [])) e
    ∙ sym (firsts-next (λ (p : Pick). p) no_pick i ps)

whole : (ps : List Pick) → first_picks (length ps) ps ≡ ps
whole [] = refl
whole (p ∷ ps) = ap (p ∷◌) (whole ps)

pub bytes-all : (bs : List ℕ) (ps : List Pick) (n : ℕ) → length (picks_in bs) ≡ n → length ps ≡ n → first_picks n (picks_in bs) ≡ first_picks n ps → picks_in bs ≡ ps
bytes-all bs ps n k l e =
    sym (whole (picks_in bs)) ∙ ap (λ (m : ℕ). first_picks m (picks_in bs)) k ∙ e ∙ sym (ap (λ (m : ℕ). first_picks m ps) l) ∙ whole ps
