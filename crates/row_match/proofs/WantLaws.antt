-- The wants of T, met field by field: as many as the rule says, for T and rows of any lengths. Assumes nothing.
use Prim.Native.Nat.{ℕ, ◌≤◌, ◌<◌, min}
use mathlib.Core.Path.{◌≡◌, refl, ap, ◌∙◌}
use mathlib.Core.Bool.{cond}
use mathlib.Core.List.{List}
use native.Mathlib.Omega.{arith}
use borrow.Author.Tests.{lt-ltb}
use lib.ListN.{length, get_or, take}
use Rattle.std.proofs.lemmas.List.{get_or-take, length-take}
use Rattle.values.specs.declared.Operand.{Operand}
use Rattle.values.specs.declared.Operand.TheVariants.{Absent}
use Rattle.values.specs.Lists.{agree, looked_at}
use Rattle.values.specs.Operands.{Vars}
use Rattle.values.proofs.LookLaws.{looked-alike, agree-alike}
use Rattle.rows.specs.declared.Want.TheVariants.{Anything}
use Rattle.rows.specs.declared.Want.{Want}
use Rattle.rows.specs.declared.Matched.{Matched}
use Rattle.rows.specs.Relations.{Row}
use Rattle.rows.specs.Matching.{field_matches, matches, looked}
use Rattle.rows.specs.Looking.{no_value, MatchedIs}
use Rattle.rows.specs.Plans.{want_of, meets, WantsAre}
use Rattle.rows.proofs.PlanLaws.{want_meets}

module _ (e : Vars) (t : List Operand) (ws : List Want) (row : Row) (four : length ws ≡ 4) (short : length t ≤ 4) (are : WantsAre e t ws) where
  met_at : (i : ℕ) → i < length (take (length t) ws) → i < length row →
      meets (get_or (take (length t) ws) i Anything) (get_or row i no_value) ≡ field_matches e (get_or t i Absent) (get_or row i no_value)
  met_at i low k =
      let within : i < length t = omega (arith, length-take (length t) ws) in
      ap (λ (w : Want). meets w (get_or row i no_value))
      (get_or-take (length t) ws i Anything within ∙ are.places i (omega arith) ∙ ap (λ b. cond b (want_of e (get_or t i Absent)) Anything) (lt-ltb i (length t) within))
      ∙ want_meets e (get_or t i Absent) (get_or row i no_value)

  as_long : length (take (length t) ws) ≡ length t
  as_long = omega (arith, length-take (length t) ws)

  pub matched_is : {m : Matched} (n : ℕ) → n ≡ min (length t) 4 → m.matches ≡ agree meets (take n ws) row → m.looked ≡ looked_at meets (take n ws) row → MatchedIs e t row m
  unfolding matches looked
  matched_is n fewer em el =
      let all : n ≡ length t = omega arith in
      record {
        matches = em ∙ ap (λ k. agree meets (take k ws) row) all ∙ agree-alike meets (field_matches e) (take (length t) ws) row t row Anything no_value Absent no_value as_long refl met_at;
        looked = el ∙ ap (λ k. looked_at meets (take k ws) row) all ∙ looked-alike meets (field_matches e) (take (length t) ws) row t row Anything no_value Absent no_value as_long refl met_at;
      }
