-- Demand 3 of the engine: one statement about what `load` and `step` returned. `engine_demand3` in proofs/EngineLaws proves it.
--
-- The demand, part by part, and where each part stands:
--
--   over every net that loading accepted        every `file` and every `l` that `load` returned for it (`LoadIs`), its verdict Ok
--   over every list of picks, refused ones too  every `ps`; `Chain` has one call of `step` for each pick, whatever it answered
--   from what the engine itself gave back       `Chain l.net`: each call met its contract; the first got the very net that `load` gave back, and each
--                                               later one the very net that the call before it gave back
--   all rows fit                                `fit`, of the last net returned
--   no site has two tables of one name          `names`, of the last net returned
--   standing + taken = loaded + added           `balance`, for each site, name and row: standing in the last net returned, loaded by the file's row
--                                               records, added and taken by the accounts of the file and the picks
--   what no done step acted on is as loaded     `untouched`: the file's table with its rows in order, or none
--   reported counts sum to what was added       `added_all`, `added_accounts`, `added_sum`: the sum of the counts in the answers returned is the number of
--   and taken, exactly                          all rows added, and the accounts summed over all sites, names and rows; `taken..` likewise
--
-- The parts themselves are the fields of `FileDemand3`, which has one more, `is_sound`: the last net returned is sound, so no later pick is refused by 10. Nothing here speaks of a pick by itself: it is one claim about the list.
use Rattle.std.specs.Prelude.{ℕ, ◌≡◌, List, [], ◌∷◌, map, Ok}
use Rattle.values.specs.Lists.{sum}
use Rattle.nets.specs.declared.Pick.{Pick}
use Rattle.nets.specs.declared.Net.{Net}
use Rattle.nets.specs.declared.Stepped.{Stepped}
use Rattle.nets.specs.View.{view}
use Rattle.nets.specs.Answers.{said_of, added_said, taken_said, StepIs}
use Rattle.files.specs.declared.Loaded.{Loaded}
use Rattle.files.specs.FileDemand3.{FileDemand3}
use Rattle.files.specs.Engine.{LoadIs}

-- ── one call of `step` after another ──

-- each call met its contract, and got exactly the net that the call before it gave back
abbrev pub Chain : Net → List Pick → List Stepped → Type 0
Chain net [] [] = Unit {0}
Chain net [] (r ∷ rs) = ⊥
Chain net (p ∷ ps) [] = ⊥
Chain net (p ∷ ps) (r ∷ rs) = StepIs net p r × Chain r.net ps rs

-- the net that the last call gave back; for no calls the one they would begin with
abbrev pub last_net : Net → List Stepped → Net
last_net net [] = net
last_net net (r ∷ rs) = last_net r.net rs

-- the sums of the counts in the answers returned
abbrev pub added_reported : List Stepped → ℕ
added_reported rs = sum (map (λ (r : Stepped). added_said (said_of r.answer)) rs)

abbrev pub taken_reported : List Stepped → ℕ
taken_reported rs = sum (map (λ (r : Stepped). taken_said (said_of r.answer)) rs)

-- ── demand 3 of what the engine returned ──

-- standing, fit, names and what is untouched are read off the last net returned, and reported counts off the answers returned; loaded, added, taken
-- and acted are of the file and the picks
abbrev pub EngineDemand3 : List ℕ → Loaded → List Pick → List Stepped → Type 0
EngineDemand3 file l ps rs = FileDemand3 file ps (view (last_net l.net rs)) (added_reported rs) (taken_reported rs)

-- the whole claim over the engine: every file that it accepts, every list of picks, every list of answers to them
abbrev pub EveryEngineRun : Type 0
EveryEngineRun =
    (file : List ℕ) (l : Loaded) → LoadIs file l → l.verdict ≡ Ok tt →
    (ps : List Pick) (rs : List Stepped) → Chain l.net ps rs → EngineDemand3 file l ps rs
