-- What the functions inside a call require and give back. Only the code speaks of it: the rule is `called`.
use Rattle.std.specs.Prelude.{ℕ, ◌<◌, ◌≡◌, List, [], T, get_or, Result, Ok, Err, IfErr}
use Rattle.nets.specs.declared.Pick.{Pick}
use Rattle.nets.specs.declared.Frame.{Frame}
use Rattle.nets.specs.declared.Thread.{Thread}
use Rattle.nets.specs.declared.Net as Code
use Rattle.nets.specs.Nets.{Entry, Bindings, Net}
use Rattle.nets.specs.Nets as M
use Rattle.nets.specs.Sound.{sound}
use Rattle.nets.specs.View.{no_thread, entry_of, thread_of, view}
use Rattle.step_thread.specs.ThreadContracts.{Stacked}
use Rattle.call_rules.specs.declared.Refused.{Refused}
use Rattle.call_rules.specs.declared.Refused.TheVariants.{File, OddPicks, Short, Unsound, NoTable, ShortPage}
use Rattle.step_bytes.specs.PickBytes.{picks_in}
use Rattle.call_rules.specs.Replies.{Called, refusing}
use Rattle.call_rules.specs.Calls.{odd_picks_number, called, Gives}

-- ── what a caller is told ──

-- number and place of each refusal
abbrev pub number_of : Refused → ℕ
number_of (File f) = f.number
number_of OddPicks = odd_picks_number
number_of (Short n) = 21
number_of Unsound = 10
number_of NoTable = 14
number_of (ShortPage n) = 22

abbrev pub place_of : Refused → ℕ
place_of (File f) = f.place
place_of OddPicks = 0
place_of (Short n) = n
place_of Unsound = 0
place_of NoTable = 0
place_of (ShortPage n) = n

-- 0 for done, and how many bytes were put
abbrev pub number_told : Result ℕ Refused → ℕ
number_told (Ok n) = 0
number_told (Err why) = number_of why

abbrev pub place_told : Result ℕ Refused → ℕ
place_told (Ok n) = n
place_told (Err why) = place_of why

-- the buffer too is as the rule has it; on Err the number is no 0, which would say done, and every byte is as it was
pub record Told (c : Called) (before after : List ℕ) (r : Result ℕ Refused) : Type 0 where
  pub gives : Gives c before after (number_told r) (place_told r)
  pub refused : IfErr r (λ why. (0 < number_of why) × (after ≡ before))

-- ── what a call begins with ──

-- by what is said of file and picks: refused, or what is made of the net
abbrev pub opening_gives : (Code.Net → Called) → Result Code.Net Refused → Called
opening_gives made (Ok net) = made net
opening_gives made (Err why) = refusing (number_of why) (place_of why)

-- whatever a call makes of net and picks
pub record OpenIs (file picks : List ℕ) (r : Result Code.Net Refused) : Type 0 where
  pub called : (made : Net → List Pick → Called) → called made file picks ≡ opening_gives (λ (net : Code.Net). made (view net) (picks_in picks)) r
  pub is_sound : (net : Code.Net) → r ≡ Ok net → T (sound (view net))
  pub refused : IfErr r (λ why. 0 < number_of why)

-- ── threads ──

-- each thread in use has one to eight entries
abbrev pub AllStacked : ℕ → List Thread → Type 0
AllStacked n ts = (i : ℕ) → i < n → Stacked (get_or ts i no_thread)

-- an entry and a thread without what entries hold, which has records of its own
abbrev nothing_held : Bindings
nothing_held = record { vars = []; relations = [] }

abbrev pub entry_alone : Frame → Entry
entry_alone f = entry_of nothing_held f

abbrev pub thread_alone : Thread → M.Thread
thread_alone t = thread_of (λ (j : ℕ). nothing_held) t
