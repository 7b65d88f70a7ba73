-- The contracts of the calls: the answer, and every byte of the lent buffer. A call has a file, most have picks of two bytes each, and a buffer.
use Rattle.std.specs.Prelude.{ℕ, ◌%◌, ◌≡◌, cond, List, ◌++◌, eqb, length, drop}
use Rattle.values.specs.declared.Site.{Site}
use Rattle.nets.specs.declared.Pick.{Pick}
use Rattle.nets.specs.Nets.{Net}
use Rattle.files.specs.Loading.{LoadAnswer, rejected, accepted, load_bytes}
use Rattle.step_bytes.specs.PickBytes.{picks_in}
use Rattle.step_bytes.specs.AnswerBytes.{answers_put}
use Rattle.call_rules.specs.Layouts.{tables_put, threads_put, picks_put}
use Rattle.call_rules.specs.Traces.{traced}
use Rattle.call_rules.specs.TablePages.{paged}
use Rattle.call_rules.specs.Replies.{Called, refusing, putting, if_room}

-- picks of an odd length; numbers that only calls have begin at 100, so that they never meet a number of the papers
abbrev pub odd_picks_number : ℕ
odd_picks_number = 100

-- a refused file, or what is made of its net and its own picks
abbrev pub on_loaded : (Net → List Pick → Called) → LoadAnswer → Called
on_loaded made (rejected n i) = refusing n i
on_loaded made (accepted net own) = made net own

-- what is made of the file's net and the picks handed in; the file's own picks are no matter
unfoldable pub called : (Net → List Pick → Called) → List ℕ → List ℕ → Called
called made file picks =
    cond (eqb (length picks % 2) 0) (on_loaded (λ (net : Net). λ (own : List Pick). made net (picks_in picks)) (load_bytes file)) (refusing odd_picks_number 0)

-- ── what the caller gets ──

-- 0 for done
abbrev pub number_in : Called → ℕ
number_in (refusing n i) = n
number_in (putting bs) = 0

-- the place of a fault, the length that is needed, or the number of bytes put
abbrev pub place_in : Called → ℕ
place_in (refusing n i) = i
place_in (putting bs) = length bs

-- every byte of the buffer afterwards
abbrev pub buffer_in : List ℕ → Called → List ℕ
buffer_in buffer (refusing n i) = buffer
buffer_in buffer (putting bs) = bs ++ drop (length bs) buffer

pub record Gives (c : Called) (before after : List ℕ) (n i : ℕ) : Type 0 where
  pub number : n ≡ number_in c
  pub place : i ≡ place_in c
  pub buffer : after ≡ buffer_in before c

-- ── the calls ──

abbrev pub TablesIs : (file picks before after : List ℕ) (number place : ℕ) → Type 0
TablesIs file picks before after number place = Gives (called (λ net ps. if_room (tables_put net ps) before) file picks) before after number place

abbrev pub AnswersIs : (file picks before after : List ℕ) (number place : ℕ) → Type 0
AnswersIs file picks before after number place = Gives (called (λ net ps. if_room (answers_put net ps) before) file picks) before after number place

abbrev pub ThreadsIs : (file picks before after : List ℕ) (number place : ℕ) → Type 0
ThreadsIs file picks before after number place = Gives (called (λ net ps. if_room (threads_put net ps) before) file picks) before after number place

-- from the net after the first `from` picks on
abbrev pub TraceIs : (file picks : List ℕ) (from : ℕ) (before after : List ℕ) (number place : ℕ) → Type 0
TraceIs file picks from before after number place = Gives (called (λ net ps. traced from net ps before) file picks) before after number place

-- the page of one table after all picks
abbrev pub PageAfterIs : (file picks : List ℕ) (site : Site) (name : ℕ) (before after : List ℕ) (number place : ℕ) → Type 0
PageAfterIs file picks site name before after number place = Gives (called (λ net ps. paged site name net ps before) file picks) before after number place

-- the file's own picks
abbrev pub PicksIs : (file before after : List ℕ) (number place : ℕ) → Type 0
PicksIs file before after number place = Gives (on_loaded (λ net own. if_room (picks_put own) before) (load_bytes file)) before after number place
