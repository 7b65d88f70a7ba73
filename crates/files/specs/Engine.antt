-- The contracts of loading and writing: what the calls return, by the rules.
use Rattle.std.specs.Prelude.{ℕ, ◌≡◌, List, T, Result, Ok, Err}
use Rattle.std.specs.Result.{is_err, result_err}
use Rattle.values.specs.Lists.{firsts}
use Rattle.nets.specs.declared.Pick.{Pick}
use Rattle.nets.specs.declared.Net.{Net}
use Rattle.nets.specs.View.{no_pick, view}
use Rattle.files.specs.declared.Loaded.{Loaded}
use Rattle.files.specs.declared.NotWritten.{NotWritten}
use Rattle.files.specs.declared.NotWritten.TheVariants.{Unsound, Short}
use Rattle.files.specs.Loading.{load_bytes, fault_of, net_loaded, picks_loaded}
use Rattle.files.specs.Writing as W
use Rattle.files.specs.Writing.{WriteSaid, writing, write, buffer_after, written_answer}
use Rattle.files.specs.Empty.{blank_net}

-- ── loading ──

-- as many picks as the count says
abbrev pub first_picks : ℕ → List Pick → List Pick
first_picks n ps = firsts (λ (p : Pick). p) no_pick n ps

abbrev pub own_picks : Loaded → List Pick
own_picks l = first_picks l.pickcount l.picks

-- the verdict, the net and the picks are the rule's; after a fault the net is the one empty net
pub record LoadIs (file : List ℕ) (l : Loaded) : Type 0 where
  pub fault : result_err l.verdict ≡ fault_of (load_bytes file)
  pub net : view l.net ≡ net_loaded (load_bytes file)
  pub picks : own_picks l ≡ picks_loaded (load_bytes file)
  pub empty : T (is_err l.verdict) → l.net ≡ blank_net

-- ── writing ──

-- the paper's number of each refusal, or the length
abbrev pub said_written : Result ℕ NotWritten → WriteSaid
said_written (Ok n) = writing n
said_written (Err Unsound) = W.refusing 10
said_written (Err Short) = W.refusing 21

-- the answer is the rule's, and so is every byte of the buffer
pub record WriteIs (net : Net) (before after : List ℕ) (r : Result ℕ NotWritten) : Type 0 where
  pub answer : said_written r ≡ written_answer (write (view net) before)
  pub buffer : after ≡ buffer_after before (write (view net) before)
