-- The contract of `page`: the answer, and every byte of the lent buffer. And what follows from it: the theorem of the page.
use Rattle.std.specs.Prelude.{ℕ, ◌+◌, ◌*◌, ◌≤◌, ◌≡◌, List, [], ◌∷◌, T, length, Some, Result, Ok, Err}
use Rattle.values.specs.declared.Site.{Site}
use Rattle.nets.specs.declared.Net.{Net}
use Rattle.nets.specs.Nets.{Table}
use Rattle.nets.specs.Tables.{table_at}
use Rattle.nets.specs.Sound.{sound}
use Rattle.nets.specs.View.{view}
use Rattle.page_rules.specs.Pages.{page, PageAnswer, page_refused, page_length, page_answer, buffer_after}
use Rattle.page_rules.specs.Readable.{ReadsAs}
use Rattle.page.specs.declared.NotPaged.{NotPaged}
use Rattle.page.specs.declared.NotPaged.TheVariants.{Unsound, NoTable, Short}

-- the paper's number of each refusal and its values, or the length
abbrev pub answer_of : Result ℕ NotPaged → PageAnswer
answer_of (Ok n) = page_length n
answer_of (Err Unsound) = page_refused 10 []
answer_of (Err NoTable) = page_refused 14 []
answer_of (Err (Short n)) = page_refused 22 (n ∷ [])

pub record PageIs (net : Net) (site : Site) (name : ℕ) (before after : List ℕ) (r : Result ℕ NotPaged) : Type 0 where
  pub answer : answer_of r ≡ page_answer (page (view net) site name before)
  pub buffer : after ≡ buffer_after before (page (view net) site name before)

-- ── the theorem of the page ──

-- the table that was asked for is there, the length is that of a line for each row and one more, and the numbers on the page are the table's
pub record Reads (net : Net) (site : Site) (name : ℕ) (after : List ℕ) (k : ℕ) : Type 0 where
  pub table : Table
  pub found : table_at site name (view net).tables ≡ Some table
  pub long : k ≡ (length table.content.rows + 1) * 53
  pub reads : ReadsAs after table.content

-- so it is whenever `page` answered with a length
abbrev pub PageReads : Type 0
PageReads = (net : Net) (site : Site) (name : ℕ) (before after : List ℕ) (k : ℕ) → PageIs net site name before after (Ok k) → Reads net site name after k

-- and `page` does so for each table of every sound net, where the buffer has that length or more
abbrev pub PageGiven : Type 0
PageGiven =
    (net : Net) (site : Site) (name : ℕ) (before after : List ℕ) (r : Result ℕ NotPaged) (t : Table) → PageIs net site name before after r
    → T (sound (view net)) → table_at site name (view net).tables ≡ Some t → (length t.content.rows + 1) * 53 ≤ length before
    → r ≡ Ok ((length t.content.rows + 1) * 53)
