-- What the call for a page gives back reads as the table that all picks leave. Whatever the file and the picks.
use Rattle.std.specs.Prelude.{ℕ, ◌+◌, ◌*◌, ◌%◌, ◌≤◌, ◌≡◌, List, length, Some}
use Rattle.values.specs.declared.Site.{Site}
use Rattle.nets.specs.declared.Pick.{Pick}
use Rattle.nets.specs.Nets.{Table, Net}
use Rattle.nets.specs.Tables.{table_at}
use Rattle.nets.specs.Accounts as A
use Rattle.files.specs.Loading.{accepted, load_bytes}
use Rattle.step_bytes.specs.PickBytes.{picks_in}
use Rattle.page_rules.specs.Readable.{ReadsAs}
use Rattle.call_rules.specs.Calls.{PageAfterIs}

-- the file is accepted, the table stands after all picks, and the numbers on the page are the table's
pub record ReadsAfter (file picks : List ℕ) (site : Site) (name : ℕ) (after : List ℕ) (place : ℕ) : Type 0 where
  pub net : Net
  pub own : List Pick
  pub loaded : load_bytes file ≡ accepted net own
  pub table : Table
  pub found : table_at site name (A.after net (picks_in picks)).tables ≡ Some table
  pub long : place ≡ (length table.content.rows + 1) * 53
  pub reads : ReadsAs after table.content

-- so it is whenever the number is 0
abbrev pub PageAfterReads : Type 0
PageAfterReads =
    (file picks : List ℕ) (site : Site) (name : ℕ) (before after : List ℕ) (place : ℕ) → PageAfterIs file picks site name before after 0 place
    → ReadsAfter file picks site name after place

-- and it is 0 for each table that stands after all picks of an accepted file, where the buffer has that length or more
abbrev pub PageAfterGiven : Type 0
PageAfterGiven =
    (file picks : List ℕ) (site : Site) (name : ℕ) (before after : List ℕ) (number place : ℕ) (net : Net) (own : List Pick) (t : Table) → PageAfterIs file picks site name before after number place
    → length picks % 2 ≡ 0 → load_bytes file ≡ accepted net own → table_at site name (A.after net (picks_in picks)).tables ≡ Some t → (length t.content.rows + 1) * 53 ≤ length before
    → number ≡ 0
