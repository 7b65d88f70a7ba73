-- What the call for a table's page comes to.
use Rattle.std.specs.Prelude.{ℕ, List, get_or}
use Rattle.values.specs.declared.Site.{Site}
use Rattle.nets.specs.declared.Pick.{Pick}
use Rattle.nets.specs.Nets.{Net}
use Rattle.nets.specs.Accounts.{after}
use Rattle.page_rules.specs.Pages.{PageOutcome, no_page, a_page, page}
use Rattle.call_rules.specs.Replies.{Called, refusing, putting}

-- with 22 the place is the length that is needed; 10 and 14 have none, which is 0
abbrev pub page_reply : PageOutcome → Called
page_reply (no_page n vs) = refusing n (get_or vs 0 0)
page_reply (a_page bs) = putting bs

-- the page of the table at a site, by its name, once all picks are carried out
unfoldable pub paged : Site → ℕ → Net → List Pick → List ℕ → Called
paged site name net ps buffer = page_reply (page (after net ps) site name buffer)
