-- Demand 3 over the model: what holds after any list of picks from a sound net. One statement, with named parts. The net's own tables
-- stand for the loaded ones, and nets and answers are those of the rules.
use Rattle.std.specs.Prelude.{ℕ, ◌+◌, ◌≡◌, Bool, true, false, not, ◌&&◌, List, [], ◌∷◌, map, T, length}
use Rattle.values.specs.declared.Site.{Site}
use Rattle.values.specs.Lists.{keep, sum}
use Rattle.std.specs.List.{list_all, list_any}
use Rattle.rows.specs.Relations.{Row}
use Rattle.nets.specs.declared.Pick.{Pick}
use Rattle.nets.specs.Nets.{Net}
use Rattle.nets.specs.Tables.{table_at, rows_fit, distinct}
use Rattle.nets.specs.Sound.{sound}
use Rattle.nets.specs.Accounts.{after, reported_added, reported_taken, Posting, post, same_posting, times, added, taken, acted, standing}

-- postings of which no two are one
abbrev pub differing : List Posting → Bool
differing [] = true
differing (p ∷ ps) = not (list_any (same_posting p) ps) && differing ps

-- every posting of a ledger is among the keys
abbrev pub covers : List Posting → List Posting → Bool
covers keys ledger = list_all (λ p. list_any (λ k. same_posting k p) keys) ledger

-- the postings of a ledger, each once: keys that differ and cover it
abbrev pub keys_of : List Posting → List Posting
keys_of [] = []
keys_of (p ∷ ps) = keep (not (list_any (same_posting p) (keys_of ps))) p (keys_of ps)

-- the accounts summed over all sites, names and rows that have any
abbrev pub accounts : List Posting → ℕ
accounts ledger = sum (map (λ k. times k ledger) (keys_of ledger))

pub record Demand3 (net : Net) (ps : List Pick) : Type 0 where
  -- each row fits its table's columns
  pub fit : T (list_all rows_fit (after net ps).tables)
  -- no site has two tables of one name
  pub names : T (distinct (after net ps).tables)
  -- standing + taken = loaded + added, for each site, name and row
  pub balance :
      (s : Site) (n : ℕ) (r : Row) →
      standing (after net ps) s n r + times (post s n r) (taken net ps) ≡ standing net s n r + times (post s n r) (added net ps)
  -- where no done step acted, the table stands as at first, or there is none
  pub untouched : (s : Site) (n : ℕ) → acted net ps s n ≡ false → table_at s n (after net ps).tables ≡ table_at s n net.tables
  -- the counts reported sum to exactly all rows so added, and so taken
  pub added_all : reported_added net ps ≡ length (added net ps)
  pub taken_all : reported_taken net ps ≡ length (taken net ps)
  -- and to the accounts summed over all sites, names and rows
  pub added_accounts : reported_added net ps ≡ accounts (added net ps)
  pub taken_accounts : reported_taken net ps ≡ accounts (taken net ps)
  -- also over any other keys that differ and leave out none
  pub added_sum :
      (keys : List Posting) → T (differing keys) → T (covers keys (added net ps)) →
      reported_added net ps ≡ sum (map (λ k. times k (added net ps)) keys)
  pub taken_sum :
      (keys : List Posting) → T (differing keys) → T (covers keys (taken net ps)) →
      reported_taken net ps ≡ sum (map (λ k. times k (taken net ps)) keys)

-- the whole claim
abbrev pub EveryRun : Type 0
EveryRun = (net : Net) → T (sound net) → (ps : List Pick) → Demand3 net ps
