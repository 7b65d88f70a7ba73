-- Demand 3 of a file: what holds after any list of picks from what loading accepted. One statement, with named parts.
use Rattle.std.specs.Prelude.{ℕ, ◌+◌, ◌≡◌, Bool, false, List, map, T, length}
use Rattle.values.specs.declared.Site.{Site}
use Rattle.values.specs.Lists.{sum}
use Rattle.std.specs.List.{list_all}
use Rattle.rows.specs.Relations.{Row}
use Rattle.nets.specs.declared.Pick.{Pick}
use Rattle.nets.specs.Nets.{Net}
use Rattle.nets.specs.Tables.{table_at, rows_fit, distinct}
use Rattle.nets.specs.Sound.{sound}
use Rattle.nets.specs.Accounts.{after, reported_added, reported_taken, Posting, post, times, added, taken, acted, standing}
use Rattle.nets.specs.Demand3.{differing, covers, accounts}
use Rattle.files.specs.Loading.{load_bytes, is_accepted, net_loaded}
use Rattle.files.specs.FileTables.{file_table, loaded_count}

-- the net that a file gives
abbrev pub file_net : List ℕ → Net
file_net file = net_loaded (load_bytes file)

-- the accounts of a file and a list of picks: each step is read off the net that the rules give for the picks before it
abbrev pub file_added : List ℕ → List Pick → List Posting
file_added file ps = added (file_net file) ps

abbrev pub file_taken : List ℕ → List Pick → List Posting
file_taken file ps = taken (file_net file) ps

abbrev pub file_acted : List ℕ → List Pick → Site → ℕ → Bool
file_acted file ps s n = acted (file_net file) ps s n

-- an accepted file's net is sound, and each of its tables has its table record's columns and its row records' rows in file order
pub record FileLoaded (file : List ℕ) : Type 0 where
  pub is_sound : T (sound (file_net file))
  pub tables : (s : Site) (n : ℕ) → table_at s n (file_net file).tables ≡ file_table file s n

-- of a net found after the picks, and of the sums of the counts reported for them
pub record FileDemand3 (file : List ℕ) (ps : List Pick) (net : Net) (added_reported taken_reported : ℕ) : Type 0 where
  -- the net is sound, so no pick from it is refused by 10
  pub is_sound : T (sound net)
  -- each row fits its table's columns
  pub fit : T (list_all rows_fit net.tables)
  -- no site has two tables of one name
  pub names : T (distinct net.tables)
  -- standing + taken = loaded + added, for each site, name and row
  pub balance :
      (s : Site) (n : ℕ) (r : Row) →
      standing net s n r + times (post s n r) (file_taken file ps) ≡ loaded_count file s n r + times (post s n r) (file_added file ps)
  -- where no done step acted, the file's table stands, or there is none
  pub untouched : (s : Site) (n : ℕ) → file_acted file ps s n ≡ false → table_at s n net.tables ≡ file_table file s n
  -- the counts reported sum to exactly all rows so added, and so taken
  pub added_all : added_reported ≡ length (file_added file ps)
  pub taken_all : taken_reported ≡ length (file_taken file ps)
  -- and to the accounts summed over all sites, names and rows
  pub added_accounts : added_reported ≡ accounts (file_added file ps)
  pub taken_accounts : taken_reported ≡ accounts (file_taken file ps)
  -- also over any other keys that differ and leave out none
  pub added_sum :
      (keys : List Posting) → T (differing keys) → T (covers keys (file_added file ps)) →
      added_reported ≡ sum (map (λ k. times k (file_added file ps)) keys)
  pub taken_sum :
      (keys : List Posting) → T (differing keys) → T (covers keys (file_taken file ps)) →
      taken_reported ≡ sum (map (λ k. times k (file_taken file ps)) keys)

-- the whole claim over the rules: every file that loading accepts, its own picks or any others
abbrev pub EveryFile : Type 0
EveryFile =
    (file : List ℕ) → T (is_accepted (load_bytes file)) → (ps : List Pick) →
    FileDemand3 file ps (after (file_net file) ps) (reported_added (file_net file) ps) (reported_taken (file_net file) ps)
