-- What a file's length alone says of it, checks 1 and 2, and what reading its records comes to. Only the code speaks of it: the rule is `load_bytes`.
use Rattle.std.specs.Prelude.{ℕ, ◌≤◌, ◌≡◌, List, length}
use Rattle.nets.specs.declared.Pick.{Pick}
use Rattle.nets.specs.declared.Saved.{Saved}
use Rattle.nets.specs.declared.Net as Code
use Rattle.nets.specs.Nets.{Net}
use Rattle.record_bytes.specs.Decoding.{records_in}
use Rattle.files.specs.declared.Fault.{Fault}
use Rattle.files.specs.Loading.{Reading, finished, rejected, load, load_bytes}
use Rattle.load_walk.specs.Walking.{Whole}
use Rattle.files.specs.Engine.{first_picks}
use Rattle.load.specs.declared.Records.{Records}

-- checks 1 and 2 pass for every file of `n` bytes, so `n` is at most 256 * 104
pub record LengthPasses (n : ℕ) : Type 0 where
  pub whole : (file : List ℕ) → length file ≡ n → Whole file
  pub passed : (file : List ℕ) → length file ≡ n → load_bytes file ≡ load (records_in file)
  pub short : n ≤ 26624

-- every file of `n` bytes is refused with this fault
pub record LengthFails (n : ℕ) (f : Fault) : Type 0 where
  pub refused : (file : List ℕ) → length file ≡ n → load_bytes file ≡ rejected f.number f.place

-- all records were read, and gave this net and these picks
pub record Finishes (r : Reading) (net : Net) (picks : List Pick) : Type 0 where
  pub group : ℕ
  pub all : r ≡ finished (record { net = net; picks = picks; group = group })

-- ── what the records gave ──

-- the net that they make, whatever is saved for loops: a thread that starts has met none
abbrev pub net_read : List Saved → Records → Code.Net
net_read saved r = record { aliases = r.aliases.items; aliascount = r.aliases.count; tables = r.tables.items; tablecount = r.tables.count; nodes = r.nodes.items; nodecount = r.nodes.count; threads = r.threads.items; threadcount = r.threads.count; saved = saved }

abbrev pub picks_read : Records → List Pick
picks_read r = first_picks r.picks.count r.picks.items
