-- What is written is read again: the statement.
use Rattle.std.specs.Prelude.{ℕ, ◌≡◌, List, [], T, take, None, Ok}
use Rattle.std.specs.Result.{result_err}
use Rattle.nets.specs.declared.Net as Code
use Rattle.nets.specs.Nets.{Table, Net}
use Rattle.nets.specs.Sound.{sound}
use Rattle.nets.specs.View.{view}
use Rattle.files.specs.declared.Loaded.{Loaded}
use Rattle.files.specs.Engine.{own_picks, LoadIs, WriteIs}
use Rattle.files.specs.Loading.{accepted, load_bytes}
use Rattle.files.specs.Writing.{written}

-- a net of these tables and nothing else
abbrev pub tables_only : List Table → Net
tables_only ts = record { aliases = []; tables = ts; nodes = []; threads = [] }

-- the file written of any sound list of tables is accepted, with exactly these tables and no picks
abbrev pub WrittenIsRead : Type 0
WrittenIsRead = (ts : List Table) → T (sound (tables_only ts)) → load_bytes (written ts) ≡ accepted (tables_only ts) []

-- ── of the calls ──

-- what was loaded is the net's tables, with their columns, rows and order, and nothing else
pub record ReadBack (net : Code.Net) (l : Loaded) : Type 0 where
  pub fault : result_err l.verdict ≡ None
  pub tables : view l.net ≡ tables_only (view net).tables
  pub picks : own_picks l ≡ []

-- `write` answered with a length: `load` of so many bytes from the buffer's start gives the tables back
abbrev pub EveryWriteIsRead : Type 0
EveryWriteIsRead =
    (net : Code.Net) (before after : List ℕ) (n : ℕ) → WriteIs net before after (Ok n) → (l : Loaded) → LoadIs (take n after) l → ReadBack net l
