-- What the loop over picks keeps: what the picks behind left, and their answers. Assumes nothing.
use Prim.Native.Nat.{ℕ, ◌≤◌}
use mathlib.Core.Path.{◌≡◌}
use mathlib.Core.Bool.{Bool}
use mathlib.Core.List.{List}
use lib.ListN.{length, take}
use Rattle.nets.specs.declared.Net.{Net}
use Rattle.nets.specs.declared.Saved.{Saved}
use Rattle.nets.specs.declared.Table.{Table}
use Rattle.nets.specs.declared.Thread.{Thread}
use Rattle.nets.specs.Accounts.{answers}
use Rattle.nets.specs.View.{view}
use Rattle.step_bytes.specs.PickBytes.{picks_in}
use Rattle.step_bytes.proofs.AnswerLaws.{put_so_far}
use Rattle.step_left.specs.Carried.{Reached, CarriedIs}

-- the lengths of arrays that are stored to on the way, and what no pick changes
pub record Sized (net₀ net : Net) : Type 0 where
  pub aliases : length net.aliases ≡ 56
  pub tables : length net.tables ≡ 8
  pub threads : length net.threads ≡ 8
  pub saved : length net.saved ≡ 64
  pub same_aliases : net.aliases ≡ net₀.aliases
  pub same_alias_count : net.aliascount ≡ net₀.aliascount
  pub same_nodes : net.nodes ≡ net₀.nodes
  pub same_node_count : net.nodecount ≡ net₀.nodecount

-- the net with other tables, with other threads, and with other saved bindings
abbrev pub with_tables : Net → List Table → Net
with_tables n ts = record { aliases = n.aliases; aliascount = n.aliascount; tables = ts; tablecount = n.tablecount; nodes = n.nodes; nodecount = n.nodecount; threads = n.threads; threadcount = n.threadcount; saved = n.saved }

abbrev pub with_threads : Net → List Thread → Net
with_threads n hs = record { aliases = n.aliases; aliascount = n.aliascount; tables = n.tables; tablecount = n.tablecount; nodes = n.nodes; nodecount = n.nodecount; threads = hs; threadcount = n.threadcount; saved = n.saved }

abbrev pub with_saved : Net → List Saved → Net
with_saved n given = record { aliases = n.aliases; aliascount = n.aliascount; tables = n.tables; tablecount = n.tablecount; nodes = n.nodes; nodecount = n.nodecount; threads = n.threads; threadcount = n.threadcount; saved = given }

-- `i` picks are behind: what they left, and their answers in the buffer if there is room for all
pub record Behind (picks lent : List ℕ) (count : ℕ) (room : Bool) (from : Net) (out : List ℕ) (r : Reached) (i : ℕ) : Type 0 where
  pub carried : CarriedIs from (take i (picks_in picks)) r
  pub put : out ≡ put_so_far room i (answers (view from) (picks_in picks)) lent
  pub upto : i ≤ count
  pub size : length out ≡ length lent
  pub sized : Sized from r.net
