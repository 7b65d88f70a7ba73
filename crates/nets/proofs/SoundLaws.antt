-- The clauses of soundness by name. Assumes nothing.
use lib.Dec.{T, leb}
use lib.ListN.{length}
use Rattle.std.specs.List.{list_all}
use Rattle.values.proofs.Bools.{and_l, and_r, and_in}
use Rattle.nets.specs.Nets.{Net}
use Rattle.nets.specs.Tables.{rows_fit, distinct}
use Rattle.nets.specs.Sound.{table_ok, alias_ok, aliases_differ, nodes_ok, thread_ok, sound}

pub record Clauses (net : Net) : Type 0 where
  pub few_tables : T (leb (length net.tables) 8)
  pub few_nodes : T (leb (length net.nodes) 128)
  pub few_threads : T (leb (length net.threads) 8)
  pub tables : T (list_all table_ok net.tables)
  pub fit : T (list_all rows_fit net.tables)
  pub names : T (distinct net.tables)
  pub aliases : T (list_all alias_ok net.aliases)
  pub differ : T (aliases_differ net.aliases)
  pub nodes : T (nodes_ok (length net.nodes) 0 net.nodes)
  pub threads : T (list_all (thread_ok net.nodes) net.threads)

pub clauses : (net : Net) → T (sound net) → Clauses net
unfolding sound
clauses net h =
    record {
      few_tables = search (and_l, and_r) depth 12;
      few_nodes = search (and_l, and_r) depth 12;
      few_threads = search (and_l, and_r) depth 12;
      tables = search (and_l, and_r) depth 12;
      fit = search (and_l, and_r) depth 12;
      names = search (and_l, and_r) depth 12;
      aliases = search (and_l, and_r) depth 12;
      differ = search (and_l, and_r) depth 12;
      nodes = search (and_l, and_r) depth 12;
      threads = search (and_l, and_r) depth 12;
    }

pub whole : (net : Net) → Clauses net → T (sound net)
unfolding sound
whole net s = search and_in depth 12
