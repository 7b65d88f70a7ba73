-- The net that picks leave, put together from what they change. Only the code speaks of it.
use Rattle.nets.specs.declared.Net.{Net}
use Rattle.step_left.specs.declared.Carried.{Carried}

-- a net with other tables and threads, and what the entries of their loops hold
abbrev pub left_by : Net → Carried → Net
left_by net g =
    record {
      aliases = net.aliases;
      aliascount = net.aliascount;
      tables = g.tables;
      tablecount = g.tablecount;
      nodes = net.nodes;
      nodecount = net.nodecount;
      threads = g.threads;
      threadcount = g.threadcount;
      saved = g.saved;
    }
