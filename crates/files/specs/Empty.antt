-- The one empty net of the code: all counts 0, and every array filled with one blank element.
use Rattle.std.specs.Prelude.{false, replicate, None}
use Rattle.values.specs.declared.Operand.TheVariants.{Absent}
use Rattle.rows.specs.declared.Test.TheVariants.{Always}
use Rattle.rows.specs.declared.Function.TheVariants.{Unused}
use Rattle.rows.specs.declared.Row.{Row}
use Rattle.rows.specs.declared.Relation.{Relation}
use Rattle.rows.specs.declared.Operands.{Operands}
use Rattle.rows.specs.View.{no_cell, no_field, no_slot}
use Rattle.nets.specs.declared.Table.{Table}
use Rattle.nets.specs.declared.Node.{Node}
use Rattle.nets.specs.declared.Entry.TheVariants.{Run}
use Rattle.nets.specs.declared.Frame.{Frame}
use Rattle.nets.specs.View.{TableVariable}
use Rattle.nets.specs.declared.Saved.{Saved}
use Rattle.nets.specs.declared.Thread.{Thread}
use Rattle.nets.specs.declared.Net.{Net}
use Rattle.nets.specs.View.{no_site, no_alias}

abbrev pub blank_row : Row
blank_row = record { cells = replicate 4 no_cell }

abbrev pub blank_relation : Relation
blank_relation = record { columns = 0; kinds = replicate 4 0; rows = replicate 16 blank_row; count = 0 }

abbrev pub blank_table : Table
blank_table = record { site = no_site; name = 0; content = blank_relation }

abbrev pub blank_operands : Operands
blank_operands = record { fields = replicate 4 no_field; count = 0 }

abbrev pub blank_node : Node
blank_node =
    record {
      kind = 0;
      next = 0;
      body = 0;
      name = 0;
      bound = 0;
      read = 0;
      function = Unused;
      column = 0;
      columns = 0;
      kinds = replicate 4 0;
      locality = Absent;
      selector = record { template = blank_operands; test = Always; left = Absent; right = Absent };
      tuple = blank_operands;
      result = Absent;
    }

abbrev pub blank_frame : Frame
blank_frame = record { entry = Run 0; visit = replicate 16 false }

abbrev pub blank_variable : TableVariable
blank_variable = None

abbrev pub blank_thread : Thread
blank_thread = record { site = no_site; vars = replicate 16 no_slot; relations = replicate 2 blank_variable; stack = replicate 8 blank_frame; depth = 0 }

abbrev pub blank_saved : Saved
blank_saved = record { vars = replicate 16 no_slot; other = blank_variable }

unfoldable pub blank_net : Net
blank_net =
    record {
      aliases = replicate 56 no_alias;
      aliascount = 0;
      tables = replicate 8 blank_table;
      tablecount = 0;
      nodes = replicate 128 blank_node;
      nodecount = 0;
      threads = replicate 8 blank_thread;
      threadcount = 0;
      saved = replicate 64 blank_saved;
    }
