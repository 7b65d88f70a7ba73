-- What a pass over the rows does for a step: of a select, of an update, of any other.
use Rattle.std.specs.Prelude.{Bool, true, false}
use Rattle.row_change.specs.declared.Pass.{Pass}
use Rattle.row_change.specs.declared.Pass.TheVariants.{Mark, Update, Select}

abbrev pub pass_by : (select update : Bool) → Pass
pass_by true update = Select
pass_by false true = Update
pass_by false false = Mark
