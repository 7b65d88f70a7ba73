-- `load_groups::ending::reach_end` meets its contract: the end is reached, or the record that is left has a fault.
use Rattle.load_walk.proofs.LeftLaws.{at-end, left_stops}
use Rattle.load_groups.proofs.ending.reach_end.Goals as goal

pub returns-then-file-place : goal.returns-then-file-place
returns-then-file-place c = search at-end

pub returns : goal.returns
returns c = search left_stops
