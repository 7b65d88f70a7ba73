-- `load::length_fault` meets its contract: check 1, then check 2.
use Rattle.load.proofs.LoadCall.{broken, too_many, whole-records}
use Rattle.load.proofs.length_fault.Goals as goal

pub returns-then-length-ne0 : goal.returns-then-length-ne0
returns-then-length-ne0 c = search broken

pub returns-then-count-gt256 : goal.returns-then-count-gt256
returns-then-count-gt256 c = search too_many

pub returns : goal.returns
returns c = search whole-records
