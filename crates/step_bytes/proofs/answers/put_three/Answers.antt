-- `step_bytes::answers::put_three` meets its contract: three adjacent parts fill the buffer. Assumes nothing.
use Rattle.step_bytes.proofs.AnswerLaws.{three_numbers}
use Rattle.step_bytes.proofs.answers.put_three.Goals as goal

pub returns : goal.returns
returns c = search three_numbers
