use Rattle.scan_meaning.proofs.Arranged.{some_answer}
use Rattle.scan_meaning.proofs.some_answer.Goals as goal

pub returns : goal.returns
returns c = some_answer
