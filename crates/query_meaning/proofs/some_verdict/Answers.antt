use Rattle.query_meaning.proofs.SomeVerdict.{verdict-some}
use Rattle.query_meaning.proofs.some_verdict.Goals as goal

pub returns : goal.returns
returns c = λ text. verdict-some text
