use Rattle.query_meaning.proofs.Verdicts.{verdict-one}
use Rattle.query_meaning.proofs.one_verdict.Goals as goal

pub returns : goal.returns
returns c = λ v w text a b. verdict-one text v w a b
