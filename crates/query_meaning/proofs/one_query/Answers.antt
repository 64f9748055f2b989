use Rattle.query_meaning.proofs.FullQuery.{one_query as law}
use Rattle.query_meaning.proofs.one_query.Goals as goal

pub returns : goal.returns
returns c = λ p q ts a b. law a b
