use Rattle.query_meaning.proofs.FullQuery.{query-full}
use Rattle.query_meaning.proofs.TakesQuery.{query-takes}
use Rattle.query_meaning.proofs.reads_exactly.Goals as goal

pub returns : goal.returns
returns c = record { takes = query-takes; full = λ q ts d. query-full d }
