use Rattle.query_meaning.proofs.FormedShort.{query-formed}
use Rattle.query_meaning.proofs.Spans.{tokens-are}
use Rattle.query_meaning.proofs.queries_are_well_formed.Goals as goal

pub returns : goal.returns
returns c = λ text spans q e d. query-formed d (tokens-are text spans e)
