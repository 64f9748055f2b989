use Rattle.sql_words.proofs.Places.{first_of}
use Rattle.sql_words.proofs.steps.token.Goals as goal

pub returns-clause-first : goal.returns-clause-first
returns-clause-first c = first_of c.args.looks.now c.args.at _ c.fetch.ensures
