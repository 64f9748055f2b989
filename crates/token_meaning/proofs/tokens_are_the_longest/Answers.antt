use Rattle.token_meaning.proofs.Tokens.{tokens-taken}
use Rattle.token_meaning.proofs.tokens_are_the_longest.Goals as goal

pub returns : goal.returns
returns c = λ text spans e. tokens-taken text spans e
