use Rattle.print_meaning.proofs.Again.{is_its_tokens}
use Rattle.print_meaning.proofs.printed_tokens_are_the_query.Goals as goal

pub returns : goal.returns
returns c = is_its_tokens
