use Rattle.print_meaning.proofs.Again.{has_its_tokens}
use Rattle.print_meaning.proofs.printed_text_has_its_tokens.Goals as goal

pub returns : goal.returns
returns c = has_its_tokens
