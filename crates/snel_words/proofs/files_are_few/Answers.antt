use Rattle.snel_words.proofs.NamedFiles.{asked_has_names}
use Rattle.snel_words.proofs.files_are_few.Goals as goal

pub returns : goal.returns
returns c words = asked_has_names words
