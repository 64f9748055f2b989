use Rattle.std.proofs.Common.{rules}
use Rattle.query_meaning.specs.Words.{part_word}
use Rattle.sql_words.proofs.words.part_word.Goals as goal

pub loop-candidate-init : goal.loop-candidate-init
unfolding part_word
loop-candidate-init c = search rules
