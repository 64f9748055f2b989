use Rattle.std.proofs.Common.{rules}
use Rattle.query_meaning.specs.Words.{function_word}
use Rattle.sql_words.proofs.functions.function_word.Goals as goal

pub loop-candidate-init : goal.loop-candidate-init
unfolding function_word
loop-candidate-init c = search rules
