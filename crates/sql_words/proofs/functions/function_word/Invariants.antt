use Rattle.std.proofs.Common.{◌≡◌, find}
use Rattle.std.specs.Array.Iter.{array_into_iter_items}
use Rattle.std.specs.Str.{str_eq_ignore_ascii_case}
use Rattle.query_meaning.specs.Words.{function_text, function_word}
use Rattle.sql_words.proofs.functions.function_word.Given as goal

abbrev pub invariant-loop-candidate : goal.invariant-loop-candidate
invariant-loop-candidate l =
    find (λ k. str_eq_ignore_ascii_case (function_text k) l.word) (array_into_iter_items l.candidate-iterator) ≡ function_word l.word
