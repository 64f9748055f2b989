-- The classes of bytes.
use Rattle.std.specs.Prelude.{ℕ, Bool}
use Rattle.sql_tree.specs.declared.classes.Class.{Class}
use Rattle.sql_tree.specs.declared.classes.Class.TheVariants as of
use Rattle.query_meaning.specs.Lexing.{is_word_byte, is_digit, is_no_backtick}

abbrev pub passes : Class → ℕ → Bool
passes of.Word = is_word_byte
passes of.Digit = is_digit
passes of.Moment = is_no_backtick
