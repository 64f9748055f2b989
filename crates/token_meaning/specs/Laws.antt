-- The law of the lexer.
use Rattle.std.specs.Prelude.{◌≡◌, ℕ, List, Ok}
use Rattle.query_meaning.specs.Lexing.{Span, spans_of}
use Rattle.token_meaning.specs.Standing.{AreTaken}

-- the tokens of a text follow each other from its front to its end, each the longest at its place
abbrev pub TokensAreTheLongest : Type 0
TokensAreTheLongest = (text : List ℕ) (spans : List Span) → spans_of text ≡ Ok spans → AreTaken 0 text spans
