-- The tokens of a text.
use Rattle.std.specs.Prelude.{◌≡◌, ℕ, List, map, slice_get, Some, Ok}
use Rattle.query_meaning.specs.Lexing.{spans_of}
use Rattle.sql_tree.specs.declared.token.Token.{Token}
use Rattle.sql_tree.specs.Lexes.{span_view}

-- these are the tokens of the text
abbrev pub AreTokensOf : List ℕ → List Token → Type 0
AreTokensOf text tokens = spans_of text ≡ Ok (map span_view tokens)

-- the token is one of the text's
pub record IsTokenOf (text : List ℕ) (token : Token) : Type 0 where
  pub tokens : List Token
  pub at : ℕ
  pub all : AreTokensOf text tokens
  pub here : slice_get tokens at ≡ Some token
