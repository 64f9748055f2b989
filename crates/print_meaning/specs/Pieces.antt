-- Printed text as tokens and the spaces between them.
use Rattle.std.specs.Prelude.{ℕ, List, [], ◌∷◌, ◌++◌, ◌==◌, if◌then◌else◌, decimal}
use Rattle.time_meaning.specs.Printed.{time_text}
use Rattle.query_meaning.specs.Words.{mark_text}
use Rattle.query_meaning.specs.Tokens.{Tok, Toks, mark, word, quoted, string, moment, num, no_token}

-- one space, or a token
pub data Piece : Type 0 where
  space : Piece
  token : Tok → Piece

abbrev pub Pieces : Type 0
Pieces = List Piece

-- each quote is written twice
abbrev pub doubled : ℕ → List ℕ → List ℕ
doubled quote [] = []
doubled quote (b ∷ bs) = if b == quote then quote ∷ quote ∷ doubled quote bs else b ∷ doubled quote bs

-- between two quotes, those within doubled
abbrev pub in_quotes : ℕ → List ℕ → List ℕ
in_quotes quote bytes = quote ∷ doubled quote bytes ++ quote ∷ []

-- how a token is written: reserved words in capitals, a name between `"`, a text between `'`, a time between backticks,
-- a number in decimal digits
unfoldable pub spelling : Tok → List ℕ
spelling (mark k) = mark_text k
spelling (word w) = w
spelling (quoted n) = in_quotes 34 n
spelling (string p) = in_quotes 39 p
spelling (moment t) = 96 ∷ time_text t ++ 96 ∷ []
spelling (num n) = decimal n
spelling no_token = []

-- the text
abbrev pub spelled : Pieces → List ℕ
spelled [] = []
spelled (space ∷ ps) = 32 ∷ spelled ps
spelled (token t ∷ ps) = spelling t ++ spelled ps

-- the tokens alone
abbrev pub tokens_of : Pieces → Toks
tokens_of [] = []
tokens_of (space ∷ ps) = tokens_of ps
tokens_of (token t ∷ ps) = t ∷ tokens_of ps
