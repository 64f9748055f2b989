-- What tokens mean.
use Rattle.std.specs.Prelude.{ℕ, ◌-◌, ℤ, List, [], ◌∷◌, length, drop, take, map, ◌&&◌, ◌==◌, if◌then◌else◌, Option, Some, None}
use Rattle.time_meaning.specs.Texts.{time_of}
use Rattle.query_meaning.specs.declared.TokenKind.{TokenKind}
use Rattle.query_meaning.specs.declared.TokenKind.TheVariants as k
use Rattle.query_meaning.specs.declared.Mark.{Mark}
use Rattle.query_meaning.specs.Words.{reserved_word}
use Rattle.query_meaning.specs.Lexing.{Span, number_of, sign_of}

pub data Tok : Type 0 where
  -- a reserved word or a sign
  mark : Mark → Tok
  -- a word that isn't reserved
  word : List ℕ → Tok
  -- a quoted name
  quoted : List ℕ → Tok
  -- a text between quotes
  string : List ℕ → Tok
  -- a time between backticks
  moment : ℤ → Tok
  num : ℕ → Tok
  -- bytes that are no token of the kind that is said
  no_token : Tok

abbrev pub Toks : Type 0
Toks = List Tok

-- what stands between the first and the last byte
abbrev pub inner : List ℕ → List ℕ
inner bytes = take (length bytes - 2) (drop 1 bytes)

-- each two quotes in a row are one
abbrev pub undoubled : ℕ → List ℕ → List ℕ
undoubled quote [] = []
undoubled quote (b ∷ []) = b ∷ []
undoubled quote (b ∷ c ∷ bs) = if b == quote && c == quote then quote ∷ undoubled quote bs else b ∷ undoubled quote (c ∷ bs)

abbrev pub if_mark : Option Mark → Tok → Tok
if_mark None other = other
if_mark (Some k) other = mark k

abbrev pub if_moment : Option ℤ → Tok
if_moment None = no_token
if_moment (Some t) = moment t

abbrev pub if_num : Option ℕ → Tok
if_num None = no_token
if_num (Some n) = num n

-- the meaning of a token's bytes
unfoldable pub token_of : TokenKind → List ℕ → Tok
token_of k.Word bytes = if_mark (reserved_word bytes) (word bytes)
token_of k.Quoted bytes = quoted (undoubled 34 (inner bytes))
token_of k.Str bytes = string (undoubled 39 (inner bytes))
token_of k.Moment bytes = if_moment (time_of (inner bytes))
token_of k.Number bytes = if_num (number_of bytes)
token_of k.Sign bytes = if_mark (sign_of bytes) no_token

-- the bytes of a token in its text
abbrev pub bytes_at : List ℕ → Span → List ℕ
bytes_at text s = take (s.to - s.from) (drop s.from text)

abbrev pub meaning : List ℕ → Span → Tok
meaning text s = token_of s.kind (bytes_at text s)

abbrev pub tokens_in : List ℕ → List Span → Toks
tokens_in text = map (meaning text)
