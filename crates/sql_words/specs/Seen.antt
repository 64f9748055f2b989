-- The tokens that the parser sees.
use Rattle.std.specs.Prelude.{List, map}
use Rattle.sql_words.specs.declared.look.Look.{Look}
use Rattle.sql_words.specs.declared.look.Look.TheVariants as of
use Rattle.query_meaning.specs.Tokens.{Tok, Toks, mark, word, quoted, string, moment, num, no_token, undoubled}

-- the token that a look stands for
abbrev pub seen : Look → Tok
seen (of.Mark k) = mark k
seen (of.Word n) = word n.now
seen (of.Quoted n) = quoted (undoubled 34 n.now)
seen (of.Str p) = string (undoubled 39 p.now)
seen (of.Moment t) = moment t
seen (of.Number n) = num n
seen of.NoToken = no_token

abbrev pub toks : List Look → Toks
toks = map seen
