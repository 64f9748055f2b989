-- What refuses a text, the first of these in this order: it is too long, it has a place where no token can be taken, it
-- has too many tokens, it has a refused word, it nests too deep, its tokens are no query.
use Rattle.std.specs.Prelude.{◌≡◌, ℕ, suc, ◌+◌, ◌<◌, ◌≤◌, List, length, take, slice_get, count_by, find, Bool, true, false, ◌&&◌, Option, Some, None, Ok, Err}
use Rattle.std.specs.Option.{option_map}
use Rattle.query_meaning.specs.declared.TokenKind.{TokenKind}
use Rattle.query_meaning.specs.declared.TokenKind.TheVariants as k
use Rattle.query_meaning.specs.declared.Mark.{Mark}
use Rattle.query_meaning.specs.declared.Mark.TheVariants as m
use Rattle.tree_meaning.specs.Tree.{Query}
use Rattle.query_meaning.specs.Words.{is_refused}
use Rattle.query_meaning.specs.Lexing.{Span, spans_of}
use Rattle.query_meaning.specs.Tokens.{Tok, Toks, mark, word, quoted, string, moment, num, no_token, bytes_at, tokens_in}
use Rattle.query_meaning.specs.Grammar.{IsQuery}

-- the most bytes of a text
abbrev pub most_bytes : ℕ
most_bytes = 65_536

-- the most tokens of a text
abbrev pub most_tokens : ℕ
most_tokens = 2_048

-- the deepest nesting of parentheses and CASE
abbrev pub deepest : ℕ
deepest = 64

-- the text has these tokens, and neither the text nor the list of its tokens is too long
pub record HasTokens (text : List ℕ) (spans : List Span) : Type 0 where
  pub short : length text ≤ most_bytes
  pub tokens : spans_of text ≡ Ok spans
  pub few : length spans ≤ most_tokens

-- a word without quotes
abbrev pub is_bare : TokenKind → Bool
is_bare k.Word = true
is_bare _ = false

-- the token is a refused word that is not quoted
abbrev pub refuses : List ℕ → Span → Bool
refuses text s = is_bare s.kind && is_refused (bytes_at text s)

-- the place of the first refused word that is not quoted
abbrev pub refused_at : List ℕ → List Span → Option ℕ
refused_at text spans = option_map (λ s. s.from) (find (refuses text) spans)

-- `(` and CASE, which go one deeper
abbrev pub goes_in : Mark → Bool
goes_in m.Open = true
goes_in m.Case = true
goes_in _ = false

-- `)` and END, which go back
abbrev pub goes_out : Mark → Bool
goes_out m.Close = true
goes_out m.End = true
goes_out _ = false

-- the token is a mark that passes
abbrev pub is_such : (Mark → Bool) → Tok → Bool
is_such p (mark k) = p k
is_such p (word n) = false
is_such p (quoted n) = false
is_such p (string s) = false
is_such p (moment t) = false
is_such p (num n) = false
is_such p no_token = false

-- The depth after these tokens is so many above 0: they have so many more `(` and CASE than `)` and END. Where a `)` or an
-- END has no partner the depth goes below 0, and what follows is counted from there.
abbrev pub HasDepth : ℕ → Toks → Type 0
HasDepth d ts = count_by (is_such goes_in) ts ≡ count_by (is_such goes_out) ts + d

-- the depth after none of the first n tokens is one too many
abbrev pub StaysShallow : Toks → ℕ → Type 0
StaysShallow ts n = (i : ℕ) → i ≤ n → ¬ HasDepth (suc deepest) (take i ts)

-- the token behind the first n is the first that brings the depth to one too many, and it stands at this place
pub record DeepAt (text : List ℕ) (spans : List Span) (place : ℕ) : Type 0 where
  pub n : ℕ
  pub span : Span
  pub here : slice_get spans n ≡ Some span
  pub there : place ≡ span.from
  pub before : StaysShallow (tokens_in text spans) n
  pub deep : HasDepth (suc deepest) (take (suc n) (tokens_in text spans))

-- nothing but the grammar may refuse the text, which has these tokens
pub record IsReadable (text : List ℕ) (spans : List Span) : Type 0 where
  pub tokens : HasTokens text spans
  pub unrefused : refused_at text spans ≡ None
  pub shallow : StaysShallow (tokens_in text spans) (length spans)

-- what a text comes to
pub data Verdict : Type 0 where
  too_long : Verdict
  bad_token : ℕ → Verdict
  too_many : Verdict
  refused : ℕ → Verdict
  too_deep : ℕ → Verdict
  not_a_query : Verdict
  is_query : Query → Verdict

pub data ComesTo (text : List ℕ) : Verdict → Type 0 where
  by_length : most_bytes < length text → ComesTo text too_long
  by_token : {p : ℕ} → length text ≤ most_bytes → spans_of text ≡ Err p → ComesTo text (bad_token p)
  by_count : {spans : List Span} → length text ≤ most_bytes → spans_of text ≡ Ok spans → most_tokens < length spans → ComesTo text too_many
  by_word : {spans : List Span} {p : ℕ} → HasTokens text spans → refused_at text spans ≡ Some p → ComesTo text (refused p)
  by_depth : {spans : List Span} {p : ℕ} → HasTokens text spans → refused_at text spans ≡ None → DeepAt text spans p → ComesTo text (too_deep p)
  by_grammar : {spans : List Span} → IsReadable text spans → ((q : Query) → ¬ IsQuery (tokens_in text spans) q) → ComesTo text not_a_query
  a_query : {spans : List Span} {q : Query} → IsReadable text spans → IsQuery (tokens_in text spans) q → ComesTo text (is_query q)
