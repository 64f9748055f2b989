-- What is printed is read again.
use Rattle.std.specs.Prelude.{◌≡◌, ℤ, List, Some, None, Ok}
use Rattle.time_meaning.specs.Moments.{IsTime}
use Rattle.time_meaning.specs.Printed.{time_text}
use Rattle.time_meaning.specs.Texts.{time_of}
use Rattle.tree_meaning.specs.Tree.{Query}
use Rattle.query_meaning.specs.Lexing.{Span, spans_of}
use Rattle.query_meaning.specs.Tokens.{tokens_in}
use Rattle.query_meaning.specs.Grammar.{IsQuery}
use Rattle.query_meaning.specs.Reading.{query_of}
use Rattle.tree_meaning.specs.WellFormed.{IsWellFormed}
use Rattle.query_meaning.specs.Faults.{refused_at, Verdict, too_long, bad_token, too_many, refused, too_deep, not_a_query, is_query, ComesTo}
use Rattle.print_meaning.specs.Pieces.{tokens_of}
use Rattle.print_meaning.specs.Print.{printed, query_text}

-- the printed text of each time in range spells that time
abbrev pub PrintedTimesAreRead : Type 0
PrintedTimesAreRead = (t : ℤ) → IsTime t → time_of (time_text t) ≡ Some t

-- the printed tokens of a well-formed query are that query, in the grammar and to its reader
pub record IsItsTokens (q : Query) : Type 0 where
  pub stands : IsQuery (tokens_of (printed q)) q
  pub read : query_of (tokens_of (printed q)) ≡ Some q

abbrev pub PrintedTokensAreTheQuery : Type 0
PrintedTokensAreTheQuery = (q : Query) → IsWellFormed q → IsItsTokens q

-- the printed text has the printed tokens, and none of them is a refused word
pub record HasItsTokens (q : Query) : Type 0 where
  pub spans : List Span
  pub lexed : spans_of (query_text q) ≡ Ok spans
  pub tokens : tokens_in (query_text q) spans ≡ tokens_of (printed q)
  pub unrefused : refused_at (query_text q) spans ≡ None

abbrev pub PrintedTextHasItsTokens : Type 0
PrintedTextHasItsTokens = (q : Query) → IsWellFormed q → HasItsTokens q

-- the query, or nothing but a limit on the length of a text, the count of its tokens or their nesting
abbrev pub IsAgain : Query → Verdict → Type 0
IsAgain q too_long = Unit {0}
IsAgain q (bad_token p) = ⊥
IsAgain q too_many = Unit {0}
IsAgain q (refused p) = ⊥
IsAgain q (too_deep p) = Unit {0}
IsAgain q not_a_query = ⊥
IsAgain q (is_query p) = p ≡ q

-- reading the printed text of a well-formed query gives that query, unless a limit refuses it
abbrev pub PrintedQueriesAreReadAgain : Type 0
PrintedQueriesAreReadAgain = (q : Query) → IsWellFormed q → (v : Verdict) → ComesTo (query_text q) v → IsAgain q v
