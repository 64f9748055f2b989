-- Laws of the grammar.
use Rattle.std.specs.Prelude.{◌≡◌, ℕ, List, Some, Ok}
use Rattle.tree_meaning.specs.Tree.{Query}
use Rattle.query_meaning.specs.Tokens.{Toks, tokens_in}
use Rattle.query_meaning.specs.Grammar.{IsQuery}
use Rattle.query_meaning.specs.Reading.{query_of}
use Rattle.query_meaning.specs.Lexing.{Span, spans_of}
use Rattle.query_meaning.specs.Faults.{Verdict, ComesTo}
use Rattle.tree_meaning.specs.WellFormed.{IsWellFormed}

abbrev pub OneQuery : Type 0
OneQuery = (p q : Query) (ts : Toks) → IsQuery ts p → IsQuery ts q → p ≡ q

-- what is read is a query of the tokens, and each query of the tokens is read
pub record ReadsExactly : Type 0 where
  pub takes : (ts : Toks) (q : Query) → query_of ts ≡ Some q → IsQuery ts q
  pub full : (q : Query) (ts : Toks) → IsQuery ts q → query_of ts ≡ Some q

-- a text comes to one verdict
abbrev pub OneVerdict : Type 0
OneVerdict = (v w : Verdict) (text : List ℕ) → ComesTo text v → ComesTo text w → v ≡ w

-- a text comes to some verdict
abbrev pub SomeVerdict : Type 0
SomeVerdict = (text : List ℕ) → (v : Verdict) × ComesTo text v

-- a query of the tokens of a text is well formed
abbrev pub QueriesAreWellFormed : Type 0
QueriesAreWellFormed = (text : List ℕ) (spans : List Span) (q : Query) → spans_of text ≡ Ok spans → IsQuery (tokens_in text spans) q → IsWellFormed q
