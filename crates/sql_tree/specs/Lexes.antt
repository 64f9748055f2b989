-- What the lexer answers.
use Rattle.std.specs.Prelude.{◌≡◌, ℕ, List, map, Result, Ok, Err}
use Rattle.query_meaning.specs.Lexing.{Span}
use Rattle.sql_tree.specs.declared.token.Token.{Token}
use Rattle.sql_tree.specs.declared.token.LexFault.{LexFault}
use Rattle.sql_tree.specs.declared.token.LexFault.TheVariants as fault

abbrev pub span_view : Token → Span
span_view t = record { kind = t.kind; from = t.from; to = t.to }

-- the fault is at this place; out of memory may come at any time
abbrev pub Faults : Result (List Span) ℕ → LexFault → Type 0
Faults spans (fault.BadToken p) = spans ≡ Err p
Faults spans fault.OutOfMemory = Unit {0}

-- the tokens are these spans of the text
abbrev pub Lexes : Result (List Span) ℕ → Result (List Token) LexFault → Type 0
Lexes spans (Ok ts) = spans ≡ Ok (map span_view ts)
Lexes spans (Err e) = Faults spans e
