use Rattle.std.proofs.Common.{[], ◌∷◌, ◌++◌}
use Rattle.print_meaning.proofs.PrintedLists.{Joins, twice}
use Rattle.sql_pieces.proofs.quotes.put_in_quotes.Given as goal

abbrev pub invariant-loop-byte : goal.invariant-loop-byte
invariant-loop-byte l = Joins (twice l.quote) (l.fn.text ++ l.quote ∷ []) l.text l.byte-index l.bytes
