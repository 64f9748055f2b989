use Rattle.std.proofs.Common.{◌≡◌, ◌≤◌, ◌-◌, length, drop, map}
use Rattle.query_meaning.specs.Lexing.{spans_from, spans_of}
use Rattle.sql_tree.specs.Lexes.{span_view}
use Rattle.sql_tree.proofs.SpanSteps.{behind}
use Rattle.sql_tree.proofs.lexer.tokens.Given as goal

abbrev pub invariant-places : goal.invariant-places
invariant-places l =
    (l.place ≤ length l.bytes) × (spans_of l.text ≡ behind (map span_view l.all) (spans_from 0 l.place (drop l.place l.bytes)))

abbrev pub decreases-places : goal.decreases-places
decreases-places l = length l.bytes - l.place
