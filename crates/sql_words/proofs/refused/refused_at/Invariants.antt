use Rattle.std.proofs.Common.{◌≡◌, map, drop}
use Rattle.query_meaning.specs.Faults.{refused_at}
use Rattle.sql_tree.specs.Lexes.{span_view}
use Rattle.sql_words.proofs.refused.refused_at.Given as goal

abbrev pub invariant-loop-token : goal.invariant-loop-token
invariant-loop-token l = refused_at l.text (map span_view (drop l.token-index l.tokens)) ≡ refused_at l.text (map span_view l.tokens)
