use Rattle.std.proofs.Common.{◌≡◌, map, take}
use Rattle.query_meaning.specs.Tokens.{tokens_in}
use Rattle.sql_tree.specs.Lexes.{span_view}
use Rattle.sql_words.specs.Seen.{toks}
use Rattle.sql_words.proofs.looks.looks_of.Given as goal

abbrev pub invariant-loop-token : goal.invariant-loop-token
invariant-loop-token l = toks l.looks.items ≡ tokens_in l.text (map span_view (take l.token-index l.tokens))
