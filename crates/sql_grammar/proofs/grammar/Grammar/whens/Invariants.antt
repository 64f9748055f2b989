use Rattle.std.proofs.Common.{◌≡◌, ◌-◌, drop}
use Rattle.std.specs.Option.{option_map}
use Rattle.sql_words.specs.Seen.{toks}
use Rattle.query_meaning.specs.Reading.{whens_by, expr_at}
use Rattle.sql_grammar.proofs.Loops.{behind_arms}
use Rattle.sql_grammar.proofs.grammar.Grammar.whens.Given as goal

abbrev pub invariant-loop-turn : goal.invariant-loop-turn
invariant-loop-turn g l =
    whens_by (expr_at l.self.room) l.self.room (drop l.at (toks l.looks)) ≡ option_map (behind_arms l.all) (whens_by (expr_at l.self.room) (l.self.room - l._turn) (drop l.rest (toks l.looks)))
