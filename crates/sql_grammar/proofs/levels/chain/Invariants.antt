use Rattle.std.proofs.Common.{◌≡◌, ◌-◌, drop}
use Rattle.sql_words.specs.Seen.{toks}
use Rattle.query_meaning.specs.Reading.{more_by, operand_by, level_by, expr_at}
use Rattle.sql_grammar.proofs.levels.chain.Given as goal

abbrev pub invariant-loop-turn : goal.invariant-loop-turn
invariant-loop-turn g l =
    level_by (expr_at l.room) l.room l.level (drop l.at (toks l.looks)) ≡ more_by (operand_by (expr_at l.room) l.room l.level) l.level (l.room - l._turn) l.left (drop l.rest (toks l.looks))
