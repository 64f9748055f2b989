use Rattle.std.proofs.Common.{◌≡◌, ◌+◌, ◌-◌, ◌≤◌, length, drop}
use Rattle.sql_words.specs.Seen.{toks}
use Rattle.query_meaning.specs.Reading.{count_of, behind}
use Rattle.sql_words.proofs.steps.skip.Given as goal

abbrev pub invariant-turns : goal.invariant-turns
invariant-turns l =
    (l.at ≤ l.place) × (count_of l.wanted (drop l.at (toks l.looks)) + l.at ≡ l.place + count_of l.wanted (drop l.place (toks l.looks))) × (behind l.wanted (drop l.at (toks l.looks)) ≡ behind l.wanted (drop l.place (toks l.looks)))

abbrev pub decreases-turns : goal.decreases-turns
decreases-turns l = length l.looks - l.place
