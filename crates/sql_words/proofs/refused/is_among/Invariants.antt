use Rattle.std.proofs.Common.{◌≡◌, drop}
use Rattle.std.specs.List.{list_any}
use Rattle.std.specs.Str.{str_eq_ignore_ascii_case}
use Rattle.sql_words.proofs.refused.is_among.Given as goal

abbrev pub invariant-loop-known : goal.invariant-loop-known
invariant-loop-known l =
    list_any (λ w. str_eq_ignore_ascii_case w.now l.word) (drop l.known-index l.words) ≡ list_any (λ w. str_eq_ignore_ascii_case w.now l.word) l.words
