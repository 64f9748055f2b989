use Rattle.std.proofs.Common.{◌≡◌, drop, find}
use Rattle.std.specs.Str.{str_eq_ignore_ascii_case}
use Rattle.query_meaning.specs.Words.{mark_text}
use Rattle.sql_words.proofs.reserved.mark_among.Given as goal

abbrev pub invariant-loop-mark : goal.invariant-loop-mark
invariant-loop-mark l =
    find (λ k. str_eq_ignore_ascii_case (mark_text k) l.word) (drop l.mark-index l.marks) ≡ find (λ k. str_eq_ignore_ascii_case (mark_text k) l.word) l.marks
