use Rattle.std.proofs.Common.{◌≡◌, drop}
use Rattle.std.specs.List.{list_all}
use Rattle.snel_words.specs.Words.{is_operand}
use Rattle.snel_words.proofs.names.are_operands.Given as goal

abbrev pub invariant-loop-i : goal.invariant-loop-i
invariant-loop-i l = list_all is_operand (drop l.at l.words) ≡ list_all is_operand (drop l.i l.words)
