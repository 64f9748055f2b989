use Rattle.std.proofs.Common.{sym, ap, ◌∙◌}
use Rattle.std.specs.Prelude.{option_copied}
use Rattle.snel_words.specs.Words.{is_operand}
use Rattle.snel_words.proofs.Places.{all_fail, all_pass}
use Rattle.snel_words.proofs.names.are_operands.Goals as goal

pub returns-then-not-is_operand : goal.returns-then-not-is_operand
returns-then-not-is_operand c =
    sym (c.loop-i.invariant ∙ all_fail is_operand c.args.words.now c.loop-i.i c.in-Some.word.now (sym c.get.ensures ∙ ap option_copied c.in-Some.is)
    (sym c.if-not-is_operand.ensures))

pub loop-i-preserved : goal.loop-i-preserved
loop-i-preserved c =
    c.loop-i.invariant ∙ all_pass is_operand c.args.words.now c.loop-i.i c.in-Some.word.now (sym c.get.ensures ∙ ap option_copied c.in-Some.is)
    (sym c.if-not-is_operand.ensures)
