use Rattle.std.proofs.Common.{◌+◌, drop, sym, ap, ◌∙◌}
use Rattle.std.specs.Prelude.{option_copied}
use Rattle.snel_words.proofs.Places.{drop_at, drop_past}
use Rattle.snel_words.proofs.Commands.{no_text, bad_text, text_and_names, bad_names}
use Rattle.snel_words.proofs.reading.read_operands.Goals as goal

pub returns-in_default : goal.returns-in_default
returns-in_default c =
    no_text c.args.settings (drop c.args.at c.args.words.now) (drop_past c.args.words.now c.args.at (sym c.get.ensures ∙ ap option_copied c.in_default.is))

pub returns-then-not-is_operand : goal.returns-then-not-is_operand
returns-then-not-is_operand c =
    bad_text c.args.settings (drop c.args.at c.args.words.now) (drop (c.args.at + 1) c.args.words.now) c.in-Some.sql.now
    (drop_at c.args.words.now c.args.at c.in-Some.sql.now (sym c.get.ensures ∙ ap option_copied c.in-Some.is))
    (sym c.if-not-is_operand.ensures)

pub returns-in-Ok-Some : goal.returns-in-Ok-Some
returns-in-Ok-Some c =
    text_and_names c.args.settings (drop c.args.at c.args.words.now) (drop (c.args.at + 1) c.args.words.now) c.in-Ok-Some.names c.in-Some.sql.now
    (drop_at c.args.words.now c.args.at c.in-Some.sql.now (sym c.get.ensures ∙ ap option_copied c.in-Some.is))
    (sym c.if-not-is_operand.ensures) (sym c.in-Ok-Some.field-0-is ∙ c.in-Ok-Some.ensures)

pub returns-in-Ok-None : goal.returns-in-Ok-None
returns-in-Ok-None c =
    bad_names c.args.settings (drop c.args.at c.args.words.now) (drop (c.args.at + 1) c.args.words.now) c.in-Some.sql.now
    (drop_at c.args.words.now c.args.at c.in-Some.sql.now (sym c.get.ensures ∙ ap option_copied c.in-Some.is))
    (sym c.if-not-is_operand.ensures) (sym c.in-Ok-None.field-0-is ∙ c.in-Ok-None.ensures)
