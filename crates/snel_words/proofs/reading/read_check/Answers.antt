use Rattle.std.proofs.Common.{drop, sym, ◌∙◌}
use Rattle.snel_words.proofs.Commands.{checked, unchecked}
use Rattle.snel_words.proofs.reading.read_check.Goals as goal

pub returns-in-Ok-Some : goal.returns-in-Ok-Some
returns-in-Ok-Some c = checked (drop 1 c.args.words.now) c.in-Ok-Some.names (sym c.in-Ok-Some.field-0-is ∙ c.in-Ok-Some.ensures)

pub returns-in-Ok-None : goal.returns-in-Ok-None
returns-in-Ok-None c = unchecked (drop 1 c.args.words.now) (sym c.in-Ok-None.field-0-is ∙ c.in-Ok-None.ensures)
