use Rattle.std.proofs.Common.{sym, ◌∙◌}
use Rattle.lane_text.proofs.Search.{starts_yes, starts_not, starts_within}
use Rattle.lane_text.proofs.scan.after_by_bytes.Goals as goal

pub returns-then-starts_with-clause-within : goal.returns-then-starts_with-clause-within
returns-then-starts_with-clause-within c = starts_within c.args.piece.now c.args.text.now (sym c.starts_with.ensures.value ∙ c.if-starts_with.true)

pub returns-then-starts_with-clause-rest : goal.returns-then-starts_with-clause-rest
returns-then-starts_with-clause-rest c u =
    starts_yes c.args.piece.now c.args.text.now c.requires.is_text u c.requires.is_plain (sym c.starts_with.ensures.value ∙ c.if-starts_with.true)

pub returns-else-starts_with-clause-rest : goal.returns-else-starts_with-clause-rest
returns-else-starts_with-clause-rest c u =
    starts_not c.args.piece.now c.args.text.now c.requires.is_text u c.requires.is_plain (sym c.starts_with.ensures.value ∙ c.if-starts_with.false)
