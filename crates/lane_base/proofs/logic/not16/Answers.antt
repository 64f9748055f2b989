use Rattle.std.proofs.Common.{◌∙◌}
use Rattle.lane_base.specs.Bits.{has}
use Rattle.lane_base.proofs.BitLemmas.{has-and}
use Rattle.lane_base.proofs.TruthTables.{not_value, not_apart, three}
use Rattle.lane_base.proofs.logic.not16.Goals as goal

pub truths-requires : goal.truths-requires
truths-requires c k = simp has-and (not_apart (has c.args.a.now.null.0 k) (has c.args.a.now.yes.0 k) (has c.args.a.now.no.0 k) (has c.args.m.0 k) (three c.args.a.now k))

pub returns-clause-value : goal.returns-clause-value
returns-clause-value c table p i h = c.truths.ensures.value table i h ∙ simp has-and (not_value table c.args.a.now i (has c.args.m.0 i) (p.lane i h))
