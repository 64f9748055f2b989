use Rattle.std.proofs.Common.{cond}
use Rattle.value_meaning.specs.Val.{missing}
use Rattle.block_meaning.specs.Tables.{Table}
use Rattle.eval_meaning.specs.Casts.{to_boolean}
use Rattle.lane_base.specs.Bits.{has}
use Rattle.lane_base.specs.Registers.{value_at, AreLegalIn}
use Rattle.lane_cast.proofs.TruthsShow.{TruthsShow}
use Rattle.lane_cast.proofs.cast.truths_of.Given as goal

abbrev pub invariant-loop-i : goal.invariant-loop-i
invariant-loop-i l = (table : Table) → AreLegalIn table l.m.0 l.a → TruthsShow l.yes l.no l.i (λ k. cond (has l.m.0 k) (to_boolean (value_at table l.a k)) missing)
