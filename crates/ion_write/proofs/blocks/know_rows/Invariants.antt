use Rattle.std.proofs.Common.{drop}
use Rattle.snel_values.specs.View.{views}
use Rattle.value_meaning.specs.Val.{vals}
use Rattle.value_meaning.specs.Sound.{AreSound}
use Rattle.ion_write.proofs.blocks.know_rows.Given as goal

abbrev pub invariant-loop-row : goal.invariant-loop-row
invariant-loop-row l = AreSound (vals (views (drop l.row-index l.rows))) → AreSound (vals (views l.rows))
