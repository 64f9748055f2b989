use Rattle.std.proofs.Common.{drop}
use Rattle.snel_values.specs.View.{views}
use Rattle.value_tests.specs.Light.{AreLight}
use Rattle.value_tests.proofs.writing_tests.are_light.Given as goal

abbrev pub invariant-loop-row : goal.invariant-loop-row
invariant-loop-row l = AreLight (views (drop l.row-index l.rows)) → AreLight (views l.rows)
