use Rattle.std.proofs.Common.{◌≡◌}
use Rattle.tree_meaning.specs.Tree.{no}
use Rattle.query_meaning.specs.Reading.{times}
use Rattle.sql_forms.proofs.building.nots.Given as goal

abbrev pub invariant-loop-turn : goal.invariant-loop-turn
invariant-loop-turn l = l.all ≡ times no l._turn l.fn.of
