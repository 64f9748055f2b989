use Rattle.std.proofs.Common.{◌≡◌}
use Rattle.tree_meaning.specs.Tree.{neg}
use Rattle.query_meaning.specs.Reading.{times}
use Rattle.sql_forms.proofs.building.negs.Given as goal

abbrev pub invariant-loop-turn : goal.invariant-loop-turn
invariant-loop-turn l = l.all ≡ times neg l._turn l.fn.of
