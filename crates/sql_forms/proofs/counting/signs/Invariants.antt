use Rattle.std.proofs.Common.{◌≡◌}
use Rattle.tree_meaning.specs.Tree.{neg}
use Rattle.query_meaning.specs.Reading.{times}
use Rattle.sql_forms.proofs.counting.signs.Given as goal

abbrev pub invariant-loop-count : goal.invariant-loop-count
invariant-loop-count l = l.fn.of ≡ times neg l.count l.below
