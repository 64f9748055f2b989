use Rattle.std.proofs.Common.{◌≡◌}
use Rattle.tree_meaning.specs.Tree.{no}
use Rattle.query_meaning.specs.Reading.{times}
use Rattle.sql_forms.proofs.counting.denials.Given as goal

abbrev pub invariant-loop-count : goal.invariant-loop-count
invariant-loop-count l = l.fn.of ≡ times no l.count l.below
