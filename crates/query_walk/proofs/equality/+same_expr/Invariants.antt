use Rattle.std.proofs.Common.{◌≡◌, take}
use Rattle.tree_meaning.specs.Tree.{size}
use Rattle.check_meaning.specs.Operands.{operands}
use Rattle.query_walk.proofs.equality.+same_expr.Given as goal

abbrev pub decreases-same_expr : goal.decreases-same_expr
decreases-same_expr l = size l.a.now

abbrev pub invariant-loop-at : goal.invariant-loop-at
invariant-loop-at l = take l.at (operands l.a) ≡ take l.at (operands l.b)
