use Rattle.std.proofs.Common.{◌≡◌, drop}
use Rattle.std.specs.List.{flat_map}
use Rattle.tree_meaning.specs.Tree.{size}
use Rattle.check_meaning.specs.Operands.{operands}
use Rattle.check_meaning.specs.Parts.{parts}
use Rattle.query_walk.proofs.Walking.{gathered}
use Rattle.query_walk.proofs.parts.+gather.Given as goal

abbrev pub decreases-gather : goal.decreases-gather
decreases-gather l = size l.expr.now

abbrev pub invariant-loop-at : goal.invariant-loop-at
invariant-loop-at l = gathered l.fn.found (parts l.expr) ≡ gathered l.found (flat_map parts (drop l.at (operands l.expr)))
