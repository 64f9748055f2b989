use Rattle.std.proofs.Common.{◌≡◌, drop}
use Rattle.std.specs.List.{list_any, flat_map}
use Rattle.tree_meaning.specs.Tree.{size}
use Rattle.check_meaning.specs.Operands.{operands}
use Rattle.check_meaning.specs.Parts.{parts_outside, none}
use Rattle.check_meaning.specs.Tests.{is_doubled}
use Rattle.query_walk.proofs.parts.+has_doubled.Given as goal

abbrev pub decreases-has_doubled : goal.decreases-has_doubled
decreases-has_doubled l = size l.expr.now

abbrev pub invariant-loop-at : goal.invariant-loop-at
invariant-loop-at l =
    let p = parts_outside none in
    let m = is_doubled in
    list_any m (p l.expr) ≡ list_any m (flat_map p (drop l.at (operands l.expr)))
