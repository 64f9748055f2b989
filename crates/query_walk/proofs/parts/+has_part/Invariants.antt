use Rattle.std.proofs.Common.{◌≡◌, drop}
use Rattle.std.specs.List.{list_any, flat_map}
use Rattle.tree_meaning.specs.Tree.{size}
use Rattle.check_meaning.specs.Operands.{operands}
use Rattle.check_meaning.specs.Parts.{parts_outside}
use Rattle.query_walk.specs.Asked.{is_stop, is_meant}
use Rattle.query_walk.proofs.parts.+has_part.Given as goal

abbrev pub decreases-has_part : goal.decreases-has_part
decreases-has_part l = size l.expr.now

abbrev pub invariant-loop-at : goal.invariant-loop-at
invariant-loop-at l =
    let p = parts_outside (is_stop l.asked l.keys) in
    let m = is_meant l.asked in
    list_any m (p l.expr) ≡ list_any m (flat_map p (drop l.at (operands l.expr)))
