use Rattle.std.proofs.Common.{sym, ap, ◌∙◌, arith}
use Rattle.tree_meaning.specs.Tree.{Ex, size}
use Rattle.query_tree.specs.View.{view}
use Rattle.range_meaning.specs.declared.Bounds.{Bounds}
use Rattle.range_meaning.specs.Intervals.{meet}
use Rattle.range_meaning.specs.Binding.{conjuncts, bounds_of_all}
use Rattle.time_index.proofs.Conjuncts.{and_is, and_bounds}
use Rattle.time_index.proofs.binding.+narrowed.Goals as goal

pub loop-left-preserved : goal.loop-left-preserved
loop-left-preserved t c =
    let field = c.args.field.now in
    let whole = view c.loop-left.rest.now in
    let left = c.in-Some.left.now in
    let right = c.in-Some.right.now in
    let both = and_is whole left right (sym c.in-Some.ensures) in
    let same = c.get-rest.ensures in
    record {
      smaller = omega (arith, both.left_smaller, c.loop-left.invariant.smaller, ap size same);
      bounds =
          ap (λ (e : Ex). meet (bounds_of_all field (conjuncts e)) c.narrowed-left_over.result) same
          ∙ ap (λ (b : Bounds). meet (bounds_of_all field (conjuncts left)) b) (c.narrowed-left_over.ensures ∙ ap (λ (e : Ex). meet (bounds_of_all field (conjuncts e)) c.loop-left.left_over) c.get.ensures)
          ∙ and_bounds field whole left right c.loop-left.left_over both.conjuncts_are
          ∙ c.loop-left.invariant.bounds;
    }
