use Rattle.query_tree.specs.View.{view}
use Rattle.time_index.proofs.Conjuncts.{not_empty, named_bounds}
use Rattle.time_index.proofs.binding.bounds.Goals as goal

pub returns-else-is_empty : goal.returns-else-is_empty
returns-else-is_empty c =
    let field = c.args.field.now in
    named_bounds field (view c.args.filter.now) c.narrowed.result (not_empty field c.is_empty.result c.is_empty.ensures c.if-is_empty.false) c.narrowed.ensures
