use Rattle.std.proofs.Common.{arith}
use Rattle.tree_meaning.specs.declared.AggName.TheVariants as aggs
use Rattle.agg_laws.proofs.Adding.{room_for_one}
use Rattle.agg_laws.proofs.count_part.CountPartPartial.add.Goals as goal

pub overflow_add-self : goal.overflow_add-self
overflow_add-self c = let room = room_for_one aggs.Count _ c.requires in omega arith
