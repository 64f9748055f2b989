-- What outputs and aggregates stand for.
use Rattle.std.specs.Prelude.{ℕ, List, Option}
use Rattle.tree_meaning.specs.declared.AggName.{AggName}
use Rattle.lane_ssa.specs.declared.ends.EndOut.{EndOut}
use Rattle.lane_ssa.specs.declared.ends.EndAgg.{EndAgg}

abbrev pub out_view : EndOut → List ℕ × ℕ
out_view o = (o.name, o.register)

abbrev pub agg_end_view : EndAgg → AggName × Option ℕ
agg_end_view a = (a.name, a.register)
