use Rattle.std.proofs.Common.{arith}
use Rattle.lane_field.specs.CellsOf.{cell_within}
use Rattle.lane_field.specs.Kinds.{is_of_kind}
use Rattle.lane_field.proofs.OwnTables.{within}
use Rattle.lane_base.proofs.Steps.{next_lane}
use Rattle.lane_field.proofs.kinds.kinds16.Goals as goal

pub loop-i-preserved : goal.loop-i-preserved
loop-i-preserved c table h kind k =
    let w = within table c.args.m.0 c.args.c.now h c.loop-i.i (omega arith) in
    let e = c.and_cell-masks.ensures table (rw c.get_in.ensures w) kind k in
    let e' = rw c.get_in.ensures at e in
    next_lane (λ i. is_of_kind table kind (cell_within c.args.m.0 c.args.c.now i)) k c.loop-i.i _ _ e' (c.loop-i.invariant table h kind k)
