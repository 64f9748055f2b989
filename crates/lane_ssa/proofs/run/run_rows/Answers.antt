use Rattle.std.proofs.Common.{arith, ap, ◌∙◌, map}
use Rattle.program_meaning.specs.Programs.{mask_count, value_count}
use Rattle.lane_ssa.specs.ChunksOf.{rows_from}
use Rattle.lane_ssa.specs.Making.{lane_at}
use Rattle.lane_ssa.specs.Views.{instr_view}
use Rattle.lane_ssa.proofs.RowLanes.{rows_from_rows}
use Rattle.lane_ssa.proofs.LaneRegisters.{masks_long, values_long}
use Rattle.lane_ssa.proofs.run.run_rows.Goals as goal

pub run-requires-clause-rows : goal.run-requires-clause-rows
run-requires-clause-rows c =
    rw c.table-table.ensures
    (c.rows16-rows.ensures.legal c.args.block.now.0 (rows_from c.requires.chunk.first c.args.block.now.1) c.requires.chunk.are_cells (rows_from_rows 16 c.requires.chunk.first c.args.block.now.1 c.know.ensures.structs))

pub returns-clause-masks : goal.returns-clause-masks
returns-clause-masks c =
    masks_long c.table-table.result.now c.run.new.masks.items c.run.new.values.items 0 (lane_at c.table-table.result.now c.live_of-live.result.0 c.rows16-rows.result 0) (map instr_view c.instrs.result.now) (c.run.ensures.state 0 (omega arith)) ∙ ap mask_count c.instrs.ensures.value

pub returns-clause-values : goal.returns-clause-values
returns-clause-values c =
    values_long c.table-table.result.now c.run.new.masks.items c.run.new.values.items 0 (lane_at c.table-table.result.now c.live_of-live.result.0 c.rows16-rows.result 0) (map instr_view c.instrs.result.now) (c.run.ensures.state 0 (omega arith)) ∙ ap value_count c.instrs.ensures.value
