use Rattle.std.proofs.Common.{◌<◌, length, arith, sym, ap, ◌∙◌}
use Rattle.std.proofs.lemmas.Bool.Decides.{nat_tests}
use Rattle.block_meaning.specs.CellReading.{cell_value}
use Rattle.lane_base.specs.Registers.{under, span_at}
use Rattle.lane_ssa.proofs.RowLanes.{lane_by_parts, lane_given, row_tree}
use Rattle.lane_ssa.proofs.rows.rows16.Goals as goal

pub returns-clause-lanes : goal.returns-clause-lanes
returns-clause-lanes c table rows cells i h =
    lane_by_parts (c.requires.live i h)
    (c.trees.ensures.value table i h ∙ ap (λ b. under b (cell_value table (span_at c.spans_of.result.lanes i))) (c.requires.live i h))
    ∙ lane_given table rows c.args.chunk.now i (span_at c.spans_of.result.lanes i) cells (c.spans_of.ensures i h)

pub returns-clause-legal : goal.returns-clause-legal
returns-clause-legal c table rows cells are_rows =
    c.trees.ensures.legal table
    (λ i h live.
    let within : i < length c.args.chunk.now = let l = sym (c.requires.live i h) ∙ live in grind (arith, nat_tests) in
    row_tree table rows c.args.chunk.now i (span_at c.spans_of.result.lanes i) cells are_rows within (c.spans_of.ensures i h within))
