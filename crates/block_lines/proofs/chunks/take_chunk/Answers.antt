use Rattle.std.proofs.Common.{length, refl, ap, subst, ◌∙◌}
use Rattle.std.specs.Prelude.{OnOk}
use Rattle.program_meaning.specs.Jobs.{Job}
use Rattle.lane_ssa.specs.ChunksOf.{rows_from}
use Rattle.lane_ssa.specs.Counts.{counted}
use Rattle.block_lines.specs.RowLines.{kept_rows}
use Rattle.block_lines.specs.Ran.{HasRunOver}
use Rattle.block_lines.proofs.RowAt.{chunk_short}
use Rattle.block_lines.proofs.Kept.{kept_counted}
use Rattle.block_lines.proofs.chunks.take_chunk.Goals as goal

pub run_chunk-requires-clause-chunk : goal.run_chunk-requires-clause-chunk
run_chunk-requires-clause-chunk g c = record { first = c.args.first; are_cells = c.chunk-chunk.ensures.cells }

pub returns-clause-kept : goal.returns-clause-kept
returns-clause-kept g c =
    let rows = rows_from c.args.first c.args.block.now.1 in
    let e = c.run_chunk.ensures in
    let ran : HasRunOver c.args.block.now.0 rows c.run_chunk.new.self = record { ran = e.ran c.args.first c.chunk-chunk.ensures.cells; legal = e.legal; values = e.values; passed = e.passed } in
    let lanes = kept_counted c.args.block.now.0 rows c.run_chunk.new.self ran (chunk_short c.args.block.now.1 c.args.first) c.run_chunk.new.self.passed refl in
    e.kept ∙ ap (counted c.args.frame.now.kept) (lanes ∙ ap (λ (j : Job). length (kept_rows j rows)) e.job)

pub returns-clause-rows : goal.returns-clause-rows
returns-clause-rows g c =
    let rows = rows_from c.args.first c.args.block.now.1 in
    subst (λ (j : Job). OnOk c.take_lanes.result (g.S.RowSink.grew c.args.sink.now c.take_lanes.new.sink j (kept_rows j rows))) c.run_chunk.ensures.job c.take_lanes.ensures
