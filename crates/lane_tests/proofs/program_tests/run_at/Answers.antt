use Rattle.lane_tests.proofs.program_tests.run_at.Goals as goal

pub run_chunk-requires-clause-chunk : goal.run_chunk-requires-clause-chunk
run_chunk-requires-clause-chunk c = record { first = c.args.first; are_cells = c.chunk-chunk.ensures.cells }
