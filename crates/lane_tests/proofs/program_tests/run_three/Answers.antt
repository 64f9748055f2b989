use Rattle.lane_tests.proofs.program_tests.run_three.Goals as goal

pub run_chunk-requires-clause-chunk : goal.run_chunk-requires-clause-chunk
run_chunk-requires-clause-chunk c d = record { first = 0; are_cells = d.chunk-chunk.ensures.cells }
