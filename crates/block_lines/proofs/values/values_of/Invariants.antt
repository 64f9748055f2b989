use Rattle.std.proofs.Common.{◌≡◌, ◌++◌, map, drop}
use Rattle.program_meaning.specs.Registers.{value_at}
use Rattle.lane_ssa.specs.Frames.{state_at}
use Rattle.block_lines.proofs.values.values_of.Given as goal

-- the values of the registers before this one were added
abbrev pub invariant-loop-at : goal.invariant-loop-at
invariant-loop-at l =
    l.values ++ map (value_at (state_at l.fn.table l.fn.frame l.fn.lane)) (drop l.at l.fn.registers) ≡ map (value_at (state_at l.fn.table l.fn.frame l.fn.lane)) l.fn.registers
