use Rattle.std.proofs.Common.{◌≡◌, ◌++◌, ◌≤◌, map, take}
use Rattle.program_meaning.specs.Programs.{mask_count}
use Rattle.lane_ssa.specs.Views.{instr_view}
use Rattle.plan_lower.proofs.Lines.{lines_to}
use Rattle.plan_lower.proofs.instr_lines.put_program.Given as goal

abbrev pub invariant-loop-at : goal.invariant-loop-at
invariant-loop-at l =
    (l.masks ≡ mask_count (take l.at (map instr_view l.instrs)))
    × (l.masks ≤ l.at)
    × (l.text ≡ l.fn.text ++ lines_to (map instr_view l.instrs) l.at)
