use Rattle.std.proofs.Common.{◌≡◌, take}
use Rattle.std.specs.Prelude.{map}
use Rattle.lane_ssa.specs.Compiled.{patterns_of}
use Rattle.lane_ssa.specs.Views.{instr_view}
use Rattle.lane_ssa.proofs.compile.compile_all.Given as goal

abbrev pub invariant-loop-instr : goal.invariant-loop-instr
invariant-loop-instr l = l.patterns.items ≡ patterns_of (map instr_view (take l.instr-index l.instrs))
