-- What a job stands for.
use Rattle.std.specs.Prelude.{List, map}
use Rattle.program_meaning.specs.Jobs.{Job}
use Rattle.lane_ssa.specs.declared.instr.Instr.{Instr as InstrCode}
use Rattle.lane_ssa.specs.declared.ends.Ends.{Ends as EndsCode}
use Rattle.lane_ssa.specs.Views.{instr_view, ends_view}

abbrev pub job_view : List InstrCode → EndsCode → Job
job_view instrs ends = record { program = map instr_view instrs; ends = ends_view ends }
