-- What instructions and ends stand for.
use Rattle.snel_values.specs.View.{view}
use Rattle.program_meaning.specs.Instructions.{Instr}
use Rattle.program_meaning.specs.Instructions as instr
use Rattle.program_meaning.specs.Jobs.{Ends}
use Rattle.lane_ssa.specs.declared.instr.Instr.{Instr as InstrCode}
use Rattle.lane_ssa.specs.declared.instr.Instr.TheVariants as code
use Rattle.lane_ssa.specs.declared.ends.Ends.{Ends as EndsCode}

abbrev pub instr_view : InstrCode → Instr
instr_view code.All = instr.all
instr_view (code.True m a) = instr.holding m a
instr_view (code.Minus m l) = instr.minus m l
instr_view (code.Root m) = instr.root m
instr_view (code.Field m a n) = instr.field m a n
instr_view (code.At m a i) = instr.at m a i
instr_view (code.Const m v) = instr.const m (view v)
instr_view (code.Bin m o a b) = instr.bin m o a b
instr_view (code.Neg m a) = instr.neg m a
instr_view (code.Not m a) = instr.not m a
instr_view (code.Is m w a) = instr.is m w a
instr_view (code.First m a b) = instr.first m a b
instr_view (code.Merge m p a b) = instr.merge m p a b
instr_view (code.Match m h a s) = instr.matching m h a s
instr_view (code.Cast m t a) = instr.cast m t a
instr_view (code.Length m f a) = instr.length m f a
instr_view (code.Unix m f a) = instr.unix m f a
instr_view (code.Trunc m p a) = instr.trunc m p a
instr_view (code.Extract m p a) = instr.extract m p a
instr_view (code.Shift m p n a) = instr.shift m p n a

abbrev pub ends_view : EndsCode → Ends
ends_view e =
    record {
      keep = e.keep;
      star = e.star;
      grouped = e.grouped;
      outs = e.outs;
      sorts = e.sorts;
      groups = e.groups;
      aggs = e.aggs;
    }
