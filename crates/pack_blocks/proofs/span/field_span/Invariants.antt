use Rattle.std.proofs.Common.{take, Some}
use Rattle.snel_values.specs.View.{views}
use Rattle.pack_meaning.specs.PackedFiles.{times_in}
use Rattle.pack_blocks.specs.Spans.{IsSpan}
use Rattle.pack_blocks.proofs.span.field_span.Given as goal

abbrev pub invariant-loop-row : goal.invariant-loop-row
invariant-loop-row l = IsSpan (times_in (Some l.field) (take l.row-index (views l.rows))) l.span
