use Rattle.std.proofs.Common.{refl, arith}
use Rattle.pack_blocks.proofs.Spans.{span_none, span_step, span_all}
use Rattle.pack_blocks.proofs.span.field_span.Goals as goal

pub loop-row-init : goal.loop-row-init
loop-row-init c = span_none _ refl refl refl

pub loop-row-preserved : goal.loop-row-preserved
loop-row-preserved c = span_step c.args.field.now c.args.rows.now _ c.row-item.result _ (omega arith) c.row-item.is (c.with_own-span.ensures _ c.loop-row.invariant)

pub returns : goal.returns
returns c = span_all c.args.field.now c.args.rows.now _ _ (omega arith) c.loop-row.invariant
