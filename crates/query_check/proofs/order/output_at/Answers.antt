use Rattle.std.proofs.Common.{◌∙◌, to_z, of_z, to_z-of_z}
use mir.Syntax.{w128}
use Rattle.query_tree.specs.Queries.{outs_view}
use Rattle.query_check.proofs.Ordered.{no_output, some_output}
use Rattle.query_check.proofs.order.output_at.Goals as goal

pub returns-then-number-lt1 : goal.returns-then-number-lt1
returns-then-number-lt1 c = no_output (outs_view c.args.outputs.now) c.args.number (to_z w128 (of_z w128 c.args.number)) (to_z-of_z {w = w128} c.ranges.number) c.if-number-lt1.true

pub returns : goal.returns
returns c = c.output_ex.ensures ∙ some_output (outs_view c.args.outputs.now) c.args.number (to_z w128 (of_z w128 c.args.number)) c.unsigned_abs.result (to_z-of_z {w = w128} c.ranges.number) c.if-number-lt1.false c.unsigned_abs.ensures.value
