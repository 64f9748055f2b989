use Rattle.snel_values.specs.View.{view}
use Rattle.plan_lower.proofs.PathValues.{literal_emitted}
use Rattle.plan_lower.proofs.paths.emit_literal.Goals as goal

pub returns : goal.returns
returns c = literal_emitted c.put.result c.args.builder.now c.put.new.self c.args.mask (view c.args.value.now) (view c.in_ok-value.value) c.in_ok-value.ensures c.put.ensures.ok c.put.ensures.number
