use Rattle.std.proofs.Common.{◌∙◌, add-one}
use Rattle.program_meaning.specs.Registers.{value_at}
use Rattle.snel_values.specs.View.{view}
use Rattle.lane_ssa.specs.Frames.{state_at}
use Rattle.block_lines.proofs.KeyedRows.{value_made}
use Rattle.block_lines.proofs.values.values_of.Goals as goal

pub loop-at-preserved : goal.loop-at-preserved
loop-at-preserved c =
    let state = state_at c.args.table.now c.args.frame.now c.args.lane in
    rw add-one (value_made (value_at state) c.args.registers.now c.loop-at.at c.in-Some.register c.in-Some.ensures c.loop-at.values c.push.new.self (view c.in_ok-value.value)
    c.in_ok-push.ensures.ok (c.in_ok-value.ensures ∙ c.lane.ensures.value c.args.table.now) c.loop-at.invariant)
