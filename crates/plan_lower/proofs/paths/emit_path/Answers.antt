use Rattle.query_tree.specs.View.{step_view}
use Rattle.plan_lower.proofs.PathValues.{row_computed, path_goes_on}
use Rattle.plan_lower.proofs.paths.emit_path.Goals as goal

pub loop-at-init : goal.loop-at-init
loop-at-init c = row_computed c.args.builder.now c.args.mask c.requires

pub loop-at-preserved : goal.loop-at-preserved
loop-at-preserved c =
    path_goes_on step_view c.args.builder.now c.loop-at.builder c.emit_step.new.builder c.args.mask c.loop-at.of c.in_ok-of.of c.args.steps.now c.loop-at.at c.step_at.result.now c.requires.mask c.step_at.ensures c.loop-at.invariant c.in_ok-of.ensures
