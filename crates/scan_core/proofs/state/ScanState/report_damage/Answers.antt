use Rattle.std.proofs.Common.{rules}
use Rattle.scan_core.specs.States.{shown}
use Rattle.scan_core.proofs.Keeping.{kept_damage}
use Rattle.scan_core.proofs.Running.{at_here}
use Rattle.scan_core.proofs.state.ScanState.report_damage.Goals as goal

pub invariant_of-self-2 : goal.invariant_of-self-2
invariant_of-self-2 c =
    rw (c.lesser_of-self.ensures, c.lesser_of-view.ensures, c.views.view_is)
    record { kept = kept_damage (shown c.args.self.now) _ _ _ c.args.self.now.kept (at_here c.args.self.now.views c.args.seat c.index_mut-view.result.now (search rules) (search rules)) (search rules) }
