use Rattle.std.proofs.Common.{rules}
use Rattle.scan_core.specs.States.{shown}
use Rattle.scan_core.proofs.Keeping.{kept_look_damage}
use Rattle.scan_core.proofs.Running.{at_here}
use Rattle.scan_core.proofs.state.ScanState.look_damage.Goals as goal

pub invariant_of-self : goal.invariant_of-self
invariant_of-self c =
    rw c.views.view_is record { kept = kept_look_damage (shown c.args.self.now) _ _ c.args.self.now.kept (at_here c.args.self.now.views c.args.seat c.index_mut.result.now (search rules) (search rules)) }
