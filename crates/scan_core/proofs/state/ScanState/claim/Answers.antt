use Rattle.std.proofs.Common.{rules, ◌≡◌, ◌++◌, ◌∷◌, []}
use Rattle.scan_core.specs.States.{shown}
use Rattle.scan_core.proofs.Keeping.{kept_claim, kept_end}
use Rattle.scan_core.proofs.Running.{at_here}
use Rattle.scan_core.proofs.state.ScanState.claim.Goals as goal

pub invariant_of-self-then-next-blocks : goal.invariant_of-self-then-next-blocks
invariant_of-self-then-next-blocks c =
    rw c.views.view_is record { kept = kept_end (shown c.args.self.now) _ _ c.args.self.now.kept (at_here c.args.self.now.views c.args.seat c.index_mut-view.result.now (search rules) (search rules)) (search rules) }

pub invariant_of-self-2 : goal.invariant_of-self-2
invariant_of-self-2 c =
    let pushed : c.push.new.self ≡ c.index_mut-view.result.now.claims ++ c.args.self.now.next ∷ [] = search rules in
    rw (pushed, c.views.view_is) record { kept = kept_claim (shown c.args.self.now) _ _ c.args.self.now.kept (at_here c.args.self.now.views c.args.seat c.index_mut-view.result.now (search rules) (search rules)) (search rules) }
