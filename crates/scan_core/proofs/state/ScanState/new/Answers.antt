use Rattle.scan_core.proofs.Running.{kept_opening, always_holds}
use Rattle.scan_core.proofs.state.ScanState.new.Goals as goal

pub invariant_of-result : goal.invariant_of-result
invariant_of-result c = rw c.in_ok-views.ensures record { kept = kept_opening c.args.seats c.args.blocks c.args.enough }

pub returns-in_err-views-clause-kept : goal.returns-in_err-views-clause-kept
returns-in_err-views-clause-kept c = (always_holds c.args.seats c.args.blocks c.args.enough).0

pub returns-in_err-views-clause-covered : goal.returns-in_err-views-clause-covered
returns-in_err-views-clause-covered c = (always_holds c.args.seats c.args.blocks c.args.enough).1

pub returns-in_err-views-clause-ended : goal.returns-in_err-views-clause-ended
returns-in_err-views-clause-ended c = (always_holds c.args.seats c.args.blocks c.args.enough).2

pub returns-in_err-views-clause-later : goal.returns-in_err-views-clause-later
returns-in_err-views-clause-later c = (always_holds c.args.seats c.args.blocks c.args.enough).3

pub returns-clause-kept : goal.returns-clause-kept
returns-clause-kept c = (always_holds c.args.seats c.args.blocks c.args.enough).0

pub returns-clause-covered : goal.returns-clause-covered
returns-clause-covered c = (always_holds c.args.seats c.args.blocks c.args.enough).1

pub returns-clause-ended : goal.returns-clause-ended
returns-clause-ended c = (always_holds c.args.seats c.args.blocks c.args.enough).2

pub returns-clause-later : goal.returns-clause-later
returns-clause-later c = (always_holds c.args.seats c.args.blocks c.args.enough).3
