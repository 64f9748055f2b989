use Rattle.std.proofs.Common.{rules, arith, length, ◌<◌}
use Rattle.scan_core.specs.States.{shown}
use Rattle.scan_core.proofs.Keeping.{kept_rows, rows_bound, claims_bound}
use Rattle.scan_core.proofs.Running.{at_here}
use Rattle.scan_core.proofs.state.ScanState.report_rows.Goals as goal

pub overflow_add-view : goal.overflow_add-view
overflow_add-view c =
    let at = at_here c.args.self.now.views c.args.seat c.index_mut-view.result.now (search rules) (search rules) in
    let kept = c.args.self.now.kept in let fits = (kept.each c.args.seat _ at).sound in let rows = fits.rows in let reports = fits.reports in
    let few = claims_bound (shown c.args.self.now) kept c.args.seat _ at in omega arith

pub overflow_add-view-2 : goal.overflow_add-view-2
overflow_add-view-2 c =
    let at = at_here c.args.self.now.views c.args.seat c.index_mut-view.result.now (search rules) (search rules) in
    let kept = c.args.self.now.kept in
    let few = claims_bound (shown c.args.self.now) kept c.args.seat _ at in let some_left : c.index_mut-view.result.now.reports < length c.index_mut-view.result.now.claims = search rules in omega arith

pub overflow_add-self : goal.overflow_add-self
overflow_add-self c = let bound = rows_bound (shown c.args.self.now) c.args.self.now.kept in omega arith

pub invariant_of-self-2 : goal.invariant_of-self-2
invariant_of-self-2 c =
    rw (c.from-more.ensures, c.views.view_is) record { kept = kept_rows (shown c.args.self.now) _ _ _ c.args.self.now.kept (at_here c.args.self.now.views c.args.seat c.index_mut-view.result.now (search rules) (search rules)) (search rules) (search rules) }
