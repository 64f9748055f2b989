use Rattle.std.proofs.Common.{ap, sym, subst, Err, arith}
use Rattle.query_run.specs.declared.query_fault.QueryFault.{QueryFault}
use Rattle.query_run.specs.declared.sum.QuerySum.{QuerySum}
use Rattle.query_run.specs.Statuses as of_query
use Rattle.snel_command.specs.declared.outcome.Done.{Done}
use Rattle.snel_command.specs.Causes.{TellsCounts}
use Rattle.snel_command.proofs.Commands.{never_exists, is_absent, is_read_fault, is_write_fault, of_files, stops_not, stops, tells_counts, query_cause, quiet}
use Rattle.snel_command.proofs.run.query_files.Goals as goal

pub returns-in-Ok-clause-headline : goal.returns-in-Ok-clause-headline
returns-in-Ok-clause-headline g c = of_files _ 0 _ _ c.args.settings _ _ c.in-Ok.ensures.headline

pub returns-in-Ok-clause-stopped : goal.returns-in-Ok-clause-stopped
returns-in-Ok-clause-stopped g c = stops_not _ _ _ _ _ _ _ 0 (λ e. omega (arith, e)) (λ e. omega (arith, e)) (λ e. omega (arith, e)) (λ e. omega (arith, e))

pub returns-in-Ok-clause-cause : goal.returns-in-Ok-clause-cause
returns-in-Ok-clause-cause g c =
    let told = g.F.Files.told c.args.files.now in (
      c.in-Ok.ensures.cause,
      subst (λ (d : Done). TellsCounts c.args.settings.stats c.args.sql.now c.args.names.now told d) (sym c.done_of.ensures)
          (tells_counts c.args.settings.stats c.args.sql.now c.args.names.now told c.in-Ok.sum c.in-Ok.ensures.sum),
    )

pub returns-in-Ok-clause-absent : goal.returns-in-Ok-clause-absent
returns-in-Ok-clause-absent g c e = absurd (omega (arith, e))

pub returns-in-Ok-clause-read_fault : goal.returns-in-Ok-clause-read_fault
returns-in-Ok-clause-read_fault g c e = absurd (omega (arith, e))

pub returns-in-Ok-clause-write_fault : goal.returns-in-Ok-clause-write_fault
returns-in-Ok-clause-write_fault g c e = absurd (omega (arith, e))

pub returns-in-Err-clause-headline : goal.returns-in-Err-clause-headline
returns-in-Err-clause-headline g c = of_files _ (of_query.status_of c.in-Err.fault) _ _ c.args.settings _ _ c.in-Err.ensures.headline

pub returns-in-Err-clause-stopped : goal.returns-in-Err-clause-stopped
returns-in-Err-clause-stopped g c = stops _ _ _ _ _ _ QuerySum _ c.in-Err.fault c.in-Err.ensures.stopped

pub returns-in-Err-clause-cause : goal.returns-in-Err-clause-cause
returns-in-Err-clause-cause g c = query_cause QuerySum Done c.args.sql.now c.args.settings.groups c.args.names.now (g.F.Files.told c.args.files.now) c.in-Err.fault c.in-Err.ensures.cause

pub returns-in-Err-clause-absent : goal.returns-in-Err-clause-absent
returns-in-Err-clause-absent g c e = c.in-Err.ensures.absent (is_absent QuerySum c.in-Err.fault e)

pub returns-in-Err-clause-read_fault : goal.returns-in-Err-clause-read_fault
returns-in-Err-clause-read_fault g c e = c.in-Err.ensures.read_fault (ap (λ (f : QueryFault). Err f) (is_read_fault c.in-Err.fault e))

pub returns-in-Err-clause-write_fault : goal.returns-in-Err-clause-write_fault
returns-in-Err-clause-write_fault g c e = c.in-Err.ensures.write_fault (ap (λ (f : QueryFault). Err f) (is_write_fault c.in-Err.fault e))

pub returns-in-Ok-clause-quiet : goal.returns-in-Ok-clause-quiet
returns-in-Ok-clause-quiet g c least most = absurd (omega (arith, least))

pub returns-in-Err-clause-quiet : goal.returns-in-Err-clause-quiet
returns-in-Err-clause-quiet g c least most = quiet QuerySum c.in-Err.fault _ _ c.in-Err.ensures.quiet least most

pub returns-in-Ok-clause-no_exists : goal.returns-in-Ok-clause-no_exists
returns-in-Ok-clause-no_exists g c e = absurd (omega (arith, e))

pub returns-in-Err-clause-no_exists : goal.returns-in-Err-clause-no_exists
returns-in-Err-clause-no_exists g c e = never_exists c.in-Err.fault e
