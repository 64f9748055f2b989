use Rattle.tree_meaning.specs.Tree.{Query}
use Rattle.std.specs.Prelude.{IfOk}
use Rattle.query_run.specs.Statuses.{status_after}
use Rattle.query_run.specs.Faults.{StopsSo}
use Rattle.query_run.specs.Sums.{SumsUp}
use Rattle.query_run.specs.declared.sum.QuerySum.{QuerySum}
use Rattle.query_run.proofs.Asking.{text_ends, text_cause, text_quiet, text_stops, text_reads, headline, simulates_it, only_it, asked_ends, asked_reads, asked_cause}
use Rattle.query_run.proofs.query.run_query.Goals as goal

pub returns-in-Err-clause-ends : goal.returns-in-Err-clause-ends
returns-in-Err-clause-ends g c = text_ends c.args.sql.now c.args.settings.now.groups c.args.names.now _ c.in-Err.fault _ c.in-Err.ensures.refused

pub returns-in-Err-clause-headline : goal.returns-in-Err-clause-headline
returns-in-Err-clause-headline g c = headline c.args.sql.now c.args.settings.now.groups c.args.names.now _ _ _ _ (text_ends c.args.sql.now c.args.settings.now.groups c.args.names.now _ c.in-Err.fault _ c.in-Err.ensures.refused)

pub returns-in-Err-clause-cause : goal.returns-in-Err-clause-cause
returns-in-Err-clause-cause g c = text_cause QuerySum c.args.sql.now c.args.settings.now.groups c.args.names.now _ c.in-Err.fault c.in-Err.ensures.refused

pub returns-in-Err-clause-quiet : goal.returns-in-Err-clause-quiet
returns-in-Err-clause-quiet g c = text_quiet QuerySum c.args.sql.now c.in-Err.fault _ c.in-Err.ensures.refused

pub returns-in-Err-clause-stopped : goal.returns-in-Err-clause-stopped
returns-in-Err-clause-stopped g c = text_stops QuerySum c.args.sql.now c.args.names.now _ c.in-Err.fault _ _ _ c.in-Err.ensures.refused

pub returns-in-Err-clause-taken : goal.returns-in-Err-clause-taken
returns-in-Err-clause-taken g c = text_reads c.args.sql.now c.args.names.now _ _

pub returns-in-Err-job_of-clause-ends : goal.returns-in-Err-job_of-clause-ends
returns-in-Err-job_of-clause-ends g c =
    text_ends c.args.sql.now c.args.settings.now.groups c.args.names.now _ c.in-Err-job_of.fault _ (c.in-Err-job_of.ensures.refused c.args.sql.now c.in-Ok.ensures.accepted)

pub returns-in-Err-job_of-clause-headline : goal.returns-in-Err-job_of-clause-headline
returns-in-Err-job_of-clause-headline g c =
    headline c.args.sql.now c.args.settings.now.groups c.args.names.now _ _ _ _ (text_ends c.args.sql.now c.args.settings.now.groups c.args.names.now _ c.in-Err-job_of.fault _ (c.in-Err-job_of.ensures.refused c.args.sql.now c.in-Ok.ensures.accepted))

pub run_job-requires-clause-simulates : goal.run_job-requires-clause-simulates
run_job-requires-clause-simulates g c = λ κs into.
    simulates_it c.args.sql.now c.in-Ok.checked c.in-Ok.ensures.accepted _ (c.in-Ok-job_of.ensures.compiled c.args.sql.now c.in-Ok.ensures.accepted)

pub returns-clause-ends : goal.returns-clause-ends
returns-clause-ends g c =
    asked_ends c.args.sql.now c.in-Ok.checked c.in-Ok.ensures.accepted _ (c.in-Ok-job_of.ensures.compiled c.args.sql.now c.in-Ok.ensures.accepted)
    c.args.settings.now.groups c.args.names.now (g.F.Files.told c.args.files.now) (status_after c.run_job.result) (g.O.Out.holds c.args.out.now) (g.O.Out.holds c.run_job.new.out) c.run_job.ensures.ran.ends

pub returns-clause-headline : goal.returns-clause-headline
returns-clause-headline g c =
    headline c.args.sql.now c.args.settings.now.groups c.args.names.now (g.F.Files.told c.args.files.now) (status_after c.run_job.result) (g.O.Out.holds c.args.out.now) (g.O.Out.holds c.run_job.new.out)
    (asked_ends c.args.sql.now c.in-Ok.checked c.in-Ok.ensures.accepted _ (c.in-Ok-job_of.ensures.compiled c.args.sql.now c.in-Ok.ensures.accepted)
    c.args.settings.now.groups c.args.names.now (g.F.Files.told c.args.files.now) (status_after c.run_job.result) (g.O.Out.holds c.args.out.now) (g.O.Out.holds c.run_job.new.out) c.run_job.ensures.ran.ends)

pub returns-clause-cause : goal.returns-clause-cause
returns-clause-cause g c =
    asked_cause c.args.sql.now c.in-Ok.checked c.in-Ok.ensures.accepted _ (c.in-Ok-job_of.ensures.compiled c.args.sql.now c.in-Ok.ensures.accepted)
    c.args.settings.now.groups c.args.names.now (g.F.Files.told c.args.files.now) c.run_job.result c.run_job.ensures.ran.cause

pub returns-clause-stopped : goal.returns-clause-stopped
returns-clause-stopped g c =
    only_it c.args.sql.now c.in-Ok.checked c.in-Ok.ensures.accepted _ (c.in-Ok-job_of.ensures.compiled c.args.sql.now c.in-Ok.ensures.accepted)
    (λ (p : Query). StopsSo {A = QuerySum} p c.args.names.now (g.F.Files.told c.args.files.now) c.run_job.result (g.F.Files.taken c.args.files.now) (g.F.Files.taken c.run_job.new.files) (g.O.Out.holds c.args.out.now) (g.O.Out.holds c.run_job.new.out)) c.run_job.ensures.ran.stopped

pub returns-clause-taken : goal.returns-clause-taken
returns-clause-taken g c =
    asked_reads c.args.sql.now c.in-Ok.checked c.in-Ok.ensures.accepted _ (c.in-Ok-job_of.ensures.compiled c.args.sql.now c.in-Ok.ensures.accepted)
    c.args.names.now (g.F.Files.told c.args.files.now) (g.F.Files.taken c.args.files.now) (g.F.Files.taken c.run_job.new.files) c.run_job.ensures.ran.later c.run_job.ensures.ran.taken

pub returns-clause-sum : goal.returns-clause-sum
returns-clause-sum g c =
    only_it c.args.sql.now c.in-Ok.checked c.in-Ok.ensures.accepted _ (c.in-Ok-job_of.ensures.compiled c.args.sql.now c.in-Ok.ensures.accepted)
    (λ (p : Query). IfOk c.run_job.result (λ s. SumsUp p c.args.names.now (g.F.Files.told c.args.files.now) s)) c.run_job.ensures.ran.sum

pub returns-clause-quiet : goal.returns-clause-quiet
returns-clause-quiet g c = c.run_job.ensures.ran.quiet
