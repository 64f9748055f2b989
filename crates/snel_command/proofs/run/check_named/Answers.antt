use Rattle.std.proofs.Common.{ap, Err, arith}
use Rattle.query_run.specs.declared.query_fault.QueryFault.{QueryFault}
use Rattle.snel_command.specs.declared.outcome.Done.{Done}
use Rattle.snel_command.proofs.Commands.{never_exists, is_absent, is_read_fault, is_write_fault, check_cause}
use Rattle.snel_command.proofs.run.check_named.Goals as goal

pub returns-in-Ok-clause-absent : goal.returns-in-Ok-clause-absent
returns-in-Ok-clause-absent g c e = absurd (omega (arith, e))

pub returns-in-Ok-clause-read_fault : goal.returns-in-Ok-clause-read_fault
returns-in-Ok-clause-read_fault g c e = absurd (omega (arith, e))

pub returns-in-Ok-clause-write_fault : goal.returns-in-Ok-clause-write_fault
returns-in-Ok-clause-write_fault g c e = absurd (omega (arith, e))

pub returns-in-Err-clause-cause : goal.returns-in-Err-clause-cause
returns-in-Err-clause-cause g c = check_cause (Unit {0}) Done c.args.names.now (g.F.Files.told c.args.files.now) c.in-Err.fault c.in-Err.ensures.cause

pub returns-in-Err-clause-absent : goal.returns-in-Err-clause-absent
returns-in-Err-clause-absent g c e = c.in-Err.ensures.absent (is_absent (Unit {0}) c.in-Err.fault e)

pub returns-in-Err-clause-read_fault : goal.returns-in-Err-clause-read_fault
returns-in-Err-clause-read_fault g c e = c.in-Err.ensures.read_fault (ap (λ (f : QueryFault). Err f) (is_read_fault c.in-Err.fault e))

pub returns-in-Err-clause-write_fault : goal.returns-in-Err-clause-write_fault
returns-in-Err-clause-write_fault g c e = c.in-Err.ensures.write_fault (ap (λ (f : QueryFault). Err f) (is_write_fault c.in-Err.fault e))

pub returns-in-Ok-clause-no_exists : goal.returns-in-Ok-clause-no_exists
returns-in-Ok-clause-no_exists g c e = absurd (omega (arith, e))

pub returns-in-Err-clause-no_exists : goal.returns-in-Err-clause-no_exists
returns-in-Err-clause-no_exists g c e = never_exists c.in-Err.fault e
