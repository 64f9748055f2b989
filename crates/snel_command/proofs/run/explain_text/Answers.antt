use Rattle.std.proofs.Common.{ap, Err, arith}
use Rattle.query_run.specs.declared.query_fault.QueryFault.{QueryFault}
use Rattle.snel_command.proofs.Commands.{never_exists, is_write_fault}
use Rattle.snel_command.proofs.run.explain_text.Goals as goal

pub returns-in-Ok-clause-write_fault : goal.returns-in-Ok-clause-write_fault
returns-in-Ok-clause-write_fault g c e = absurd (omega (arith, e))

pub returns-in-Err-clause-write_fault : goal.returns-in-Err-clause-write_fault
returns-in-Err-clause-write_fault g c e = c.in-Err.ensures.write_fault (ap (λ (f : QueryFault). Err f) (is_write_fault c.in-Err.fault e))

pub returns-in-Ok-clause-no_exists : goal.returns-in-Ok-clause-no_exists
returns-in-Ok-clause-no_exists g c e = absurd (omega (arith, e))

pub returns-in-Err-clause-no_exists : goal.returns-in-Err-clause-no_exists
returns-in-Err-clause-no_exists g c e = never_exists c.in-Err.fault e
