use Rattle.snel_command.proofs.Sink.{three}
use Rattle.snel_command.proofs.reporting.puts_query.Goals as goal

pub returns-clause-line : goal.returns-clause-line
returns-clause-line g c = three c.puts-2.result _ _ _ _ _ _ _ c.in_ok-puts.ensures.line c.in_ok-puts_fault.ensures.line c.puts-2.ensures.line
