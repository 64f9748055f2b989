use Rattle.snel_command.proofs.Sink.{two}
use Rattle.snel_command.proofs.reporting.puts_counts.Goals as goal

pub returns-clause-line : goal.returns-clause-line
returns-clause-line g c = two c.puts_numbered.result _ _ _ _ _ c.in_ok-puts_number.ensures.line c.puts_numbered.ensures.line
