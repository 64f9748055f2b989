use Rattle.snel_words.specs.Words.{asked}
use Rattle.command_tests.proofs.Steady.{never_read, never_written}
use Rattle.command_tests.proofs.tests.steady.Goals as goal

pub returns-clause-no_read_fault : goal.returns-clause-no_read_fault
returns-clause-no_read_fault g c e = never_read (asked c.args.words.now) (c.snel.ensures.read_fault e)

pub returns-clause-no_write_fault : goal.returns-clause-no_write_fault
returns-clause-no_write_fault g c e = never_written (asked c.args.words.now) (c.snel.ensures.write_fault e)
