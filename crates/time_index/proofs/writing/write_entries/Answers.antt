use Rattle.time_index.proofs.Written.{next_entry}
use Rattle.time_index.proofs.writing.write_entries.Goals as goal

pub loop-entry-preserved : goal.loop-entry-preserved
loop-entry-preserved c =
    next_entry c.loop-entry.into c.write_entry.new.into c.args.into.now c.args.entries.now c.loop-entry.entry-index c.entry-item.result
    c.loop-entry-test.true c.entry-item.is c.in_ok-write_entry.ensures c.loop-entry.invariant
