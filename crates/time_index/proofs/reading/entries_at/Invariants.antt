use Rattle.time_index.proofs.Walk.{HasWalked}
use Rattle.time_index.proofs.reading.entries_at.Given as goal

abbrev pub invariant-loop-i : goal.invariant-loop-i
invariant-loop-i l = HasWalked l.to l.count l.at l.i l.from l.bytes l.entries
