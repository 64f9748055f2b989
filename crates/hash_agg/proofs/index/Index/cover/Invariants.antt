use Rattle.std.proofs.Common.{map}
use Rattle.hash_agg.specs.Entries.{entry_of}
use Rattle.hash_agg.specs.Covers.{Covers}
use Rattle.hash_agg.proofs.index.Index.cover.Given as goal

abbrev pub invariant-loop : goal.invariant-loop
invariant-loop l = Covers l.self (map entry_of l.all)
